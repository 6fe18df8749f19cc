-- A frame that moves a channel's own volume off its applied volume moves it to clipped_level_min or above, and within the classroom so to min_input_volume or above. Assumes nothing.
use mathlib.Core.Path.{◌≡◌, refl, sym, ap, subst, ◌∙◌}
use mathlib.Core.Bool.{Bool, true, false, not}
use mathlib.Core.List.{List, map}
use Prim.Native.Nat.{ℕ, ◌≤◌, ◌<◌, min}
use native.Mathlib.Omega.{arith}
use lib.Dec.{T, leb, eqb, le→leb}
use lib.IntN.{ℤ, pos}
use lib.Signed.{le_z_yes}
use lib.Ieee.{Float}
use lib.ListN.{length, get_or, replicate, get_or-replicate, get_or-map}
use Rattle.std.specs.Prelude.{Ok, Option, None, Some}
use Rattle.numbers.proofs.Signs.{clash, ≤ℤ-trans}
use Rattle.clipping_predictor.specs.declared.settings.ClippingPredictorConfig.{ClippingPredictorConfig}
use Rattle.mono_input_volume_controller.specs.declared.config.Config.{Config}
use Rattle.mono_input_volume_controller.specs.declared.profile.Profile.{Profile}
use Rattle.mono_input_volume_controller.specs.declared.profile.Profile.TheVariants.{Classroom}
use Rattle.mono_input_volume_controller.specs.declared.config.Settings.{Settings}
use Rattle.mono_input_volume_controller.specs.declared.mono.MonoInputVolumeController.{MonoInputVolumeController}
use Rattle.mono_input_volume_controller.specs.Config.{settings_from}
use Rattle.mono_input_volume_controller.specs.Mono.{created, is_users, unless_same, unless_users, unless_muted, with_input_volume, lowered, lower_ceiling, unless_at_floor, handled_clipping}
use Rattle.input_volume_controller.specs.Channels.{StreamAnalogLevel, Clipping, no_channel, called}
use Rattle.input_volume_controller.specs.declared.limits.Limits.{Limits}
use Rattle.input_volume_controller.specs.declared.InputVolumeController.{InputVolumeController}
use Rattle.input_volume_controller.specs.Controller.{Controller, view_of, Making, making_with}
use Rattle.input_volume_controller.specs.Profile.{making_in}
use Rattle.input_volume_controller.specs.Reply.{mark}
use Rattle.input_volume_controller.specs.Calls.{Call, frame, Answer, step, after, Does}
use Rattle.claims.specs.Past.{is_accepted}
use Rattle.claims.specs.Depends.{state_of}
use Rattle.claims.specs.EachTakesItsOwn.{volume_at, lowered_by}
use Rattle.claims.specs.Made.{MadeAndHad}
use Rattle.claims.specs.Sharp.{is_refusal}
use Rattle.claims.specs.Classroom.{NoneMovedBelow, NeverMovesBelow, NeverMovedBelow, ClassroomKeepsMinimum}
use Rattle.claims.proofs.Accepted.{accepted_is_not_refused}
use Rattle.claims.proofs.InProfile.{in_profile_taken, by_plain, in_classroom}
use Rattle.claims.proofs.Had.{had_stands, had_accepted}
use Rattle.claims.proofs.Made.{accepted_making, level_kept}
use Rattle.claims.proofs.Cores.{core}
use Rattle.claims.proofs.Kept.{Kept, kept_fresh, kept_after, count_of}
use Rattle.claims.proofs.EachTakesItsOwn.{each_takes_its_own}

-- ---- one channel

-- a volume that is set is left where it was, or set to at least the floor
module _ (floor volume : ℕ) where
  abbrev Held : MonoInputVolumeController → Type 0
  Held m = (m.volume ≡ volume → ⊥) → floor ≤ m.volume

  module _ (m : MonoInputVolumeController) (e : m.volume ≡ volume) where
    held_same : (t : Bool) (new : ℕ) → floor ≤ new → Held (unless_same t new m)
    held_same true new h = λ off. absurd (off e)
    held_same false new h = λ off. h

    held_users : (t : Bool) (new : ℕ) → floor ≤ new → Held (unless_users t new m)
    held_users true new h = λ off. absurd (off e)
    held_users false new h = held_same (eqb new m.last) new h

    held_muted : (t : Bool) (new : ℕ) → floor ≤ new → Held (unless_muted t new m)
    held_muted true new h = λ off. absurd (off e)
    held_muted false new h = held_users (is_users m.last m.volume) new h

    held_floor : (t : Bool) (new : ℕ) → floor ≤ min new m.ceiling → Held (unless_at_floor t new m)
    unfolding with_input_volume
    held_floor true new h = λ off. absurd (off e)
    held_floor false new h = held_muted (eqb m.volume 0) (min new m.ceiling) h

-- clipping lowers the last volume and the ceiling to the floor at most
held_clipped : (amount : ℕ) (m : MonoInputVolumeController) → Held m.floor m.volume (called (Clipping amount) m)
unfolding called handled_clipping
held_clipped amount m = held_floor m.floor m.volume (lower_ceiling amount m) refl (leb m.last m.floor) (lowered m amount m.last) (omega arith)

held_lowered : (lowering : Option ℕ) (m : MonoInputVolumeController) → Held m.floor m.volume (lowered_by lowering m)
held_lowered None m = λ off. absurd (off refl)
held_lowered (Some amount) m = held_clipped amount m

held_given : (lowering : Option ℕ) (given : ℕ) (m : MonoInputVolumeController) → Held m.floor given (lowered_by lowering (called (StreamAnalogLevel given) m))
unfolding called
held_given lowering given m = held_lowered lowering (called (StreamAnalogLevel given) m)

-- ---- every channel

-- each has this floor
abbrev Floored : ℕ → Controller → Type 0
Floored floor c = (channel : ℕ) → channel < length c.control.channels → (state_of channel c).floor ≡ floor

never_below : (floor : ℕ) (c : Controller) → Floored floor c → NeverMovesBelow (pos floor) c
never_below floor c floored most volumes samples lent t channel inside off =
    let took = each_takes_its_own c most volumes samples lent t in
    let here : channel < length c.control.channels = omega (arith, inside, took.count) in
    let given = volume_at volumes channel in
    let is = took.each channel here in
    let held : Held (state_of channel c).floor given (state_of channel (step c (frame most volumes samples lent)).state) =
    subst (Held (state_of channel c).floor given) (sym is) (held_given took.lowering given (state_of channel c)) in
    le_z_yes (le→leb floor _ (omega (arith, held off, floored channel here)))

-- the settings that a channel carries are kept, and its floor is one of them
floored_kept : (s : Settings) (n : ℕ) (c : Controller) (channel : ℕ) → length c.control.channels ≡ n → map core c.control.channels ≡ replicate n (core (created s)) → channel < length c.control.channels
    → (state_of channel c).floor ≡ s.floor
floored_kept s n c channel count cores inside =
    ap (λ (m : MonoInputVolumeController). m.floor)
    (sym (get_or-map core c.control.channels channel no_channel)
    ∙ ap (λ (ms : List MonoInputVolumeController). get_or ms channel (core no_channel)) cores
    ∙ get_or-replicate n channel (core (created s)) (core no_channel) (omega (arith, inside, count)))

-- ---- a making

module _ (channels : ℤ) (config : Config) (predictor : ClippingPredictorConfig) where
  plain_level : (making_with channels config predictor).answer ≡ Ok tt → (calls : List Call) → NeverMovesBelow config.clipped_level_min (after (making_with channels config predictor).controller calls)
  plain_level accepted calls =
      let m = accepted_making channels config predictor accepted in
      let s = settings_from config in
      let p = m.choice.predictor in
      let new = (making_with channels config predictor).controller in
      let kept : Kept p s m.count (after new calls) = kept_after p s m.count calls new (subst (Kept p s m.count) (sym m.choice.is) (kept_fresh p s m.count)) in
      subst (λ (z : ℤ). NeverMovesBelow z (after new calls)) (level_kept config new m)
      (never_below s.floor (after new calls) (λ channel inside. floored_kept s m.count (after new calls) channel (count_of s m.count _ kept.control) kept.control.cores inside))

  at_level : (profile : Profile) → (making_in profile channels config predictor).answer ≡ Ok tt → NeverMovedBelow config.clipped_level_min profile channels config predictor
  at_level profile h calls = by_plain profile channels config predictor h (λ (m : Making). NeverMovesBelow config.clipped_level_min (after m.controller calls)) (λ k. plain_level k calls)

  -- within the classroom the minimum lies at or below it
  defined : (making_in Classroom channels config predictor).answer ≡ Ok tt → NeverMovedBelow config.min_input_volume Classroom channels config predictor
  defined h calls most volumes samples lent t channel inside off =
      ≤ℤ-trans (le_z_yes (subst T (sym (in_classroom config (in_profile_taken Classroom channels config predictor h)).level) tt)) (at_level Classroom h calls most volumes samples lent t channel inside off)

-- ---- the code

not_not : (t : Bool) → false ≡ not t → T t
not_not true e = tt
not_not false e = clash (sym e)

-- a frame with a mark was accepted
marked_accepted : (c : Controller) (most : Limits) (volumes : List ℤ) (samples : ℕ) (lent : List Float) (near : Bool) → mark near ≡ (step c (frame most volumes samples lent)).reply
    → T (is_accepted most (length c.control.channels) volumes samples lent)
marked_accepted c most volumes samples lent near e =
    let taken = ap is_refusal e ∙ accepted_is_not_refused c most volumes samples lent in
    not_not (is_accepted most (length c.control.channels) volumes samples lent) taken

in_code : (channels : ℤ) (config : Config) (predictor : ClippingPredictorConfig) (calls : List Call) (heard : List Answer) (c d : InputVolumeController)
    (most : Limits) (volumes : List ℤ) (samples : ℕ) (lent : List Float) (near : Bool) → MadeAndHad Classroom channels config predictor calls heard c
    → Does c (frame most volumes samples lent) (mark near) d → NoneMovedBelow config.min_input_volume volumes (view_of d).control
in_code channels config predictor calls heard c d most volumes samples lent near m done =
    let new = (making_in Classroom channels config predictor).controller in
    let stands = had_stands Classroom channels config predictor calls heard c m in
    let never = subst (NeverMovesBelow config.min_input_volume) (sym stands) (defined channels config predictor (had_accepted Classroom channels config predictor calls heard c m) calls) in
    subst (λ (v : Controller). NoneMovedBelow config.min_input_volume volumes v.control) (sym done.view)
    (never most volumes samples lent (marked_accepted (view_of c) most volumes samples lent near done.reply))

-- THE CLAIM
pub classroom_keeps_minimum : ClassroomKeepsMinimum
classroom_keeps_minimum = record {
  defined = defined;
  in_code = in_code;
  at_level = λ profile channels config predictor. at_level channels config predictor profile;
}
