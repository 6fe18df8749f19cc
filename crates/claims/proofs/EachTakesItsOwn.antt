-- Each channel takes its own volume of an accepted set. Assumes nothing.
use mathlib.Core.Path.{◌≡◌, refl, ap, ◌∙◌}
use mathlib.Core.Bool.{Bool, true, false, ◌||◌}
use mathlib.Core.List.{List, [], ◌∷◌, map}
use Prim.Native.Nat.{ℕ, zero, suc, ◌<◌, max}
use native.Mathlib.Nat.{not-suc-le-zero, le_of_suc-le-suc}
use native.Mathlib.Omega.{arith}
use lib.Dec.{ltb}
use lib.IntN.{pos, nat_abs}
use lib.Ieee.{Float, lt}
use lib.ListN.{length, get_or, length-map, get_or-map}
use Rattle.std.specs.Prelude.{Option, None, Some}
use Rattle.numbers.proofs.Signs.{clash}
use Rattle.clipping_predictor.specs.Predictor.{entered_if}
use Rattle.clipping_predictor.specs.AllRings.{predicted_by}
use Rattle.mono_input_volume_controller.specs.declared.mono.MonoInputVolumeController.{MonoInputVolumeController}
use Rattle.input_volume_controller.specs.Channels.{StreamAnalogLevel, Clipping, no_channel, called, each_called, each_given}
use Rattle.input_volume_controller.specs.ClippedRatio.{clipped_ratio_of}
use Rattle.input_volume_controller.specs.ControlCalls.{aggregated, with_applied_input_volumes, lower_channels}
use Rattle.input_volume_controller.specs.Controller.{Controller}
use Rattle.input_volume_controller.specs.Reply.{Stepped}
use Rattle.input_volume_controller.specs.Frame.{asked_of, handle_if, unless_waiting, if_used, with_volumes_applied}
use Rattle.input_volume_controller.specs.Calls.{frame, step}
use Rattle.claims.specs.EachTakesItsOwn.{lowered_by, EachTakesItsOwn}
use Rattle.input_volume_controller.proofs.ChannelLists.{length_given}
use Rattle.claims.proofs.Outcomes.{accepted_as}
use Rattle.claims.proofs.Runs.{step_accepted}

-- ---- all channels lowered, or none

abbrev lowered_all : Option ℕ → List MonoInputVolumeController → List MonoInputVolumeController
lowered_all None ms = ms
lowered_all (Some amount) ms = each_called (Clipping amount) ms

-- with capture on or off: none with capture off
record Lowered (used : Bool) (before after : List MonoInputVolumeController) : Type 0 where
  lowering : Option ℕ
  off : used ≡ false → lowering ≡ None
  is : after ≡ lowered_all lowering before

lowered_handled : (t : Bool) (amount : ℕ) (c : Controller) → Lowered true c.control.channels (handle_if t amount c).control.channels
unfolding lower_channels aggregated
lowered_handled true amount c = record { lowering = Some amount; off = λ e. clash e; is = refl }
lowered_handled false amount c = record { lowering = None; off = λ e. refl; is = refl }

lowered_waiting : (t clipped : Bool) (c : Controller) → Lowered true c.control.channels (unless_waiting t clipped c).state.control.channels
lowered_waiting true clipped c = record { lowering = None; off = λ e. refl; is = refl }
lowered_waiting false clipped c =
    let e = predicted_by (asked_of c.control) c.predictor in
    lowered_handled (clipped || ltb 0 e.drop) (max c.control.settings.step e.drop) c

lowered_used : (t : Bool) (samples : ℕ) (lent : List Float) (c : Controller) → Lowered t c.control.channels (if_used t samples lent c).state.control.channels
lowered_used true samples lent c =
    lowered_waiting (ltb c.control.since c.control.settings.clipped_wait) (lt c.control.settings.clipped_ratio (clipped_ratio_of (length c.control.channels) samples lent))
    (record { control = c.control; predictor = entered_if true samples lent c.predictor })
lowered_used false samples lent c = record { lowering = None; off = λ e. refl; is = refl }

-- ---- place by place

length_lowered : (lowering : Option ℕ) (ms : List MonoInputVolumeController) → length (lowered_all lowering ms) ≡ length ms
length_lowered None ms = refl
length_lowered (Some amount) ms = length-map ms (called (Clipping amount))

mapped_at : (f : MonoInputVolumeController → MonoInputVolumeController) (ms : List MonoInputVolumeController) (i : ℕ) → i < length ms → get_or (map f ms) i no_channel ≡ f (get_or ms i no_channel)
mapped_at f [] i h = absurd (not-suc-le-zero h)
mapped_at f (m ∷ ms) zero h = refl
mapped_at f (m ∷ ms) (suc i) h = mapped_at f ms i (le_of_suc-le-suc h)

lowered_at : (lowering : Option ℕ) (ms : List MonoInputVolumeController) (i : ℕ) → i < length ms → get_or (lowered_all lowering ms) i no_channel ≡ lowered_by lowering (get_or ms i no_channel)
lowered_at None ms i h = refl
lowered_at (Some amount) ms i h = mapped_at (called (Clipping amount)) ms i h

given_at : (vs : List ℕ) (ms : List MonoInputVolumeController) (i : ℕ) → length vs ≡ length ms → i < length ms
    → get_or (each_given vs ms) i no_channel ≡ called (StreamAnalogLevel (get_or vs i 0)) (get_or ms i no_channel)
unfolding each_given
given_at vs [] i e h = absurd (not-suc-le-zero h)
given_at [] (m ∷ ms) i e h = absurd (omega (arith, e))
given_at (v ∷ vs) (m ∷ ms) zero e h = refl
given_at (v ∷ vs) (m ∷ ms) (suc i) e h = given_at vs ms i (omega (arith, e)) (le_of_suc-le-suc h)

-- ---- the frame

-- THE CLAIM
pub each_takes_its_own : EachTakesItsOwn
unfolding with_applied_input_volumes aggregated
each_takes_its_own c most volumes samples lent t =
    let n = length c.control.channels in
    let numbers = map nat_abs volumes in
    let given = each_given numbers c.control.channels in
    let next : step c (frame most volumes samples lent) ≡ if_used c.control.used samples lent (with_volumes_applied numbers c) = step_accepted n most volumes samples lent c refl t in
    let l = lowered_used c.control.used samples lent (with_volumes_applied numbers c) in
    let is : (step c (frame most volumes samples lent)).state.control.channels ≡ lowered_all l.lowering given = ap (λ (s : Stepped). s.state.control.channels) next ∙ l.is in
    let count = length_given numbers c.control.channels in
    let same = length-map volumes nat_abs ∙ (accepted_as most volumes samples lent n t).count in
    record {
      lowering = l.lowering;
      off = l.off;
      count = ap length is ∙ length_lowered l.lowering given ∙ count;
      each = λ channel h.
          ap (λ (ms : List MonoInputVolumeController). get_or ms channel no_channel) is
          ∙ lowered_at l.lowering given channel (omega (arith, count, h))
          ∙ ap (lowered_by l.lowering) (given_at numbers c.control.channels channel same h)
          ∙ ap (λ (v : ℕ). lowered_by l.lowering (called (StreamAnalogLevel v) (get_or c.control.channels channel no_channel))) (get_or-map nat_abs volumes channel (pos 0));
    }
