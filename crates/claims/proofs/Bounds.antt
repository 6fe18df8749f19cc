-- After any calls on a controller that was made, every volume is at most 255, and a recommendation with capture on and a volume above 0 applied is at least the minimum. Assumes nothing.
use mathlib.Core.Path.{◌≡◌, refl, ap, subst, ◌∙◌}
use mathlib.Core.Bool.{Bool, true, false}
use mathlib.Core.List.{List}
use Prim.Native.Nat.{ℕ, zero, suc, ◌≤◌, zero-le}
use native.Mathlib.Nat.{not-suc-le-zero}
use native.Mathlib.Omega.{arith}
use lib.Dec.{ltb, le→leb}
use lib.IntN.{ℤ, pos}
use lib.Signed.{le_z_yes}
use lib.Ieee.{Float, lt}
use lib.ListN.{length}
use Rattle.std.specs.Prelude.{Err, None, Ok, Option, Result, Some}
use Rattle.numbers.specs.declared.refusal.Refusal.{Refusal}
use Rattle.numbers.specs.Natural.{within_of}
use Rattle.clipping_predictor.specs.Predictor.{max_channels, entered_if}
use Rattle.clipping_predictor.specs.declared.settings.ClippingPredictorConfig.{ClippingPredictorConfig}
use Rattle.mono_input_volume_controller.specs.declared.config.Config.{Config}
use Rattle.mono_input_volume_controller.specs.declared.config.Settings.{Settings}
use Rattle.mono_input_volume_controller.specs.Config.{settings_from}
use Rattle.input_volume_controller.specs.ClippedRatio.{clipped_ratio_of}
use Rattle.input_volume_controller.specs.Control.{Control}
use Rattle.input_volume_controller.specs.ControlCalls.{raised_for, aggregated, process_channels}
use Rattle.input_volume_controller.specs.Controller.{Controller, Making, making_with}
use Rattle.input_volume_controller.specs.Reply.{Reply, mark, refusal, volume, none, done}
use Rattle.input_volume_controller.specs.Volumes.{numbers_of, numbers_in}
use Rattle.input_volume_controller.specs.Frame.{with_volumes_applied, frame_outcome, unless_waiting, if_used, unless_refused, analyze_input_audio}
use Rattle.input_volume_controller.specs.Recommendation.{recommend_if, unless_none, recommend_input_volume}
use Rattle.input_volume_controller.specs.Calls.{Call, frame, recommendation, initialise, capture_switch, step, after}
use Rattle.claims.specs.Bounds.{Within, InBounds, AnswersVolumes, Bounds}
use Rattle.claims.proofs.Walk.{Any, any_by, after_keeps, step_keeps}
use Rattle.claims.proofs.InProfile.{by_plain}
use Rattle.claims.proofs.Made.{MadeWith, accepted_making, made_sound, minimum_most, minimum_kept}
use Rattle.claims.proofs.Sound.{AppliedMost, Sound, sound_kept}

within : (low n : ℕ) → low ≤ n → n ≤ 255 → Within (pos low) (pos n)
within low n h k = record { least = le_z_yes (le→leb low n h); most = le_z_yes (le→leb n 255 k) }

-- ---- a reply that is a volume

abbrev Fine : Reply → Type 0
Fine (mark near) = Unit {0}
Fine (refusal number) = Unit {0}
Fine (volume z) = Within (pos 0) z
Fine none = Unit {0}
Fine done = Unit {0}

waiting_fine : (waits clipped : Bool) (c : Controller) → Fine (unless_waiting waits clipped c).reply
waiting_fine true clipped c = tt
waiting_fine false clipped c = tt

used_fine : (used : Bool) (samples : ℕ) (lent : List Float) (c : Controller) → Fine (if_used used samples lent c).reply
used_fine true samples lent c =
    waiting_fine (ltb c.control.since c.control.settings.clipped_wait) (lt c.control.settings.clipped_ratio (clipped_ratio_of (length c.control.channels) samples lent))
    (record { control = c.control; predictor = entered_if true samples lent c.predictor })
used_fine false samples lent c = tt

frame_fine : (o : Result (Unit {0}) Refusal) (volumes : List ℕ) (samples : ℕ) (lent : List Float) (c : Controller) → Fine (unless_refused o volumes samples lent c).reply
frame_fine (Err cause) volumes samples lent c = tt
frame_fine (Ok tt) volumes samples lent c = used_fine c.control.used samples lent (with_volumes_applied volumes c)

-- with a volume above 0 pending, the volume that is taken is raised to the minimum
raised_from : (a : Option ℕ) (v least x : ℕ) → a ≡ Some (suc v) → least ≤ raised_for a least x
unfolding raised_for
raised_from a v least x e = rw e (omega arith)

processed_least : (c : Control) (p : Float) (l : Option Float) (v : ℕ) → c.applied ≡ Some (suc v) → c.settings.least ≤ (process_channels p l c).volume
unfolding process_channels aggregated
processed_least c p l v e = raised_from c.applied v c.settings.least _ e

module _ (s : Settings) (low : s.least ≤ 255) where
  -- the volume that a recommendation takes
  processed_most : (p : Float) (l : Option Float) (c : Control) → Sound s c → (process_channels p l c).volume ≤ 255
  processed_most p l c h = ((sound_kept s low).runs.processes p l c h).volume

  recommends_fine : (used : Bool) (applied : ℕ) (p : Float) (l : Option Float) (c : Controller) → applied ≤ 255 → Sound s c.control → Fine (recommend_if used applied p l c).reply
  recommends_fine true applied p l c k h = within 0 _ zero-le (processed_most p l c.control h)
  recommends_fine false applied p l c k h = within 0 applied zero-le k

  recommendation_fine : (a : Option ℕ) (p : Float) (l : Option Float) (c : Controller) → c.control.applied ≡ a → Sound s c.control → Fine (unless_none a p l c).reply
  recommendation_fine None p l c e h = tt
  recommendation_fine (Some v) p l c e h = recommends_fine c.control.used v p l c (subst AppliedMost e h.applied) h

  step_fine : (call : Call) (c : Controller) → Sound s c.control → Fine (step c call).reply
  unfolding analyze_input_audio recommend_input_volume
  step_fine (frame most v samples lent) c h = frame_fine (frame_outcome most (length c.control.channels) v samples lent) (numbers_in (numbers_of v)) samples lent c
  step_fine (recommendation p l) c h = recommendation_fine c.control.applied p l c refl h
  step_fine initialise c h = tt
  step_fine (capture_switch on) c h = tt

  sound_answers : (call : Call) (c : Controller) → Sound s c.control → AnswersVolumes c call
  sound_answers call c h = record { reply = λ z e. subst Fine e (step_fine call c h); after = (step_keeps Any (Sound s) (sound_kept s low) call c (any_by call c) h).volume }

  -- ---- with capture on and a volume above 0 applied

  raised_least : (c : Control) (p : Float) (l : Option Float) (v : ℕ) → c.applied ≡ Some (suc v) → Sound s c → s.least ≤ (process_channels p l c).volume
  raised_least c p l v e h = omega (arith, processed_least c p l v e, ap (λ (t : Settings). t.least) h.settings)

  sound_bounds : (c : Controller) → Sound s c.control → InBounds (pos s.least) c
  unfolding recommend_input_volume
  sound_bounds c h zero on e pos-applied p l = absurd (not-suc-le-zero pos-applied)
  sound_bounds c h (suc v) on e pos-applied p l = record {
    recommended = pos (process_channels p l c.control).volume;
    is = ap (λ (a : Option ℕ). (unless_none a p l c).reply) e ∙ ap (λ (t : Bool). (recommend_if t (suc v) p l c).reply) on;
    within = within s.least _ (raised_least c.control p l v e h) (processed_most p l c.control h);
  }

-- ---- the claim

module _ (channels : ℤ) (config : Config) (predictor : ClippingPredictorConfig) (accepted : (making_with channels config predictor).answer ≡ Ok tt) (calls : List Call) where
  made : MadeWith (within_of 1 max_channels channels) config (settings_from config) predictor (making_with channels config predictor).controller
  made = accepted_making channels config predictor accepted

  sound : Sound (settings_from config) (after (making_with channels config predictor).controller calls).control
  sound = after_keeps _ (sound_kept (settings_from config) (minimum_most config _ made)) calls (making_with channels config predictor).controller (made_sound config _ made)

  bounded : InBounds config.min_input_volume (after (making_with channels config predictor).controller calls)
  bounded = subst (λ (z : ℤ). InBounds z (after (making_with channels config predictor).controller calls)) (minimum_kept config _ made) (sound_bounds (settings_from config) (minimum_most config _ made) _ sound)

  answered_volumes : (call : Call) → AnswersVolumes (after (making_with channels config predictor).controller calls) call
  answered_volumes call = sound_answers (settings_from config) (minimum_most config _ made) call _ sound

pub bounds : Bounds
bounds = record {
  recommendations = λ profile channels config predictor h calls.
      by_plain profile channels config predictor h (λ (m : Making). InBounds config.min_input_volume (after m.controller calls)) (λ k. bounded channels config predictor k calls);
  answered = λ profile channels config predictor h calls call.
      by_plain profile channels config predictor h (λ (m : Making). AnswersVolumes (after m.controller calls) call) (λ k. answered_volumes channels config predictor k calls call);
}
