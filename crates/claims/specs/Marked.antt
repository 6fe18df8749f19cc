-- Marks that matter. Document 02 (iii): "From now a frame is marked exactly if putting a near comparison or ceiling on its other side, one or several at once, would change the frame's returned state. Near
-- comparisons and ceilings reached only after such a turn count too. A single estimate is marked by the same rule over its drop or none. What makes a comparison or ceiling near stays as in document 01":
-- "sides 10 apart or less", "within 10 of a whole dB from 0 to 14", "Infinite, not-a-number or missing sides are never near", where each 10 is 6 by document 02 (x). Here these words stand by themselves:
-- which drops an estimate may have, if each near comparison may be answered either way and each near ceiling taken on either side, with the number 6, and no tree.
-- They reach the code by the contracts of `ClippingPredictor::estimate_clipped_level_step`, whose mark is `is_near` of the estimate, and of `InputVolumeController::{analyze_input_audio,
-- analyze_input_audio_each, spotter_analyze_input_audio, spotter_analyze_input_audio_each}`, whose answer is the reply of `step`. Definitions only.
use Rattle.std.specs.Prelude.{◌≡◌, ◌⊎◌, ◌↔◌, Bool, true, false, cond, ℕ, ◌+◌, ◌*◌, ◌/◌, ◌<◌, max, T, leb, ℤ, pos, negsuc, Float, length, replicate, Err, None, Ok, Option, Result, Some}
use mathlib.Core.List.{List, [], ◌∷◌, map, foldl}
use Rattle.std.specs.Float.{binary32}
use Rattle.std.specs.Float.Ieee.{of_int}
use Rattle.numbers.specs.declared.refusal.Refusal.{Refusal}
use Rattle.levels.specs.declared.decibels.Decibels.{Decibels}
use Rattle.levels.specs.declared.decibels.Decibels.TheVariants.{Finite, PlusInfinity, MinusInfinity, NotANumber}
use Rattle.levels.specs.Decibels.{minus, less, at_most, within}
use Rattle.levels.specs.Level.{dbfs}
use Rattle.clipping_predictor_level_buffer.specs.declared.level.Level.{Level}
use Rattle.clipping_predictor_level_buffer.specs.Metrics.{partial_metrics}
use Rattle.clipping_predictor.specs.declared.settings.ClippingPredictorMode.{ClippingPredictorMode}
use Rattle.clipping_predictor.specs.declared.settings.ClippingPredictorMode.TheVariants.{ClippingEventPrediction, AdaptiveStepClippingPeakPrediction, FixedStepClippingPeakPrediction}
use Rattle.clipping_predictor.specs.declared.settings.Settings.{Settings}
use Rattle.clipping_predictor.specs.declared.modes.Asked.{Asked}
use Rattle.clipping_predictor.specs.declared.modes.Estimated.{Estimated}
use Rattle.clipping_predictor.specs.Turned.{Each, only, estimated, is_near}
use Rattle.clipping_predictor.specs.Estimate.{drop_by, adaptive_drop, crest_factor, whole_db, projected_peak, capacity_of, estimate_tree}
use Rattle.clipping_predictor.specs.Predictor.{Predictor, entered_if}
use Rattle.mono_input_volume_controller.specs.Config.{defaults, settings_from}
use Rattle.input_volume_controller.specs.declared.limits.Limits.{Limits}
use Rattle.input_volume_controller.specs.Limits.{plain_limits}
use Rattle.input_volume_controller.specs.ControlCalls.{with_applied_input_volumes}
use Rattle.input_volume_controller.specs.Controller.{Controller, fresh_with, fresh}
use Rattle.input_volume_controller.specs.Reply.{Reply, mark, Stepped}
use Rattle.input_volume_controller.specs.Frame.{asked_of, frame_by}
use Rattle.input_volume_controller.specs.Calls.{Call, frame, recommendation, step, after}
use Rattle.claims.specs.Past.{is_accepted}

-- ---- comparisons and ceilings that may go either way

-- "the near distance falls from 10 to 6 everywhere"
abbrev pub are_near : Decibels → Decibels → Bool
are_near x y = within 6 x y

-- what a comparison may be answered: as it is, unless its sides are near
abbrev pub MayBeAtMost : Decibels → Decibels → Bool → Type 0
MayBeAtMost x y answer = are_near x y ≡ false → answer ≡ at_most x y

abbrev pub MayBeLess : Decibels → Decibels → Bool → Type 0
MayBeLess x y answer = are_near x y ≡ false → answer ≡ less x y

-- the ceiling of z thousandths in dB, from 0 up
abbrev pub ceiling_of : ℤ → ℕ
ceiling_of (pos n) = (n + 999) / 1000
ceiling_of (negsuc n) = 0

-- what a ceiling may be taken as: as it is, or on either side of "a whole dB from 0 to 14" that is near
abbrev pub MayBeCeiling : ℤ → ℕ → Type 0
MayBeCeiling z k = (k ≡ ceiling_of z) ⊎ ((whole : ℕ) × (whole < 15) × (are_near (Finite z) (Finite (pos (whole * 1000))) ≡ true) × ((k ≡ whole) ⊎ (k ≡ whole + 1)))

-- ---- the drops that an estimate may have, 0 for none

-- two comparisons, with answers that they may be given: none if the first holds; a drop of `Above` if it does not and the second does
pub record MayDrop (Quiet Over : Bool → Type 0) (Above : ℕ → Type 0) (drop : ℕ) : Type 0 where
  pub quiet : Bool
  pub over : Bool
  pub above : ℕ
  pub quiet_may : Quiet quiet
  pub over_may : Over over
  pub above_may : Above above
  pub is : drop ≡ cond quiet 0 (cond over above 0)

-- "none if d(M) - 90,310 ≤ threshold; event if (d(M)-h(A)) < (d(Mr)-h(Ar)) - margin"
abbrev pub MayDropAtEvent : ℤ → ℤ → Level → Level → Asked → ℕ → Type 0
MayDropAtEvent threshold margin window reference a =
    MayDrop (MayBeAtMost (dbfs window.max) (Finite threshold)) (MayBeLess (crest_factor window) (minus (crest_factor reference) (Finite margin))) (λ (n : ℕ). n ≡ drop_by a a.step)

-- "None if d(M) - 90,310 ≤ it. P .. must be above it", the threshold "cut to whole dB"
abbrev pub MayDropAtPeak : ℤ → Level → Level → (ℕ → Type 0) → ℕ → Type 0
MayDropAtPeak threshold window reference Above = MayDrop (MayBeAtMost (dbfs window.max) (Finite threshold)) (MayBeLess (Finite threshold) (projected_peak window reference)) Above

-- "asks the volume step for minus the ceiling of P in dB": an infinite P has no ceiling but the highest, and one that is no number or below all of them is above no threshold
abbrev pub MayDropBy : Asked → Decibels → ℕ → Type 0
MayDropBy a (Finite z) n = (k : ℕ) × MayBeCeiling z k × (n ≡ adaptive_drop a k)
MayDropBy a PlusInfinity n = n ≡ adaptive_drop a 15
MayDropBy a MinusInfinity n = n ≡ 0
MayDropBy a NotANumber n = n ≡ 0

-- the three modes; "Fixed mode takes the default step"
abbrev pub MayDropIn : ClippingPredictorMode → Settings → Level → Level → Asked → ℕ → Type 0
MayDropIn ClippingEventPrediction s window reference a = MayDropAtEvent s.threshold s.margin window reference a
MayDropIn AdaptiveStepClippingPeakPrediction s window reference a = MayDropAtPeak (whole_db s.threshold) window reference (MayDropBy a (projected_peak window reference))
MayDropIn FixedStepClippingPeakPrediction s window reference a = MayDropAtPeak (whole_db s.threshold) window reference (λ (n : ℕ). n ≡ drop_by a a.step)

-- "missing metrics, of either window, give none before any comparison"
unfoldable pub MayDropOver : Settings → Asked → Result (Option Level) Refusal → Result (Option Level) Refusal → ℕ → Type 0
MayDropOver s a (Ok (Some window)) (Ok (Some reference)) n = MayDropIn s.mode s window reference a n
MayDropOver s a (Ok (Some window)) (Ok None) n = n ≡ 0
MayDropOver s a (Ok (Some window)) (Err cause) n = n ≡ 0
MayDropOver s a (Ok None) reference n = n ≡ 0
MayDropOver s a (Err cause) reference n = n ≡ 0

-- "An estimate at level ≤ min is none"
abbrev pub MayDropUnless : Bool → (ℕ → Type 0) → ℕ → Type 0
MayDropUnless true Above n = n ≡ 0
MayDropUnless false Above n = Above n

-- from a ring's records
unfoldable pub MayEstimate : Settings → List Level → Asked → ℕ → Type 0
MayEstimate s records a =
    MayDropUnless (leb a.level a.least)
    (MayDropOver s a (partial_metrics (capacity_of s) records 0 s.window) (partial_metrics (capacity_of s) records s.delay s.reference))

-- "A single estimate is marked by the same rule over its drop or none": it may have another drop
abbrev pub EstimateMatters : Settings → List Level → Asked → ℕ → Type 0
EstimateMatters s records a drop = (other : ℕ) × MayEstimate s records a other × (other ≡ drop → ⊥)

-- ---- frames

-- these drops in place of the channels' estimates: "the largest predicted step"
abbrev pub predicted_as : List ℕ → Asked → Predictor → Estimated
predicted_as drops a p = only (foldl max 0 drops)

-- the frame's own definition, with them
abbrev pub frame_with : List ℕ → Limits → List ℤ → ℕ → List Float → Controller → Stepped
frame_with drops = frame_by (predicted_as drops)

-- "putting a near comparison or ceiling on its other side, one or several at once, would change the frame's returned state": there are drops that the channels' estimates may have, once the volumes are
-- applied and the frame is in the rings, with which the frame returns another state
pub record FrameMatters (c : Controller) (most : Limits) (volumes : List ℕ) (samples : ℕ) (lent : List Float) : Type 0 where
  pub drops : List ℕ
  pub may : Each (λ (records : List Level). MayEstimate c.predictor.settings records (asked_of (with_applied_input_volumes volumes c.control))) (entered_if true samples lent c.predictor).rings drops
  pub changes : (frame_with drops most (map pos volumes) samples lent c).state ≡ (step c (frame most (map pos volumes) samples lent)).state → ⊥

-- ---- six frames

-- a frame of one sample, and the reply to one that comes after so many others like it on a fresh controller of one channel with the default settings. With the tenth its windows are full.
abbrev pub frame_of : ℕ → Call
frame_of sample = frame plain_limits (pos 100 ∷ []) 1 (of_int binary32 (pos sample) ∷ [])

abbrev pub reply_after : ℕ → ℕ → Reply
reply_after count sample = (step (after (fresh (settings_from defaults) 1) (replicate count (frame_of sample))) (frame_of sample)).reply

-- the reply to the second of two silent frames, where the predictor looks for events in windows of one frame, with a threshold 5 above the level of silence; `negsuc 90304` is -90,305
abbrev pub event_with : ℤ → Settings
event_with margin = record { enabled = true; mode = ClippingEventPrediction; window = 1; reference = 1; delay = 1; threshold = negsuc 90304; margin = margin }

abbrev pub reply_to_silence : ℤ → Reply
reply_to_silence margin = (step (after (fresh_with (event_with margin) (settings_from defaults) 1) (frame_of 0 ∷ [])) (frame_of 0)).reply

-- THE CLAIM, from any state
pub record MarkedExactly : Type 0 where
  pub estimate : (s : Settings) (records : List Level) (a : Asked)
      → (is_near (estimated (estimate_tree s records a)) ≡ true) ↔ EstimateMatters s records a (estimated (estimate_tree s records a)).drop
  pub frames : (c : Controller) (most : Limits) (volumes : List ℕ) (samples : ℕ) (lent : List Float) → T (is_accepted most (length c.control.channels) (map pos volumes) samples lent)
      → ((step c (frame most (map pos volumes) samples lent)).reply ≡ mark true) ↔ FrameMatters c most volumes samples lent
  pub answered : (c : Controller) (most : Limits) (volumes : List ℕ) (samples : ℕ) (lent : List Float) → T (is_accepted most (length c.control.channels) (map pos volumes) samples lent)
      → (near : Bool) × ((step c (frame most (map pos volumes) samples lent)).reply ≡ mark near)
  pub recommendations : (c : Controller) (probability : Float) (level : Option Float) (near : Bool) → (step c (recommendation probability level)).reply ≡ mark near → ⊥
  -- a peak of 29,226 has the level -994, which is 6 above the threshold, and so has its P: near, and a turn would predict nothing; one of 29,229 has -993, 7 above it, and is not near; with a frame
  -- fewer metrics are missing, and nothing is compared; and one of 32,766 has a P of -1, near 0 dB, but the ceilings 0 and 1 both lead to the default step
  pub one_marked : reply_after 9 29226 ≡ mark true
  pub one_unmarked : reply_after 9 29229 ≡ mark false
  pub one_missing : reply_after 8 29226 ≡ mark false
  pub one_alike : reply_after 9 32766 ≡ mark false
  -- silence is not above the threshold, near, and its crest factors, which are equal, are no event, near with a margin of 5: a turn of one changes nothing, turns of both predict; with a margin of 500 the
  -- second is not near
  pub two_turns : reply_to_silence (pos 5) ≡ mark true
  pub one_turn_alone : reply_to_silence (pos 500) ≡ mark false
