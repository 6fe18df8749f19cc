-- The calls of the crates below are refused with the number of the first cause that holds: the volume step, a frame's size, a level and a ring here. Assumes nothing.
use mathlib.Core.Path.{◌≡◌, refl, sym, ap, ◌∙◌}
use mathlib.Core.Bool.{Bool, true, false, not, ◌&&◌, ◌||◌}
use mathlib.Core.List.{List, [], ◌∷◌}
use Prim.Native.Nat.{ℕ, ◌+◌, max, zero-le}
use native.Mathlib.Omega.{arith}
use lib.Dec.{leb, ltb, eqb}
use lib.IntN.{ℤ, pos, negsuc}
use lib.Signed.{lt_z}
use lib.Ieee.{Float}
use lib.ListN.{length, take, drop}
use borrow.Author.Tests.{leb-true, leb-false, le-leb, lt-leb, le-ltb}
use Rattle.std.specs.Prelude.{None, Option, Result, Some}
use Rattle.numbers.specs.declared.refusal.Refusal.{Refusal}
use Rattle.numbers.specs.Natural.{within_of}
use Rattle.numbers.specs.Said.{refusal_in, said}
use Rattle.gain_map.specs.VolumeUpdate.{reached, walk, stepped, volume_update_of}
use Rattle.clipping_predictor_level_buffer.specs.declared.level.Level.{Level}
use Rattle.clipping_predictor_level_buffer.specs.Level.{max_samples_per_channel, frame_record, measured_if, measure_of, two_records, measure_two_of}
use Rattle.clipping_predictor_level_buffer.specs.Making as Ring
use Rattle.clipping_predictor_level_buffer.specs.Ring.{max_capacity}
use Rattle.clipping_predictor_level_buffer.specs.Pushing.{is_count, pushing_of, push_if}
use Rattle.clipping_predictor_level_buffer.specs.Metrics.{found_if, metrics_if, partial_metrics, compute_partial_metrics}
use Rattle.clipping_predictor.specs.Predictor.{Predictor, frame_fits, outcome_if, entered_if}
use Rattle.clipping_predictor.specs.FrameLevels.{measuring_if, measuring_of}
use Rattle.mono_input_volume_controller.specs.SpeechLevel.{lowest_db, highest_db, rms_error_of}
use Rattle.mono_input_volume_controller.specs.Config.{both_in_range}
use Rattle.mono_input_volume_controller.specs.SpeechError.{error_if_in_range, speech_error_of}
use Rattle.claims.specs.Causes.{Cause, first_of}
use Rattle.claims.specs.RefusedBelow.{volume_step_causes, predictor_frame_causes, level_causes, two_levels_causes, frame_levels_causes, ring_causes, push_causes, metrics_causes, target_causes, RefusedBelow}
use Rattle.claims.proofs.Causes.{less_is, above_is, either, or_true, one_outside_is, is_outside, within_is, misfit_is}
use Rattle.claims.proofs.BelowMaking.{predictor_first, predictor_beside}
use Rattle.claims.proofs.BelowEstimates.{estimate_first}

-- a single cause from its outcome
abbrev only : ℕ → Bool → List Cause
only n a = record { number = n; holds = a } ∷ []

-- ---- the volume step

abbrev two_eight_ten : Bool → Bool → Bool → List Cause
two_eight_ten a b c = record { number = 2; holds = a } ∷ record { number = 8; holds = b } ∷ record { number = 10; holds = c } ∷ []

reached_first : (t : Bool) (v : ℕ) → refusal_in (said (reached t v)) ≡ first_of (two_eight_ten false false (not t))
reached_first true v = refl
reached_first false v = refl

stepped_first : (wanted volume max : ℤ) (a b c : Option ℕ) → within_of 0 255 volume ≡ b → within_of 0 255 max ≡ c
    → refusal_in (said (stepped wanted a b c)) ≡ first_of (two_eight_ten (is_outside a) (is_outside b) (is_outside c || lt_z max volume))
unfolding stepped
stepped_first wanted volume max None b c p q = refl
stepped_first wanted volume max (Some m) None c p q = refl
stepped_first wanted volume max (Some m) (Some v) None p q = refl
stepped_first wanted volume max (Some m) (Some v) (Some x) p q =
    reached_first (leb v x) (walk wanted v m x) ∙ ap (λ (t : Bool). first_of (two_eight_ten false false t)) (sym (above_is max volume x v q p))

step_first : (wanted volume min max : ℤ) → refusal_in (said (volume_update_of wanted volume min max)) ≡ first_of (volume_step_causes volume min max)
unfolding volume_update_of
step_first wanted volume min max =
    stepped_first wanted volume max (within_of 0 255 min) (within_of 0 255 volume) (within_of 0 255 max) refl refl
    ∙ (λ i. first_of (two_eight_ten (sym (within_is 0 255 min) i) (sym (within_is 0 255 volume) i) (sym (within_is 0 255 max) i || lt_z max volume)))

-- ---- a frame's size, and a level

outcome_first : (t : Bool) → refusal_in (said (outcome_if t)) ≡ first_of (only 9 (not t))
outcome_first true = refl
outcome_first false = refl

frame_first : (channels samples : ℕ) (lent : List Float) → refusal_in (said (outcome_if (frame_fits channels samples lent))) ≡ first_of (predictor_frame_causes channels samples lent)
frame_first channels samples lent = outcome_first (frame_fits channels samples lent) ∙ ap (λ (t : Bool). first_of (only 9 t)) (sym (misfit_is channels samples lent))

outcome_same : (t : Bool) (p : Predictor) (samples : ℕ) (lent : List Float) (number : ℕ) → refusal_in (said (outcome_if t)) ≡ Some number → entered_if t samples lent p ≡ p
outcome_same true p samples lent number e = let z : ◌≡◌ {A = ℕ} 0 1 = cc in absurd (omega arith)
outcome_same false p samples lent number e = refl

-- a number outside its range
out_of : (low high n : ℕ) → (ltb n low || ltb high n) ≡ not (leb low n && leb n high)
out_of low high n = (λ i. less_is low n i || less_is n high i) ∙ either (leb low n) (leb n high)

measured_first : {A : Type 0} (t : Bool) (values : A) → refusal_in (said (measured_if t values)) ≡ first_of (only 9 (not t))
measured_first true values = refl
measured_first false values = refl

level_first : (samples : List Float) → refusal_in (said (measure_of samples)) ≡ first_of (level_causes samples)
unfolding measure_of
level_first samples =
    let n = length samples in
    measured_first (leb 1 n && leb n max_samples_per_channel) (frame_record samples) ∙ ap (λ (t : Bool). first_of (only 9 t)) (sym (out_of 1 480 n))

two_levels_first : (first second : List Float) → refusal_in (said (measure_two_of first second)) ≡ first_of (two_levels_causes first second)
unfolding measure_two_of
two_levels_first first second =
    let n = length first in
    let same = eqb n (length second) in
    measured_first ((leb 1 n && leb n max_samples_per_channel) && same) (two_records first second)
    ∙ ap (λ (t : Bool). first_of (only 9 t)) (sym (ap (λ (t : Bool). t || not same) (out_of 1 480 n) ∙ either (leb 1 n && leb n 480) same))

abbrev one_nine : Bool → Bool → List Cause
one_nine a b = record { number = 1; holds = a } ∷ only 9 b

measuring_first : (a b : Bool) → refusal_in (said (measuring_if a b)) ≡ first_of (one_nine (not a) (not b))
measuring_first true true = refl
measuring_first true false = refl
measuring_first false b = refl

frame_levels_first : (channels samples : ℕ) (lent : List Float) → refusal_in (said (measuring_of channels samples lent)) ≡ first_of (frame_levels_causes channels samples lent)
unfolding measuring_of
frame_levels_first channels samples lent =
    measuring_first (leb 1 channels && leb channels 8) (frame_fits channels samples lent)
    ∙ (λ i. first_of (one_nine (sym (out_of 1 8 channels) i) (sym (misfit_is channels samples lent) i)))

-- ---- the ring

accepted_first : (t : Bool) → refusal_in (said (Ring.accepted_if t)) ≡ first_of (only 11 (not t))
accepted_first true = refl
accepted_first false = refl

-- a capacity below 1 means 1
one_by : (n : ℕ) (t : Bool) → leb n 64 ≡ t → leb (max 1 n) max_capacity ≡ t
one_by n true e = le-leb (max 1 n) max_capacity (omega (arith, leb-true n 64 e))
one_by n false e = lt-leb (max 1 n) max_capacity (omega (arith, leb-false n 64 e))

at_least_one : (n : ℕ) → leb (max 1 n) max_capacity ≡ leb n 64
at_least_one n = one_by n (leb n 64) refl

ring_first : (capacity : ℤ) → refusal_in (said (Ring.making_of (Ring.capacity_of capacity))) ≡ first_of (ring_causes capacity)
unfolding Ring.making_of Ring.capacity_of
ring_first (pos n) = accepted_first (leb (max 1 n) max_capacity) ∙ ap (λ (t : Bool). first_of (only 11 t)) (ap not (at_least_one n) ∙ sym (less_is n 64))
ring_first (negsuc n) = refl

push_first : (clipped : ℤ) → refusal_in (said (pushing_of clipped)) ≡ first_of (push_causes clipped)
unfolding pushing_of is_count
push_first (pos n) = accepted_first (leb n max_samples_per_channel) ∙ ap (λ (t : Bool). first_of (only 11 t)) (sym (λ i. le-ltb n 0 zero-le i || less_is n 480 i))
push_first (negsuc n) = refl

if_unpushed : (t : Bool) (capacity : ℕ) (level : Level) (stored : List Level) (number : ℕ) → refusal_in (said (Ring.accepted_if t)) ≡ Some number → push_if t capacity level stored ≡ stored
if_unpushed true capacity level stored number e = let z : ◌≡◌ {A = ℕ} 0 1 = cc in absurd (omega arith)
if_unpushed false capacity level stored number e = refl

unpushed_so : (clipped : ℤ) (capacity : ℕ) (level : Level) (stored : List Level) (number : ℕ) → refusal_in (said (pushing_of clipped)) ≡ Some number → push_if (is_count clipped) capacity level stored ≡ stored
unfolding pushing_of
unpushed_so clipped = if_unpushed (is_count clipped)

found_accepted : (t : Bool) (items : List Level) → refusal_in (said (found_if t items)) ≡ None
found_accepted true items = refl
found_accepted false items = refl

metrics_if_lem : (t : Bool) (m : Result (Option Level) Refusal) → refusal_in (said m) ≡ None → refusal_in (said (metrics_if t m)) ≡ first_of (only 11 (not t))
metrics_if_lem true m e = e
metrics_if_lem false m e = refl

metrics_first : (capacity : ℕ) (stored : List Level) (delay items : ℤ) → refusal_in (said (compute_partial_metrics capacity stored delay items)) ≡ first_of (metrics_causes capacity delay items)
unfolding compute_partial_metrics partial_metrics
metrics_first capacity stored (negsuc d) items = refl
metrics_first capacity stored (pos d) (negsuc n) = ap (λ (t : Bool). first_of (only 11 t)) (sym (or_true (ltb d 0)))
metrics_first capacity stored (pos d) (pos n) =
    metrics_if_lem (leb 1 n && leb (d + n) capacity) _ (found_accepted (leb (d + n) (length stored)) (take n (drop d stored)))
    ∙ ap (λ (t : Bool). first_of (only 11 t)) (sym ((λ i. le-ltb d 0 zero-le i || (less_is 1 n i || less_is (d + n) capacity i)) ∙ either (leb 1 n) (leb (d + n) capacity)))

-- ---- the speech error

error_first : (t : Bool) (error : Option ℤ) → refusal_in (said (error_if_in_range t error)) ≡ first_of (only 5 (not t))
error_first true (Some error) = refl
error_first true None = refl
error_first false error = refl

speech_error_first : (level : Option Float) (min max : ℤ) → refusal_in (said (speech_error_of level min max)) ≡ first_of (target_causes min max)
unfolding speech_error_of
speech_error_first level min max =
    error_first (both_in_range lowest_db highest_db max min) (rms_error_of level min max) ∙ ap (λ (t : Bool). first_of (only 5 t)) (sym (one_outside_is lowest_db highest_db max min))

pub refused_below : RefusedBelow
refused_below = record {
  volume_step = step_first;
  predictor_making = predictor_first;
  predictor_unmade = predictor_beside;
  predictor_frame = frame_first;
  unchanged = λ p channels samples lent number e. outcome_same (frame_fits channels samples lent) p samples lent number e;
  estimate = estimate_first;
  level = level_first;
  two_levels = two_levels_first;
  frame_levels = frame_levels_first;
  ring_making = ring_first;
  push = push_first;
  unpushed = unpushed_so;
  metrics = metrics_first;
  speech_error = speech_error_first;
}
