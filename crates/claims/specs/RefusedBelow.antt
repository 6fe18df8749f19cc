-- The calls of the crates below the controller say no by the same table: each is refused with the number of the first cause about its inputs that holds. Document 01, "What a call can say no to",
-- with what stands under the table of causes 7, 8 and 10, and document 02 (ii) and (xi). None of these calls has a state but a predictor's, which a refused frame leaves as before, and a ring, which a refused push does.
-- It reaches the code by the contracts of `compute_volume_update` (gain_map), `create_clipping_predictor`, `ClippingPredictor::{analyze, estimate_clipped_level_step}` and `measuring::measure_channels` (clipping_predictor),
-- `level::{measure, measure_two}`, `ClippingPredictorLevelBuffer::{new, push, push_level, compute_partial_metrics}` and `push_into` (clipping_predictor_level_buffer) and `get_speech_level_rms_error_db` (mono_input_volume_controller): each
-- says that the answer's number and values are those of the definition that is named here. Definitions only.
use Rattle.std.specs.Prelude.{◌≡◌, not, ◌||◌, List, [], ◌∷◌, ℕ, ◌*◌, ◌≤◌, ltb, eqb, ℤ, pos, negsuc, ◌+ℤ◌, Float, length, Option, Some}
use Rattle.std.specs.Int.Signed.{lt_z, le_z}
use Rattle.numbers.specs.Said.{refused, refusal_in, said}
use Rattle.gain_map.specs.VolumeUpdate.{volume_update_of}
use Rattle.clipping_predictor_level_buffer.specs.declared.level.Level.{Level}
use Rattle.clipping_predictor_level_buffer.specs.Level.{measure_of, measure_two_of}
use Rattle.clipping_predictor_level_buffer.specs.Making as Ring
use Rattle.clipping_predictor_level_buffer.specs.Pushing.{is_count, pushing_of, push_if}
use Rattle.clipping_predictor_level_buffer.specs.Metrics.{compute_partial_metrics}
use Rattle.clipping_predictor.specs.declared.settings.ClippingPredictorConfig.{ClippingPredictorConfig}
use Rattle.clipping_predictor.specs.Predictor.{Predictor, unmade_settings, empty_predictor, making_of, frame_fits, outcome_if, entered_if}
use Rattle.clipping_predictor.specs.FrameLevels.{measuring_of}
use Rattle.clipping_predictor.specs.EstimateCall.{arguments_of, estimate_of}
use Rattle.mono_input_volume_controller.specs.SpeechError.{speech_error_of}
use Rattle.claims.specs.Causes.{Cause, first_of, outside, predictor_faults}

-- "The bare volume step tests 2 (its minimum), 8, 10 (its maximum not 0 to 255, or the volume above it; a minimum above the maximum is let through)."
abbrev pub volume_step_causes : ℤ → ℤ → ℤ → List Cause
volume_step_causes volume min max =
    record { number = 2; holds = outside (pos 0) (pos 255) min }
    ∷ record { number = 8; holds = outside (pos 0) (pos 255) volume }
    ∷ record { number = 10; holds = outside (pos 0) (pos 255) max || lt_z max volume }
    ∷ []

-- "channel count not 1 to 8", and then the faults of the configuration
abbrev pub predictor_causes : ℤ → ClippingPredictorConfig → List Cause
predictor_causes channels c = record { number = 1; holds = outside (pos 1) (pos 8) channels } ∷ predictor_faults c

-- "samples per channel not 1 to 480, or lent samples not channels × that"
abbrev pub predictor_frame_causes : ℕ → ℕ → List Float → List Cause
predictor_frame_causes channels samples lent = record { number = 9; holds = ltb samples 1 || (ltb 480 samples || not (eqb (length lent) (channels * samples))) } ∷ []

-- "Level outside 0 to 255 in an estimate is 8"; "channel unknown, step not 1 to 255, min or max not 0 to 255, min above max, level above max"
abbrev pub estimate_causes : ℕ → ℤ → ℤ → ℤ → ℤ → ℤ → List Cause
estimate_causes channels channel level step min max =
    record { number = 8; holds = outside (pos 0) (pos 255) level }
    ∷ record { number = 10; holds = lt_z channel (pos 0) || (le_z (pos channels) channel || (outside (pos 1) (pos 255) step || (outside (pos 0) (pos 255) min || (outside (pos 0) (pos 255) max || (lt_z max min || lt_z max level))))) }
    ∷ []

-- "samples per channel not 1 to 480"
abbrev pub level_causes : List Float → List Cause
level_causes samples = record { number = 9; holds = ltb (length samples) 1 || ltb 480 (length samples) } ∷ []

-- the same of two channels of a frame, which has as many samples of each
abbrev pub two_levels_causes : List Float → List Float → List Cause
two_levels_causes first second = record { number = 9; holds = (ltb (length first) 1 || ltb 480 (length first)) || not (eqb (length first) (length second)) } ∷ []

-- "channel count not 1 to 8", and then those of a frame
abbrev pub frame_levels_causes : ℕ → ℕ → List Float → List Cause
frame_levels_causes channels samples lent = record { number = 1; holds = ltb channels 1 || ltb 8 channels } ∷ predictor_frame_causes channels samples lent

-- "capacity above 64"
abbrev pub ring_causes : ℤ → List Cause
ring_causes capacity = record { number = 11; holds = lt_z (pos 64) capacity } ∷ []

-- document 02 (xi): "a record pushed with a count not 0 to 480"
abbrev pub push_causes : ℤ → List Cause
push_causes clipped = record { number = 11; holds = outside (pos 0) (pos 480) clipped } ∷ []

-- "delay negative, item count below 1, or their sum above capacity"
abbrev pub metrics_causes : ℕ → ℤ → ℤ → List Cause
metrics_causes capacity delay items = record { number = 11; holds = lt_z delay (pos 0) || (lt_z items (pos 1) || lt_z (pos capacity) (delay +ℤ items)) } ∷ []

-- "a target not -90 to 30 dBFS"
abbrev pub target_causes : ℤ → ℤ → List Cause
target_causes min max = record { number = 5; holds = outside (negsuc 89) (pos 30) max || outside (negsuc 89) (pos 30) min } ∷ []

-- THE CLAIM
pub record RefusedBelow : Type 0 where
  pub volume_step : (wanted volume min max : ℤ) → refusal_in (said (volume_update_of wanted volume min max)) ≡ first_of (volume_step_causes volume min max)
  pub predictor_making : (channels : ℤ) (config : ClippingPredictorConfig) → refusal_in (said (making_of channels config).answer) ≡ first_of (predictor_causes channels config)
  -- "On 1 to 7 nothing is made", nor on 14 and 15: beside a refusal there always stands the same predictor, of one channel and off
  pub predictor_unmade : (channels : ℤ) (config : ClippingPredictorConfig) (number : ℕ) → said (making_of channels config).answer ≡ refused number
      → (making_of channels config).predictor ≡ empty_predictor unmade_settings 1
  pub predictor_frame : (channels samples : ℕ) (lent : List Float) → refusal_in (said (outcome_if (frame_fits channels samples lent))) ≡ first_of (predictor_frame_causes channels samples lent)
  pub unchanged : (p : Predictor) (channels samples : ℕ) (lent : List Float) (number : ℕ) → refusal_in (said (outcome_if (frame_fits channels samples lent))) ≡ Some number
      → entered_if (frame_fits channels samples lent) samples lent p ≡ p
  pub estimate : (p : Predictor) (channels : ℕ) (channel level step min max : ℤ) → 1 ≤ channels
      → refusal_in (said (estimate_of p (arguments_of channels channel level step min max))) ≡ first_of (estimate_causes channels channel level step min max)
  pub level : (samples : List Float) → refusal_in (said (measure_of samples)) ≡ first_of (level_causes samples)
  pub two_levels : (first second : List Float) → refusal_in (said (measure_two_of first second)) ≡ first_of (two_levels_causes first second)
  pub frame_levels : (channels samples : ℕ) (lent : List Float) → refusal_in (said (measuring_of channels samples lent)) ≡ first_of (frame_levels_causes channels samples lent)
  pub ring_making : (capacity : ℤ) → refusal_in (said (Ring.making_of (Ring.capacity_of capacity))) ≡ first_of (ring_causes capacity)
  pub push : (clipped : ℤ) → refusal_in (said (pushing_of clipped)) ≡ first_of (push_causes clipped)
  -- a refused push stores nothing
  pub unpushed : (clipped : ℤ) (capacity : ℕ) (level : Level) (stored : List Level) (number : ℕ) → refusal_in (said (pushing_of clipped)) ≡ Some number → push_if (is_count clipped) capacity level stored ≡ stored
  pub metrics : (capacity : ℕ) (stored : List Level) (delay items : ℤ) → refusal_in (said (compute_partial_metrics capacity stored delay items)) ≡ first_of (metrics_causes capacity delay items)
  pub speech_error : (level : Option Float) (min max : ℤ) → refusal_in (said (speech_error_of level min max)) ≡ first_of (target_causes min max)
