-- Document 01, "Levels", with document 02 (xi): "Each frame and channel yields a record of two floats, mean square and peak", which "gains the number of clipped samples". ".. squares are summed from 0 in sample order, then divided by the sample count.
-- Peak starts at 0 and takes larger magnitudes; samples that are not a number are passed over there but spoil the mean." Definitions only.
use Rattle.std.specs.Prelude.{Bool, true, false, ◌&&◌, List, map, ℕ, leb, eqb, Float, length, Result, Ok, Err}
use Rattle.std.specs.Float.{binary32}
use Rattle.std.specs.Float.Ieee.{mul}
use Rattle.numbers.specs.declared.refusal.Refusal.{Refusal}
use Rattle.numbers.specs.declared.refusal.Refusal.TheVariants.{FrameSize}
use Rattle.levels.specs.FloatParts.{magnitude_of}
use Rattle.clipping_predictor_level_buffer.specs.declared.level.Level.{Level}
use Rattle.clipping_predictor_level_buffer.specs.Statistics.{mean, largest}
use Rattle.clipping_predictor_level_buffer.specs.Clipped.{clipped_in}

-- "samples per channel not 1 to 480"
abbrev pub max_samples_per_channel : ℕ
max_samples_per_channel = 480

abbrev pub square_of : Float → Float
square_of x = mul binary32 x x

-- "Each frame and channel yields a record of two floats, mean square and peak": the source's `Level`, by its `analyze`; and "the number of clipped samples of that frame and channel"
unfoldable pub frame_record : List Float → Level
frame_record samples = record { average = mean (map square_of samples); max = largest (map magnitude_of samples); clipped = clipped_in samples }

abbrev pub measured_if : {A : Type 0} → Bool → A → Result A Refusal
measured_if true values = Ok values
measured_if false values = Err FrameSize

-- cause 9 of one channel: "samples per channel not 1 to 480"
abbrev pub is_frame_size : ℕ → Bool
is_frame_size n = leb 1 n && leb n max_samples_per_channel

-- a channel's samples are so many
abbrev pub is_measured : List Float → Bool
is_measured samples = is_frame_size (length samples)

unfoldable pub measure_of : List Float → Result Level Refusal
measure_of samples = measured_if (is_measured samples) (frame_record samples)

-- ---- two channels of one frame

-- the record of each
abbrev pub two_records : List Float → List Float → Level × Level
two_records first second = (frame_record first, frame_record second)

-- cause 9 of both: the channels of a frame have as many samples each
unfoldable pub measure_two_of : List Float → List Float → Result (Level × Level) Refusal
measure_two_of first second = measured_if (is_measured first && eqb (length first) (length second)) (two_records first second)
