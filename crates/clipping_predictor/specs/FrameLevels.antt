-- Document 01, "Levels": "Each frame and channel yields a record": those of all channels of a frame, in an array; causes 1 and 9. Definitions only.
use Rattle.std.specs.Prelude.{◌≡◌, Bool, true, false, ◌&&◌, List, ℕ, ltb, leb, Float, replicate, Result, Ok, Err}
use Rattle.numbers.specs.Listed.{listed}
use Rattle.numbers.specs.declared.refusal.Refusal.{Refusal}
use Rattle.numbers.specs.declared.refusal.Refusal.TheVariants.{ChannelCount, FrameSize}
use Rattle.clipping_predictor_level_buffer.specs.declared.level.Level.{Level}
use Rattle.clipping_predictor_level_buffer.specs.Statistics.{plus_zero}
use Rattle.clipping_predictor_level_buffer.specs.Level.{frame_record}
use Rattle.clipping_predictor.specs.declared.measuring.Levels.{Levels}
use Rattle.clipping_predictor.specs.Predictor.{max_channels, part_of, frame_fits}

-- what stands in a place of the array that no channel has
abbrev pub silence : Level
silence = record { average = plus_zero; max = plus_zero; clipped = 0 }

abbrev pub level_if : Bool → Level → Level
level_if true level = level
level_if false level = silence

-- each channel's record in its place
unfoldable pub levels_array : ℕ → ℕ → List Float → List Level
levels_array channels samples frame = listed (λ c. level_if (ltb c channels) (frame_record (part_of samples frame c))) max_channels

-- an array in which no channel has a level
abbrev pub silent : List Level
silent = replicate max_channels silence

-- the levels of a frame that is measured, or why there are none
abbrev pub MeasuredAs : Result (Unit {0}) Refusal → List Level → Result Levels Refusal → Type 0
MeasuredAs (Ok tt) levels r = r ≡ Ok (record { items = levels })
MeasuredAs (Err cause) levels r = r ≡ Err cause

-- cause 1, then 9
abbrev pub measuring_if : Bool → Bool → Result (Unit {0}) Refusal
measuring_if false fits = Err ChannelCount
measuring_if true false = Err FrameSize
measuring_if true true = Ok tt

-- "channel count not 1 to 8"
abbrev pub is_channel_count : ℕ → Bool
is_channel_count channels = leb 1 channels && leb channels max_channels

unfoldable pub measuring_of : ℕ → ℕ → List Float → Result (Unit {0}) Refusal
measuring_of channels samples frame = measuring_if (is_channel_count channels) (frame_fits channels samples frame)

abbrev pub MeasuredOf : ℕ → ℕ → List Float → Result Levels Refusal → Type 0
MeasuredOf channels samples frame = MeasuredAs (measuring_of channels samples frame) (levels_array channels samples frame)
