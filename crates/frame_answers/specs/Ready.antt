-- What is known of a line before a controller hears of it: what the private functions of `stream` say. Definitions only.
use Rattle.std.specs.Prelude.{Bool, true, false, Option, Some, None, Result, Ok, Err}
use Rattle.numbers.specs.declared.refusal.Refusal.{Refusal}
use Rattle.numbers.specs.declared.refusal.Refusal.TheVariants.{FrameLine, FrameSize}
use Rattle.clipping_predictor_level_buffer.specs.Level.{is_frame_size}
use Rattle.frame_lines.specs.declared.line.Frame.{Frame}

abbrev pub sized_if : Bool → Frame → Result Frame Refusal
sized_if true frame = Ok frame
sized_if false frame = Err FrameSize

-- cause 9, of every controller: "samples per channel not 1 to 480"
abbrev pub sized_of : Frame → Result Frame Refusal
sized_of frame = sized_if (is_frame_size frame.count) frame

-- cause 12 first
abbrev pub ready_of : Option Frame → Result Frame Refusal
ready_of None = Err FrameLine
ready_of (Some frame) = sized_of frame
