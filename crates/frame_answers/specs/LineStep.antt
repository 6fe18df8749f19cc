-- Document 01, "The frame-line program": what a line does with a controller, and what it answers. A line is a frame call and, where that is accepted, the recommendation that follows it. Definitions only.
use Rattle.std.specs.Prelude.{Bool, List, map, ℕ, pos, nat_abs, length, Option, None, Some}
use Rattle.numbers.specs.declared.refusal.Refusal.TheVariants.{FrameLine}
use Rattle.numbers.specs.Refusal.{number_of}
use Rattle.input_volume_controller.specs.Controller.{Controller}
use Rattle.input_volume_controller.specs.Reply.{Reply, mark, refusal, volume, done, Stepped}
use Rattle.input_volume_controller.specs.Volumes.{equal_volumes}
use Rattle.input_volume_controller.specs.Limits.{plain_limits}
use Rattle.input_volume_controller.specs.Calls.{Call, frame, recommendation, step}
use Rattle.frame_lines.specs.Line.{Fields, meaning}
use Rattle.frame_lines.specs.Parsed.{float_of, speech_level_of, sample_of}

-- ---- the calls that a line makes

-- the frame comes through the plain entry. The line's volume is that of each channel, and the frame has as many samples per channel as the line has samples: a line is for one channel, and of more each
-- line in order is refused with 9
abbrev pub frame_call : ℕ → Fields → Call
frame_call channels f = frame plain_limits (equal_volumes (pos f.volume) channels) (length f.samples) (map sample_of f.samples)

abbrev pub recommendation_call : Fields → Call
recommendation_call f = recommendation (float_of f.probability) (speech_level_of f.level)

-- ---- its answer

-- "volume .., `n` if near else `.`; or `!`, blank, the refusal number"
pub data Answer : Type 0 where
  recommended : ℕ → Bool → Answer
  refused : ℕ → Answer

pub record LineStep : Type 0 where
  pub answer : Answer
  pub state : Controller

-- "A refused line changes nothing."
abbrev pub refused_line : ℕ → Controller → LineStep
refused_line n c = record { answer = refused n; state = c }

-- the volume of a recommendation's reply; right after an accepted frame there is always one (proofs/Recommended.antt), so that the 0 of the other replies is never shown
unfoldable pub volume_in : Reply → ℕ
volume_in (volume v) = nat_abs v
volume_in (mark near) = 0
volume_in (refusal n) = 0
volume_in Reply.none = 0
volume_in done = 0

-- "a recommendation never is [marked], and a frame line shows its frame's mark"
abbrev pub recommended_line : Bool → Stepped → LineStep
recommended_line near s = record { answer = recommended (volume_in s.reply) near; state = s.state }

-- by what its frame answered: a frame is marked or refused, and nothing else (proofs/Recommended.antt)
abbrev pub after_frame : Fields → Controller → Reply → Controller → LineStep
after_frame f c (mark near) heard = recommended_line near (step heard (recommendation_call f))
after_frame f c (refusal n) heard = refused_line n c
after_frame f c (volume v) heard = refused_line 0 c
after_frame f c Reply.none heard = refused_line 0 c
after_frame f c done heard = refused_line 0 c

-- by what it means: cause 12 is "malformed frame line"
abbrev pub meant_step : Controller → Option Fields → LineStep
meant_step c None = refused_line (number_of FrameLine) c
meant_step c (Some f) = after_frame f c (step c (frame_call (length c.control.channels) f)).reply (step c (frame_call (length c.control.channels) f)).state

unfoldable pub line_step : Controller → List ℕ → LineStep
line_step c line = meant_step c (meaning line)
