-- What the contracts of `answers` say. Definitions only.
use Rattle.std.specs.Prelude.{◌≡◌, Bool, Ok, Err, List, ℕ, ◌≤◌, Float, Option, Some}
use Rattle.numbers.specs.declared.refusal.Refusal.{Refusal}
use Rattle.numbers.specs.Refusal.{number_of}
use Rattle.mono_input_volume_controller.specs.MonoState.{max_input_volume}
use Rattle.input_volume_controller.specs.declared.InputVolumeController.{InputVolumeController}
use Rattle.input_volume_controller.specs.Controller.{Controller, view_of, Good}
use Rattle.input_volume_controller.specs.Calls.{Call, recommendation, step}
use Rattle.frame_lines.specs.Answer.{Reply}
use Rattle.frame_lines.specs.Line.{Fields, meaning}
use Rattle.frame_answers.specs.declared.answers.Answered.{Answered}
use Rattle.frame_answers.specs.LineStep.{frame_call, recommendation_call, Answer, recommended, refused, LineStep, recommended_line, line_step}

-- document 01's words for each case of a reply
abbrev pub reply_says : Reply → Answer
reply_says (Ok r) = recommended r.volume r.near
reply_says (Err cause) = refused (number_of cause)

-- r is what a line leads to
pub record Leads (said : LineStep) (r : Answered) : Type 0 where
  pub good : Good r.controller
  pub reply : reply_says r.reply ≡ said.answer
  pub view : view_of r.controller ≡ said.state

-- the answer to a line; a refused one hands the very controller back
pub record AnsweredAs (controller : InputVolumeController) (line : List ℕ) (r : Answered) : Type 0 where
  pub leads : Leads (line_step (view_of controller) line) r
  pub same : (cause : Refusal) → r.reply ≡ Err cause → r.controller ≡ controller

-- an accepted frame's volume has not been answered yet
pub record VolumePending (c : Controller) : Type 0 where
  pub applied : ℕ
  pub pending : c.control.applied ≡ Some applied
  pub most : applied ≤ max_input_volume

-- what the private function says of the recommendation that follows
pub record RecommendedAs (controller : InputVolumeController) (near : Bool) (probability : Float) (level : Option Float) (r : Answered) : Type 0 where
  pub leads : Leads (recommended_line near (step (view_of controller) (recommendation probability level))) r
  pub accepted : (cause : Refusal) → r.reply ≡ Err cause → ⊥

-- a line in order, whose frame, with its volume for so many channels, and recommendation are these calls
pub record Makes (channels : ℕ) (line : List ℕ) (heard asked : Call) : Type 0 where
  pub meant : Fields
  pub means : meaning line ≡ Some meant
  pub frame_is : heard ≡ frame_call channels meant
  pub recommendation_is : asked ≡ recommendation_call meant

-- what the private function says of a line's two calls: it answers every line that makes them
abbrev pub FrameAnsweredAs : InputVolumeController → Call → Call → Answered → Type 0
FrameAnsweredAs controller heard asked r = (line : List ℕ) → Makes controller.control.channels.count line heard asked → AnsweredAs controller line r
