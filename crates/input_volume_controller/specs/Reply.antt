-- Document 01, on answers: "a frame's mark or refusal number, a recommendation's volume or none". Definitions only.
use Rattle.std.specs.Prelude.{Bool, ℕ, ℤ, Err, None, Ok, Option, Result, Some}
use Rattle.numbers.specs.declared.refusal.Refusal.{Refusal}
use Rattle.numbers.specs.Refusal.{number_of}
use Rattle.input_volume_controller.specs.Controller.{Controller}

pub data Reply : Type 0 where
  -- an accepted frame's mark
  mark : Bool → Reply
  -- a refusal's number
  refusal : ℕ → Reply
  -- a recommended volume
  volume : ℤ → Reply
  none : Reply
  -- an initialise or a switch
  done : Reply

-- document 01's words for each case of an answer: a frame's here, a recommendation's below
abbrev pub analysis_says : Result Bool Refusal → Reply
analysis_says (Ok near) = mark near
analysis_says (Err cause) = refusal (number_of cause)

abbrev pub recommendation_says : Option ℤ → Reply
recommendation_says (Some v) = volume v
recommendation_says None = none

-- a call's reply, and the state that it hands back
pub record Stepped : Type 0 where
  pub reply : Reply
  pub state : Controller
