-- A run in which no frame is marked near is the run that exact logarithms lead to: every answer and every state is the same. So what rounded levels may change starts with the first marked
-- frame. What is exact are the logarithms: means and peaks are the rounded floats that the definition asks for, and a value at 1 or below counts as 1. Definitions only.
use Rattle.std.specs.Prelude.{◌≡◌, false, List, [], ◌∷◌, ℤ}
use Rattle.clipping_predictor.specs.declared.settings.ClippingPredictorConfig.{ClippingPredictorConfig}
use Rattle.mono_input_volume_controller.specs.declared.config.Config.{Config}
use Rattle.mono_input_volume_controller.specs.declared.profile.Profile.{Profile}
use Rattle.input_volume_controller.specs.declared.InputVolumeController.{InputVolumeController}
use Rattle.input_volume_controller.specs.Controller.{Controller, view_of}
use Rattle.input_volume_controller.specs.Profile.{making_in}
use Rattle.input_volume_controller.specs.Reply.{Reply, mark, refusal, volume, none, done, Stepped}
use Rattle.input_volume_controller.specs.Calls.{Call, frame, recommendation, initialise, capture_switch, step, after, Answer, answer_of, answers, Typed}
use Rattle.claims.specs.Made.{MadeAndHad}
use Rattle.claims.specs.Every.{Every}
use Rattle.claims.specs.ExactFrame.{exact_frame}
use Rattle.claims.specs.Unmarked.{PeakFits}

-- ---- calls with exact logarithms

-- no other call compares levels
abbrev pub exact_step : Controller → Call → Stepped
exact_step c (frame most volumes samples lent) = exact_frame most volumes samples lent c
exact_step c (recommendation probability level) = step c (recommendation probability level)
exact_step c initialise = step c initialise
exact_step c (capture_switch on) = step c (capture_switch on)

unfoldable pub exact_after : Controller → List Call → Controller
exact_after c [] = c
exact_after c (call ∷ calls) = exact_after (exact_step c call).state calls

unfoldable pub exact_answers : Controller → List Call → List Answer
exact_answers c [] = []
exact_answers c (call ∷ calls) = answer_of (exact_step c call) ∷ exact_answers (exact_step c call).state calls

-- ---- what is asked of the answers, and said

-- a reply that is no near mark
abbrev pub NotNear : Reply → Type 0
NotNear (mark near) = near ≡ false
NotNear (refusal number) = Unit {0}
NotNear (volume z) = Unit {0}
NotNear none = Unit {0}
NotNear done = Unit {0}

abbrev pub Unmarked : Answer → Type 0
Unmarked a = NotNear a.reply

-- the answers and the last state are those that exact logarithms lead to
pub record SameAsExact (c : Controller) (calls : List Call) : Type 0 where
  pub answers_are : answers c calls ≡ exact_answers c calls
  pub state_is : after c calls ≡ exact_after c calls

-- the same of a controller of the code, with what was heard of it since it was made
pub record HeardAsExact (new : Controller) (calls : List Call) (heard : List Answer) (c : InputVolumeController) : Type 0 where
  pub heard_is : heard ≡ exact_answers new calls
  pub view_is : view_of c ≡ exact_after new calls

-- THE CLAIM, for a controller whose rings hold 32-bit floats, and so for every one that is made, within any profile and with any predictor; of the code nothing is asked, since its samples are 32-bit floats
pub record UnmarkedRunIsExact : Type 0 where
  pub from : (c : Controller) (calls : List Call) → Every (Every PeakFits) c.predictor.rings → Every Typed calls → Every Unmarked (answers c calls) → SameAsExact c calls
  pub made : (profile : Profile) (channels : ℤ) (config : Config) (predictor : ClippingPredictorConfig) (calls : List Call) → Every Typed calls → Every Unmarked (answers (making_in profile channels config predictor).controller calls)
      → SameAsExact (making_in profile channels config predictor).controller calls
  pub in_code : (profile : Profile) (channels : ℤ) (config : Config) (predictor : ClippingPredictorConfig) (calls : List Call) (heard : List Answer) (c : InputVolumeController)
      → MadeAndHad profile channels config predictor calls heard c → Every Unmarked heard → HeardAsExact (making_in profile channels config predictor).controller calls heard c
