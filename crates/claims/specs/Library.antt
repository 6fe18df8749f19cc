-- The static library. A sequence of its calls, with those that take the control alone put together as include/agc2.h and bindings/rust do, is a run of the controller, and what C and Rust get are that
-- run's answers in numbers. So every claim about runs reaches them. The contracts of the exported functions stand in `agc2/src/lib.rt`. Definitions only.
use Rattle.std.specs.Prelude.{◌≡◌, Bool, List, [], ◌∷◌, ℕ, ℤ, Float, Option}
use Rattle.clipping_predictor_level_buffer.specs.declared.level.Level.{Level}
use Rattle.clipping_predictor.specs.declared.settings.ClippingPredictorConfig.{ClippingPredictorConfig}
use Rattle.mono_input_volume_controller.specs.declared.config.Config.{Config}
use Rattle.mono_input_volume_controller.specs.declared.profile.Profile.{Profile}
use Rattle.input_volume_controller.specs.declared.limits.Limits.{Limits}
use Rattle.input_volume_controller.specs.declared.plain.PlainControl.{PlainControl}
use Rattle.input_volume_controller.specs.Plain.{whole_control}
use Rattle.input_volume_controller.specs.Controller.{view_of, Good}
use Rattle.input_volume_controller.specs.Reply.{Reply, done}
use Rattle.input_volume_controller.specs.Calls.{Call, frame, recommendation, initialise, capture_switch, Answer, ControlDoes}
use Rattle.agc2.specs.declared.answers.FrameNumbers.{FrameNumbers}
use Rattle.agc2.specs.declared.answers.VolumeNumbers.{VolumeNumbers}
use Rattle.agc2.specs.declared.answers.Agc2Control.{Agc2Control}
use Rattle.agc2.specs.declared.answers.Agc2Controller.{Agc2Controller}
use Rattle.agc2.specs.Answers.{frame_numbers, volume_numbers}
use Rattle.agc2.specs.Whole.{whole_of}
use Rattle.agc2.specs.Calls.{CreatedIn, AnalyzedEachOf, RecommendedOf}
use Rattle.claims.specs.Run.{Run}
use Rattle.claims.specs.Made.{MadeAndHad}

-- ---- what a call answers, in numbers

pub data Numbers : Type 0 where
  -- a frame's refusal, or 0, and its mark
  of_frame : FrameNumbers → Numbers
  -- a recommendation's flag, and its volume
  of_recommendation : VolumeNumbers → Numbers
  -- an initialise or a switch
  nothing : Numbers

abbrev pub in_numbers : Call → Reply → Numbers
in_numbers (frame most volumes samples lent) says = of_frame (frame_numbers says)
in_numbers (recommendation probability level) says = of_recommendation (volume_numbers says)
in_numbers initialise says = nothing
in_numbers (capture_switch on) says = nothing

-- ---- one call, by the contract of its exported function: the controller before, the call, its numbers, and the controller after it

-- `agc2_recommend_input_volume_into` is lent the control within the controller
abbrev pub with_control : Agc2Control → Agc2Controller → Agc2Controller
with_control control c = record { refusal = c.refusal; near = c.near; control = control; predictor = c.predictor }

-- `agc2_initialize` and `agc2_handle_capture_output_used_change` put the state back that they are handed
abbrev pub with_state : PlainControl → Agc2Controller → Agc2Controller
with_state state c = with_control (record { present = c.control.present; volume = c.control.volume; control = state }) c

pub data LibraryCall : Agc2Controller → Call → Numbers → Agc2Controller → Type 0 where
  -- `agc2_analyze_input_audio_each_into` and `agc2_spotter_analyze_input_audio_each_into`, each with its limits; `agc2_analyze_input_audio_into` and `agc2_spotter_analyze_input_audio_into` are these at equal
  -- volumes (`AnalyzedOf`)
  framed : {c d : Agc2Controller} {most : Limits} {volumes : List ℤ} {samples : ℕ} {lent : List Float} → AnalyzedEachOf most (whole_of c) volumes samples lent d
      → LibraryCall c (frame most volumes samples lent) (of_frame (record { refusal = d.refusal; near = d.near })) d
  recommended : {c : Agc2Controller} {control : Agc2Control} {probability : Float} {level : Option Float} → RecommendedOf (whole_control c.control.control) probability level control
      → LibraryCall c (recommendation probability level) (of_recommendation (record { present = control.present; volume = control.volume })) (with_control control c)
  initialised : {c : Agc2Controller} {state : PlainControl} → ControlDoes (whole_control c.control.control) initialise done (whole_control state)
      → LibraryCall c initialise nothing (with_state state c)
  switched : {c : Agc2Controller} {state : PlainControl} {on : Bool} → ControlDoes (whole_control c.control.control) (capture_switch on) done (whole_control state)
      → LibraryCall c (capture_switch on) nothing (with_state state c)

-- ---- a list of calls

-- the numbers of a call, and what `agc2_recommended_input_volume` and `agc2_stored_record` then show
pub record Heard : Type 0 where
  pub numbers : Numbers
  pub volume : ℕ
  pub stored : List (List Level)

abbrev pub heard_of : Numbers → Agc2Controller → Heard
heard_of numbers c = record { numbers = numbers; volume = (whole_of c).control.volume; stored = (view_of (whole_of c)).predictor.rings }

pub data LibraryRun : Agc2Controller → List Call → List Heard → Agc2Controller → Type 0 where
  none : {c : Agc2Controller} → LibraryRun c [] [] c
  next : {c d e : Agc2Controller} {call : Call} {calls : List Call} {says : Numbers} {rest : List Heard} → LibraryCall c call says d → LibraryRun d calls rest e → LibraryRun c (call ∷ calls) (heard_of says d ∷ rest) e

-- answers in numbers
unfoldable pub all_in_numbers : List Call → List Answer → List Heard
all_in_numbers [] answers = []
all_in_numbers (call ∷ calls) [] = []
all_in_numbers (call ∷ calls) (a ∷ answers) = record { numbers = in_numbers call a.reply; volume = a.volume; stored = a.stored } ∷ all_in_numbers calls answers

-- a run of the controller that these numbers stand for, of which this was heard
pub record RunsAs (c : Agc2Controller) (calls : List Call) (all : List Heard) (e : Agc2Controller) : Type 0 where
  pub heard : List Answer
  pub run : Run (whole_of c) calls heard (whole_of e)
  pub numbers : all ≡ all_in_numbers calls heard

-- the same from an accepted making on
pub record MadeAs (profile : Profile) (channels : ℤ) (config : Config) (predictor : ClippingPredictorConfig) (calls : List Call) (all : List Heard) (e : Agc2Controller) : Type 0 where
  pub heard : List Answer
  pub had : MadeAndHad profile channels config predictor calls heard (whole_of e)
  pub numbers : all ≡ all_in_numbers calls heard

-- THE CLAIM; `CreatedIn` is what the contract of `agc2_new_in_profile_by_value` says, within the plain profile that of `agc2_new_with_predictor_by_value`, and with the base's predictor that of
-- `agc2_new_by_value`; 0 is their word for an accepted making
pub record LibraryRunsAreRuns : Type 0 where
  pub runs : (c : Agc2Controller) (calls : List Call) (all : List Heard) (e : Agc2Controller) → Good (whole_of c) → LibraryRun c calls all e → RunsAs c calls all e
  pub made : (profile : Profile) (channels : ℤ) (config : Config) (predictor : ClippingPredictorConfig) (c : Agc2Controller) (calls : List Call) (all : List Heard) (e : Agc2Controller)
      → CreatedIn profile channels config predictor c → c.refusal ≡ 0 → LibraryRun c calls all e → MadeAs profile channels config predictor calls all e
