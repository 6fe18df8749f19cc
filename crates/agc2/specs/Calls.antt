-- What the exported calls hand back: the state that the definition of a call says, and its reply in numbers. Definitions only.
use Rattle.std.specs.Prelude.{◌≡◌, List, ℕ, ℤ, pos, Float, Option}
use Rattle.numbers.specs.Said.{said}
use Rattle.clipping_predictor.specs.declared.settings.ClippingPredictorConfig.{ClippingPredictorConfig}
use Rattle.mono_input_volume_controller.specs.declared.config.Config.{Config}
use Rattle.mono_input_volume_controller.specs.declared.profile.Profile.{Profile}
use Rattle.mono_input_volume_controller.specs.declared.profile.Profile.TheVariants.{Plain}
use Rattle.input_volume_controller.specs.declared.limits.Limits.{Limits}
use Rattle.input_volume_controller.specs.declared.volume_control.VolumeControl.{VolumeControl}
use Rattle.input_volume_controller.specs.declared.InputVolumeController.{InputVolumeController}
use Rattle.input_volume_controller.specs.Plain.{whole_control}
use Rattle.input_volume_controller.specs.Volumes.{equal_volumes}
use Rattle.input_volume_controller.specs.Controller.{view_of, Becomes, Making, base_predictor}
use Rattle.input_volume_controller.specs.Profile.{making_in}
use Rattle.input_volume_controller.specs.Reply.{Reply, Stepped}
use Rattle.input_volume_controller.specs.Reply.{refusal as refused}
use Rattle.input_volume_controller.specs.Calls.{Call, frame, recommendation, step, Typed, ControlDoes}
use Rattle.agc2.specs.declared.answers.Agc2Controller.{Agc2Controller}
use Rattle.agc2.specs.declared.answers.Agc2Control.{Agc2Control}
use Rattle.agc2.specs.declared.given.Volumes.{Volumes}
use Rattle.agc2.specs.Whole.{whole_of}
use Rattle.agc2.specs.Given.{volumes_for}
use Rattle.agc2.specs.Answers.{outcome_number, frame_numbers, volume_numbers}

-- no recommendation has been answered since
pub record Unanswered (c : Agc2Control) : Type 0 where
  pub present : c.present ≡ 0
  pub volume : c.volume ≡ pos 0

-- a making
pub record CreatedAs (making : Making) (r : Agc2Controller) : Type 0 where
  pub refusal : r.refusal ≡ outcome_number (said making.answer)
  pub near : r.near ≡ 0
  pub unanswered : Unanswered r.control
  pub becomes : Becomes making.controller (whole_of r)

-- within a profile; the plain one with any predictor, and with the base's
abbrev pub CreatedIn : Profile → ℤ → Config → ClippingPredictorConfig → Agc2Controller → Type 0
CreatedIn profile channels config predictor r = CreatedAs (making_in profile channels config predictor) r

abbrev pub CreatedWith : ℤ → Config → ClippingPredictorConfig → Agc2Controller → Type 0
CreatedWith channels config predictor r = CreatedIn Plain channels config predictor r

abbrev pub CreatedOf : ℤ → Config → Agc2Controller → Type 0
CreatedOf channels config r = CreatedWith channels config base_predictor r

-- a frame's step; a refused one hands the very controller back
pub record FramedAs (self : InputVolumeController) (call : Call) (s : Stepped) (r : Agc2Controller) : Type 0 where
  pub typed : Typed call
  pub refusal : r.refusal ≡ (frame_numbers s.reply).refusal
  pub near : r.near ≡ (frame_numbers s.reply).near
  pub unanswered : Unanswered r.control
  pub becomes : Becomes s.state (whole_of r)
  pub same : (n : ℕ) → s.reply ≡ refused n → whole_of r ≡ self

-- through an entry with these limits, with a volume for each channel, and with one for all
abbrev pub AnalyzedEachOf : Limits → InputVolumeController → List ℤ → ℕ → List Float → Agc2Controller → Type 0
AnalyzedEachOf most self volumes samples lent r = FramedAs self (frame most volumes samples lent) (step (view_of self) (frame most volumes samples lent)) r

abbrev pub AnalyzedOf : Limits → InputVolumeController → ℤ → ℕ → List Float → Agc2Controller → Type 0
AnalyzedOf most self volume samples lent r = AnalyzedEachOf most self (equal_volumes volume self.control.channels.count) samples lent r

-- with volumes that are not yet counted
abbrev pub AnalyzedGivenOf : Limits → InputVolumeController → Volumes → ℕ → List Float → Agc2Controller → Type 0
AnalyzedGivenOf most self volumes samples lent r = AnalyzedEachOf most self (volumes_for self.control.channels.count volumes) samples lent r

-- a recommendation, whatever predictor stands beside the control
pub record RecommendedAs (self : VolumeControl) (call : Call) (r : Agc2Control) : Type 0 where
  pub says : Reply
  pub does : ControlDoes self call says (whole_control r.control)
  pub present : r.present ≡ (volume_numbers says).present
  pub volume : r.volume ≡ (volume_numbers says).volume

abbrev pub RecommendedOf : VolumeControl → Float → Option Float → Agc2Control → Type 0
RecommendedOf self probability level r = RecommendedAs self (recommendation probability level) r
