-- No claim about runs is empty: every making has something to hand back, and from every controller in good order, so from every one that a making accepts, every list of calls has a run. A run here
-- is one that the contracts allow: which of them the functions take (the places that no value speaks of) is left open. Definitions only.
use Rattle.std.specs.Prelude.{List, ℤ}
use Rattle.clipping_predictor.specs.declared.settings.ClippingPredictorConfig.{ClippingPredictorConfig}
use Rattle.mono_input_volume_controller.specs.declared.config.Config.{Config}
use Rattle.mono_input_volume_controller.specs.declared.profile.Profile.{Profile}
use Rattle.input_volume_controller.specs.declared.InputVolumeController.{InputVolumeController}
use Rattle.input_volume_controller.specs.declared.Created.{Created}
use Rattle.input_volume_controller.specs.Controller.{Good}
use Rattle.input_volume_controller.specs.Profile.{CreatedIn}
use Rattle.input_volume_controller.specs.Calls.{Call, Answer, Typed}
use Rattle.claims.specs.Run.{Run}
use Rattle.claims.specs.Every.{Every}

-- a run from the controller by the calls
pub record HasRun (c : InputVolumeController) (calls : List Call) : Type 0 where
  pub heard : List Answer
  pub last : InputVolumeController
  pub run : Run c calls heard last

-- what a making hands back
pub record HasMaking (profile : Profile) (channels : ℤ) (config : Config) (predictor : ClippingPredictorConfig) : Type 0 where
  pub made : Created
  pub created : CreatedIn profile channels config predictor made

-- THE CLAIM
pub record RunsExist : Type 0 where
  pub makings : (profile : Profile) (channels : ℤ) (config : Config) (predictor : ClippingPredictorConfig) → HasMaking profile channels config predictor
  pub runs : (c : InputVolumeController) (calls : List Call) → Good c → Every Typed calls → HasRun c calls
