-- `InputVolumeController::classroom` meets its contract: it is the classroom's making with the base's predictor. Assumes nothing.
use mathlib.Core.Path.{refl}
use Rattle.mono_input_volume_controller.specs.declared.profile.Profile.TheVariants.{Classroom}
use Rattle.input_volume_controller.specs.Controller.{Making, CreatedAs}
use Rattle.input_volume_controller.proofs.Profiles.{made_at}
use Rattle.input_volume_controller.proofs.InputVolumeController.classroom.Goals as goal

pub returns : goal.returns
returns c =
    made_at (λ (m : Making). CreatedAs m c.in_profile.result) Classroom c.args.num_capture_channels c.ranges.num_capture_channels.sfits refl c.default_predictor_config.ensures c.in_profile.ensures
