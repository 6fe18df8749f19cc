-- `InputVolumeController::initialize` meets its contract. Assumes nothing.
use Rattle.input_volume_controller.proofs.Whole.{does_whole}
use Rattle.input_volume_controller.proofs.InputVolumeController.initialize.Goals as goal

pub returns : goal.returns
returns c = does_whole c.args.self _ _ _ c.requires tt c.initialize-c.ensures
