-- `InputVolumeController::recommend_input_volume` meets its contract. Assumes nothing.
use Rattle.input_volume_controller.proofs.Whole.{does_whole}
use Rattle.input_volume_controller.proofs.InputVolumeController.recommend_input_volume.Goals as goal

pub returns : goal.returns
returns c = does_whole c.args.self _ _ _ c.requires tt c.recommend_input_volume-recommended.ensures
