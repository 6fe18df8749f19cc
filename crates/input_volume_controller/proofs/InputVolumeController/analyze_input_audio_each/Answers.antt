-- `InputVolumeController::analyze_input_audio_each` meets its contract. Assumes nothing.
use Rattle.input_volume_controller.proofs.Whole.{of_set}
use Rattle.input_volume_controller.proofs.InputVolumeController.analyze_input_audio_each.Goals as goal

pub returns : goal.returns
returns c = of_set _ c.args.self c.requires c.args.volumes.now _ c.lent_volumes.ensures c.args.samples_per_channel c.args.frame.now c.analyze_volumes.ensures
