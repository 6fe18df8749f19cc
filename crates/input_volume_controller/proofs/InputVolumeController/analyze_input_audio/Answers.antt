-- `InputVolumeController::analyze_input_audio` meets its contract: `analyze_within` at its limits. Assumes nothing.
use Rattle.input_volume_controller.proofs.Whole.{read_back}
use Rattle.input_volume_controller.proofs.InputVolumeController.analyze_input_audio.Goals as goal

pub returns : goal.returns
returns c = read_back c.args.applied_input_volume c.ranges.applied_input_volume c.analyze_within.ensures
