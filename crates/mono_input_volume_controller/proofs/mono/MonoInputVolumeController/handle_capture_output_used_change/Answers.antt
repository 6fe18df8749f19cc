-- `MonoInputVolumeController::handle_capture_output_used_change` meets its contract. Assumes nothing.
use Rattle.mono_input_volume_controller.proofs.Paths.{switched}
use Rattle.mono_input_volume_controller.proofs.Kept.{becomes, good_switched}
use Rattle.mono_input_volume_controller.proofs.mono.MonoInputVolumeController.handle_capture_output_used_change.Goals as goal

pub returns : goal.returns
returns c = becomes (switched _ _ _ c.check_asked.ensures) (good_switched _ _ c.requires)
