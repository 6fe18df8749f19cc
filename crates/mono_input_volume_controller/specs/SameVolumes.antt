-- Document 02 (iii): whether two states of a channel have the same volumes. Two steps of a clipping leave a channel in the same state exactly if they have (proofs/ClippingSteps.antt). Definitions only.
use Rattle.std.specs.Prelude.{Bool, ◌&&◌, eqb}
use Rattle.mono_input_volume_controller.specs.declared.mono.MonoInputVolumeController.{MonoInputVolumeController}

unfoldable pub same_volumes : MonoInputVolumeController → MonoInputVolumeController → Bool
same_volumes a b = eqb a.ceiling b.ceiling && (eqb a.last b.last && eqb a.volume b.volume)
