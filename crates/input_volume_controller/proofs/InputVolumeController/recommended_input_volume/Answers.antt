-- `InputVolumeController::recommended_input_volume` meets its contract. Assumes nothing.
use native.Mathlib.Omega.{arith}
use Rattle.std.proofs.lemmas.Int.{ints}
use Rattle.input_volume_controller.specs.Control.{control_of}
use Rattle.input_volume_controller.specs.Controller.{view_of}
use Rattle.input_volume_controller.proofs.InputVolumeController.recommended_input_volume.Goals as goal

pub returns : goal.returns
unfolding view_of control_of
returns c = omega (arith, ints, c.from.ensures, c.requires.control.volume)
