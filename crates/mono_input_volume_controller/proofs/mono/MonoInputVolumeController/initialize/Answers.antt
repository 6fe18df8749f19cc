-- `MonoInputVolumeController::initialize` meets its contract, field by field. Assumes nothing.
use mathlib.Core.Path.{refl}
use borrow.Author.Rules.{rules}
use Rattle.mono_input_volume_controller.proofs.mono.MonoInputVolumeController.initialize.Goals as goal

pub returns : goal.returns
returns c = record { is = refl; good = search rules }
