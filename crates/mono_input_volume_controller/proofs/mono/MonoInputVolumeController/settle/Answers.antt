-- `MonoInputVolumeController::settle` meets its contract. Assumes nothing.
use mathlib.Core.Path.{◌∙◌}
use Rattle.mono_input_volume_controller.proofs.Paths.{settle_check, settle_none}
use Rattle.mono_input_volume_controller.proofs.Kept.{becomes, good_settled}
use Rattle.mono_input_volume_controller.proofs.mono.MonoInputVolumeController.settle.Goals as goal

pub returns-then-self : goal.returns-then-self
returns-then-self c = becomes (c.check_volume_and_reset.ensures.is ∙ settle_check _ c.if-self.true) (good_settled _ c.requires)

pub returns : goal.returns
returns c = becomes (settle_none _ c.if-self.false) (good_settled _ c.requires)
