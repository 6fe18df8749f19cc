-- `MonoInputVolumeController::end_wait` meets its contract. Assumes nothing.
use mathlib.Core.Path.{◌∙◌}
use Rattle.mono_input_volume_controller.proofs.Paths.{waited_act, waited_none}
use Rattle.mono_input_volume_controller.proofs.Kept.{becomes, good_waited}
use Rattle.mono_input_volume_controller.proofs.mono.MonoInputVolumeController.end_wait.Goals as goal

pub returns-then-enough : goal.returns-then-enough
returns-then-enough c = becomes (c.correct.ensures.is ∙ waited_act _ _ _ c.if-enough.true) (good_waited _ _ _ c.requires)

pub returns : goal.returns
returns c = becomes (waited_none _ _ _ c.if-enough.false) (good_waited _ _ _ c.requires)
