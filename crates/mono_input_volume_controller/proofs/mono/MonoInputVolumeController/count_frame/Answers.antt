-- `MonoInputVolumeController::count_frame` meets its contract. Assumes nothing.
use mathlib.Core.Path.{◌∙◌}
use Rattle.mono_input_volume_controller.proofs.Paths.{count_early, count_end}
use Rattle.mono_input_volume_controller.proofs.Kept.{becomes, good_counted}
use Rattle.mono_input_volume_controller.proofs.mono.MonoInputVolumeController.count_frame.Goals as goal

pub returns-then-frames-self : goal.returns-then-frames-self
returns-then-frames-self c =
    becomes (count_early _ _ _ c.if-frames-self.true) (good_counted _ _ _ c.requires.1 c.requires.0)

pub returns : goal.returns
returns c =
    becomes (c.end_wait.ensures.is ∙ count_end _ _ _ c.if-frames-self.false _ c.may_act-enough.ensures) (good_counted _ _ _ c.requires.1 c.requires.0)
