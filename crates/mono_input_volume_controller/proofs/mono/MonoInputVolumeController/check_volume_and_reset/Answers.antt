-- `MonoInputVolumeController::check_volume_and_reset` meets its contract. Assumes nothing.
use mathlib.Core.Path.{sym, ◌∙◌}
use Rattle.mono_input_volume_controller.proofs.Paths.{check_muted, check_done}
use Rattle.mono_input_volume_controller.proofs.Kept.{becomes, good_checked}
use Rattle.mono_input_volume_controller.proofs.mono.MonoInputVolumeController.check_volume_and_reset.Goals as goal

pub returns-then-stays_muted : goal.returns-then-stays_muted
returns-then-stays_muted c = becomes (check_muted _ (sym c.stays_muted.ensures ∙ c.if-stays_muted.true)) (good_checked _ c.requires)

pub returns : goal.returns
returns c =
    becomes (check_done _ (sym c.stays_muted.ensures ∙ c.if-stays_muted.false) _ c.max-input_volume.ensures) (good_checked _ c.requires)
