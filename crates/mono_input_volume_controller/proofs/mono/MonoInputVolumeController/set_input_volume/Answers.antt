-- `MonoInputVolumeController::set_input_volume` meets its contract. Assumes nothing.
use mathlib.Core.Path.{sym, ◌∙◌}
use Rattle.mono_input_volume_controller.proofs.Paths.{set_muted, set_users, set_same, set_new}
use Rattle.mono_input_volume_controller.proofs.Kept.{becomes, good_set}
use Rattle.mono_input_volume_controller.proofs.mono.MonoInputVolumeController.set_input_volume.Goals as goal

pub returns-then-here-eq0 : goal.returns-then-here-eq0
returns-then-here-eq0 c = becomes (set_muted _ _ c.if-here-eq0.true) (good_set _ _ c.requires)

pub returns-then-is_users : goal.returns-then-is_users
returns-then-is_users c =
    becomes (c.taken_from_user.ensures.is ∙ set_users _ _ c.if-here-eq0.false (sym c.is_users.ensures ∙ c.if-is_users.true)) (good_set _ _ c.requires)

pub returns-then-new-last : goal.returns-then-new-last
returns-then-new-last c =
    becomes (set_same _ _ c.if-here-eq0.false (sym c.is_users.ensures ∙ c.if-is_users.false) _ c.min-new.ensures c.if-new-last.true) (good_set _ _ c.requires)

pub returns : goal.returns
returns c =
    becomes (set_new _ _ c.if-here-eq0.false (sym c.is_users.ensures ∙ c.if-is_users.false) _ c.min-new.ensures c.if-new-last.false) (good_set _ _ c.requires)
