-- `MonoInputVolumeController::handle_clipping` meets its contract. Assumes nothing.
use mathlib.Core.Path.{◌≡◌, ap, ◌∙◌}
use Prim.Native.Nat.{max}
use Rattle.mono_input_volume_controller.specs.Mono.{lowered}
use Rattle.mono_input_volume_controller.proofs.Paths.{clip_ceiling, clip_volume}
use Rattle.mono_input_volume_controller.proofs.Kept.{becomes, good_clipped}
use Rattle.mono_input_volume_controller.proofs.mono.MonoInputVolumeController.handle_clipping.Goals as goal
use Rattle.mono_input_volume_controller.proofs.mono.MonoInputVolumeController.handle_clipping.Goals.{After-max}

-- the lowered ceiling
top : (c : After-max) → c.max.result ≡ lowered c.args.self c.args.clipped_level_step c.args.self.ceiling
top c = c.max.ensures ∙ ap (max c.args.self.floor) c.saturating_sub.ensures

pub returns-then-last-floor : goal.returns-then-last-floor
returns-then-last-floor c = becomes (clip_ceiling _ _ _ (top c.before) c.if-last-floor.true) (good_clipped _ _ c.requires)

pub returns : goal.returns
returns c =
    becomes (clip_volume _ _ _ (top c.before.before.before.before) c.if-last-floor.false _ _ (c.max-new_volume.ensures ∙ ap (max _) c.saturating_sub-2.ensures) c.set_input_volume-n.ensures.is) (good_clipped _ _ c.requires)
