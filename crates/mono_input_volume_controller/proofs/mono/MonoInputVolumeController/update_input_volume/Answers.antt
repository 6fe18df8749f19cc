-- `MonoInputVolumeController::update_input_volume` meets its contract. Assumes nothing.
use mathlib.Core.Path.{◌≡◌, ap, ◌∙◌}
use lib.IntN.{ℤ}
use Rattle.numbers.proofs.Signs.{small, again}
use Rattle.gain_map.specs.VolumeUpdate.{walk}
use Rattle.mono_input_volume_controller.specs.MonoState.{max_input_volume}
use Rattle.mono_input_volume_controller.specs.MonoProcess.{held_error}
use Rattle.mono_input_volume_controller.proofs.Paths.{zero_bits, other_bits, update_none, update_walk}
use Rattle.mono_input_volume_controller.proofs.Kept.{becomes, good_updated}
use Rattle.mono_input_volume_controller.proofs.mono.MonoInputVolumeController.update_input_volume.Goals as goal
use Rattle.mono_input_volume_controller.proofs.mono.MonoInputVolumeController.update_input_volume.Goals.{After-hold_error-held}

-- the error that was held, of the number that was handed in
held-is : (c : After-hold_error-held) → c.hold_error-held.result ≡ held_error c.args.rms_error_db
held-is c = c.hold_error-held.ensures ∙ ap held_error (again c.args.rms_error_db c.ranges.rms_error_db.sfits)

pub returns-then-held-eq0 : goal.returns-then-held-eq0
returns-then-held-eq0 c =
    becomes (update_none _ _ _ (held-is c.before) (zero_bits c.hold_error-held.result (small c.hold_error-held.type_inv) c.if-held-eq0.true)) (good_updated _ _ c.requires)

pub returns : goal.returns
returns c =
    let walked = c.walk_from-volume.ensures ∙ ap (λ (z : ℤ). walk z c.args.self.last c.args.self.least max_input_volume) (again c.hold_error-held.result c.hold_error-held.type_inv) in
    becomes (c.set_input_volume.ensures.is ∙ update_walk c.args.self _ c.hold_error-held.result (held-is c.before.before.before) _ (other_bits c.hold_error-held.result c.if-held-eq0.false) walked) (good_updated _ _ c.requires)
