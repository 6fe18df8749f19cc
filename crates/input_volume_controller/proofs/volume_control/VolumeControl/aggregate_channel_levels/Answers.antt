-- `VolumeControl::aggregate_channel_levels` meets its contract. Assumes nothing.
use native.Mathlib.Omega.{arith}
use Rattle.input_volume_controller.proofs.Volumes.{with_volume_lem}
use Rattle.input_volume_controller.proofs.volume_control.VolumeControl.aggregate_channel_levels.Goals as goal

pub returns : goal.returns
returns c =
    with_volume_lem c.args.self c.requires c.aggregate-lowest.result c.raised_for.result (omega (arith, c.raised_for.type_inv)) c.aggregate-lowest.ensures c.raised_for.ensures
