-- `VolumeControl::with_channels` meets its contract. Assumes nothing.
use native.Mathlib.Omega.{arith}
use Rattle.input_volume_controller.specs.Control.{control_of}
use Rattle.input_volume_controller.proofs.Volumes.{channels_left}
use Rattle.input_volume_controller.proofs.volume_control.VolumeControl.with_channels.Goals as goal

pub returns : goal.returns
unfolding control_of
returns c =
    channels_left c.args.self c.requires.0 c.args.channels c.args.pending c.args.left c.aggregate-lowest.result c.raised_for.result c.requires.1 (omega (arith, c.raised_for.type_inv)) c.aggregate-lowest.ensures c.raised_for.ensures
