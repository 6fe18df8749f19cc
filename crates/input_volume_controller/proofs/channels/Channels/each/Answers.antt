-- `Channels::each` meets its contract: channel by channel. Assumes nothing.
use mathlib.Core.Path.{refl}
use Prim.Native.Nat.{◌<◌}
use native.Mathlib.Omega.{arith}
use Rattle.numbers.proofs.Arrays.{replaced_none, replaced_more}
use Rattle.clipping_predictor.specs.Predictor.{max_channels}
use Rattle.input_volume_controller.specs.Channels.{no_channel}
use Rattle.input_volume_controller.proofs.ChannelLists.{each_done}
use Rattle.input_volume_controller.proofs.channels.Channels.each.Goals as goal

pub loop-i-init : goal.loop-i-init
loop-i-init g c = (refl, replaced_none no_channel _ c.args.self.items)

pub call-requires : goal.call-requires
call-requires g c =
    let below : c.loop-i.i < max_channels = omega (arith, c.requires.good.high) in
    rw (c.loop-i.invariant.1.rest c.loop-i.i (omega arith)) (c.requires.may_call c.loop-i.i _ below (c.requires.good.each c.loop-i.i c.loop-i-test.true))

pub loop-i-preserved : goal.loop-i-preserved
loop-i-preserved g c = (
  c.loop-i.invariant.0,
  replaced_more no_channel _ c.args.self.items c.loop-i.i c.loop-i.c.items c.call.result c.loop-i.invariant.1 (omega (arith, c.requires.good.high, c.requires.good.places)) c.call.ensures,
)

pub returns : goal.returns
returns g c = each_done c.args.self c.loop-i.c c.requires.good c.requires.keeps c.loop-i.invariant.0 c.loop-i.i c.loop-i-test.false c.loop-i.invariant.1
