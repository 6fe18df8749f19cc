-- `Channels::aggregate` meets its contract: what is left leads to the same as all. Assumes nothing.
use mathlib.Core.Path.{sym, ap, ◌∙◌}
use Prim.Native.Nat.{◌+◌}
use native.Mathlib.Omega.{arith}
use lib.ListN.{drop}
use Rattle.input_volume_controller.specs.declared.channels.Aggregate.{Aggregate}
use Rattle.input_volume_controller.specs.Channels.{channel_at, channels_of, aggregate_from}
use Rattle.input_volume_controller.proofs.ChannelLists.{aggregate_starts, aggregate_goes_on, aggregate_ends}
use Rattle.input_volume_controller.proofs.channels.Channels.aggregate.Goals as goal

pub bounds-self-0 : goal.bounds-self-0
bounds-self-0 c = omega arith

pub loop-i-init : goal.loop-i-init
unfolding channels_of
loop-i-init c = (omega arith, c.requires.low, aggregate_starts (channel_at c.args.self) c.args.self.count c.requires.low)

pub loop-i-preserved : goal.loop-i-preserved
unfolding channels_of
loop-i-preserved c = (
  omega arith,
  omega arith,
  ap (λ (a : Aggregate). aggregate_from a (c.loop-i.i + 1) (drop (c.loop-i.i + 1) (channels_of c.args.self))) c.lower_of-lowest.ensures
      ∙ aggregate_goes_on (channel_at c.args.self) c.args.self.count c.loop-i.lowest c.loop-i.i (omega arith)
      ∙ c.loop-i.invariant.2,
)

pub returns : goal.returns
unfolding channels_of
returns c =
    sym (aggregate_ends (channel_at c.args.self) c.args.self.count c.loop-i.lowest c.loop-i.i c.loop-i-test.false) ∙ c.loop-i.invariant.2
