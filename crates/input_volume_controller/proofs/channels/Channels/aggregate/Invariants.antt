-- `Channels::aggregate` meets its contract: what is left leads to the same as all. Assumes nothing.
use mathlib.Core.Path.{◌≡◌}
use Prim.Native.Nat.{◌-◌, ◌≤◌}
use lib.ListN.{drop}
use Rattle.input_volume_controller.specs.Channels.{channels_of, aggregate_from, aggregate_of}
use Rattle.input_volume_controller.proofs.channels.Channels.aggregate.Given as goal

abbrev pub invariant-loop-i : goal.invariant-loop-i
invariant-loop-i l = (1 ≤ l.i) × (l.i ≤ l.self.count) × (aggregate_from l.lowest l.i (drop l.i (channels_of l.self)) ≡ aggregate_of (channels_of l.self))

abbrev pub decreases-loop-i : goal.decreases-loop-i
decreases-loop-i l = l.i-end - l.i
