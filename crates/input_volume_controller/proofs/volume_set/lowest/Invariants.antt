-- `lowest` meets its contract: what is left leads to the same as all. Assumes nothing.
use mathlib.Core.Path.{◌≡◌}
use Prim.Native.Nat.{◌-◌, ◌≤◌}
use lib.ListN.{drop}
use Rattle.input_volume_controller.specs.Volumes.{lowest_from, lowest_of}
use Rattle.input_volume_controller.specs.VolumeSet.{levels_of}
use Rattle.input_volume_controller.proofs.volume_set.lowest.Given as goal

abbrev pub invariant-loop-i : goal.invariant-loop-i
invariant-loop-i l = (1 ≤ l.i) × (l.i ≤ l.channels) × (lowest_from l.low (drop l.i (levels_of l.levels l.channels)) ≡ lowest_of (levels_of l.levels l.channels))

abbrev pub decreases-loop-i : goal.decreases-loop-i
decreases-loop-i l = l.channels - l.i
