-- `gain_map::fall_from` meets its contract: each volume that it passes has not fallen enough, so it stops at the first that has, or at the end. Assumes nothing.
use mathlib.Core.Path.{◌∙◌}
use Prim.Native.Nat.{◌+◌, ◌-◌}
use native.Mathlib.Omega.{arith}
use borrow.Author.Tests.{le-leb, lt-leb}
use Rattle.numbers.proofs.Loops.{starts, goes_on, stops_at_end, stops_here}
use Rattle.gain_map.specs.VolumeUpdate.{fall}
use Rattle.gain_map.proofs.Differences.{Apart, none, one_down, small_sum, fallen_by}
use Rattle.gain_map.proofs.fall_from.Goals as goal
use Rattle.gain_map.proofs.fall_from.Goals.{After-difference_above-fallen}

pub loop-volume-init : goal.loop-volume-init
loop-volume-init c = (starts (omega arith), none c.args.base)

pub overflow_sub-volume : goal.overflow_sub-volume
overflow_sub-volume c = omega arith

-- the sum with the next difference is that of the next volume
next-fallen : (c : After-difference_above-fallen)
    → Apart (c.loop-volume.volume - 1) c.args.base (c.loop-volume.fallen + c.difference_above-fallen.result)
next-fallen c = one_down c.loop-volume.invariant.1 (omega arith) (omega arith) c.difference_above-fallen.ensures

pub overflow_add-fallen : goal.overflow_add-fallen
overflow_add-fallen c = record { fits = omega (arith, small_sum (next-fallen c) (omega arith) (omega arith)) }

pub loop-volume-smaller : goal.loop-volume-smaller
loop-volume-smaller c = omega arith

pub loop-volume-preserved : goal.loop-volume-preserved
loop-volume-preserved c =
    (goes_on c.loop-volume.invariant.0 (omega arith) (fallen_by _ c.loop-volume.invariant.1 ∙ lt-leb _ _ c.if-fallen-wanted.false) (omega arith), next-fallen c)

pub returns-then-volume-min : goal.returns-then-volume-min
unfolding fall
returns-then-volume-min c = stops_at_end c.loop-volume.invariant.0 (omega arith)

pub returns-then-fallen-wanted : goal.returns-then-fallen-wanted
unfolding fall
returns-then-fallen-wanted c =
    stops_here c.loop-volume.invariant.0 (fallen_by _ c.loop-volume.invariant.1 ∙ le-leb _ _ c.if-fallen-wanted.true)
