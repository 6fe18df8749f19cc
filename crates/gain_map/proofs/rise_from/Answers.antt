-- `gain_map::rise_from` meets its contract: each volume that it passes has not risen enough, so it stops at the first that has, or at the end. Assumes nothing.
use mathlib.Core.Path.{◌∙◌}
use Prim.Native.Nat.{◌+◌}
use native.Mathlib.Omega.{arith}
use borrow.Author.Tests.{le-leb, lt-leb}
use Rattle.numbers.proofs.Loops.{starts, goes_on, stops_at_end, stops_here}
use Rattle.gain_map.specs.VolumeUpdate.{rise}
use Rattle.gain_map.proofs.Differences.{Apart, none, one_up, small_sum, risen_by}
use Rattle.gain_map.proofs.rise_from.Goals as goal
use Rattle.gain_map.proofs.rise_from.Goals.{After-difference_above-risen}

pub loop-volume-init : goal.loop-volume-init
loop-volume-init c = (starts (omega arith), none c.args.base)

-- the sum with the next difference is that of the next volume
next-risen : (c : After-difference_above-risen)
    → Apart c.args.base (c.loop-volume.volume + 1) (c.loop-volume.risen + c.difference_above-risen.result)
next-risen c = one_up c.loop-volume.invariant.1 (omega arith) c.difference_above-risen.ensures

pub overflow_add-risen : goal.overflow_add-risen
overflow_add-risen c = record { fits = omega (arith, small_sum (next-risen c) (omega arith) (omega arith)) }

pub overflow_add-volume : goal.overflow_add-volume
overflow_add-volume c = omega arith

pub loop-volume-smaller : goal.loop-volume-smaller
loop-volume-smaller c = omega arith

pub loop-volume-preserved : goal.loop-volume-preserved
loop-volume-preserved c =
    (goes_on c.loop-volume.invariant.0 (omega arith) (risen_by _ c.loop-volume.invariant.1 ∙ lt-leb _ _ c.if-risen-wanted.false) (omega arith), next-risen c)

pub returns-then-volume-max : goal.returns-then-volume-max
unfolding rise
returns-then-volume-max c = stops_at_end c.loop-volume.invariant.0 (omega arith)

pub returns-then-risen-wanted : goal.returns-then-risen-wanted
unfolding rise
returns-then-risen-wanted c =
    stops_here c.loop-volume.invariant.0 (risen_by _ c.loop-volume.invariant.1 ∙ le-leb _ _ c.if-risen-wanted.true)
