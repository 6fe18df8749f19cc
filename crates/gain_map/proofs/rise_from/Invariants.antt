-- `gain_map::rise_from` meets its contract: each volume that it passes has not risen enough, so it stops at the first that has, or at the end. Assumes nothing.
use Prim.Native.Nat.{◌+◌, ◌-◌}
use lib.IntN.{pos, ◌-ℤ◌}
use lib.Signed.{le_z}
use Rattle.numbers.proofs.Loops.{Walked}
use Rattle.gain_map.specs.GainMap.{gain}
use Rattle.gain_map.proofs.Differences.{Apart}
use Rattle.gain_map.proofs.rise_from.Given as goal

abbrev pub invariant-loop-volume : goal.invariant-loop-volume
invariant-loop-volume l =
    Walked (λ k. l.base + k) (λ u. le_z (pos l.wanted) (gain u -ℤ gain l.base)) (l.max - l.base) l.volume × Apart l.base l.volume l.risen

abbrev pub decreases-loop-volume : goal.decreases-loop-volume
decreases-loop-volume l = l.max - l.volume
