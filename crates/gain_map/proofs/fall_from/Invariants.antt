-- `gain_map::fall_from` meets its contract: each volume that it passes has not fallen enough, so it stops at the first that has, or at the end. Assumes nothing.
use Prim.Native.Nat.{◌-◌}
use lib.IntN.{pos, neg_ℤ, ◌-ℤ◌}
use lib.Signed.{le_z}
use Rattle.numbers.proofs.Loops.{Walked}
use Rattle.gain_map.specs.GainMap.{gain}
use Rattle.gain_map.proofs.Differences.{Apart}
use Rattle.gain_map.proofs.fall_from.Given as goal

abbrev pub invariant-loop-volume : goal.invariant-loop-volume
invariant-loop-volume l =
    Walked (λ k. l.base - k) (λ u. le_z (gain u -ℤ gain l.base) (neg_ℤ (pos l.wanted))) (l.base - l.min) l.volume × Apart l.volume l.base l.fallen

abbrev pub decreases-loop-volume : goal.decreases-loop-volume
decreases-loop-volume l = l.volume
