-- `levels::level::logarithm` meets its contract: what is found so far, and what is still to be found, are the digits of the start. Assumes nothing.
use mathlib.Core.Path.{◌≡◌}
use Prim.Native.Nat.{◌+◌, ◌-◌, ◌*◌, ◌^◌, ◌≤◌, ◌<◌}
use Rattle.levels.specs.Level.{digits}
use Rattle.levels.proofs.level.logarithm.Given as goal

abbrev pub invariant-loop : goal.invariant-loop
invariant-loop l =
    (l.counter ≤ 13) × (2 ^ 31 ≤ l.x) × (l.x < 2 ^ 32) × (l.found * 2 ^ (13 - l.counter) + digits (13 - l.counter) l.x ≡ digits 13 l.start)

abbrev pub decreases-loop : goal.decreases-loop
decreases-loop l = 13 - l.counter
