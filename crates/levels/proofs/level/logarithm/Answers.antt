-- `levels::level::logarithm` meets its contract: what is found so far, and what is still to be found, are the digits of the start. Assumes nothing.
use mathlib.Core.Path.{◌≡◌, sym, ap, ◌∙◌}
use Prim.Native.Nat.{ℕ, suc, ◌+◌, ◌-◌, ◌*◌, ◌/◌, ◌^◌, ◌≤◌, ◌<◌}
use native.Mathlib.Nat.{zero-add, le_of_lt, lt_of_le_of_lt, mul-le-mul_left, mul-lt-mul_of_pos_right}
use lib.Dec.{lit≤}
use native.Mathlib.Omega.{arith}
use Rattle.levels.specs.Level.{digits}
use Rattle.levels.proofs.Digits.{Step, step, turn, digits_lt, found_le, found_all}
use Rattle.levels.proofs.level.logarithm.Goals as goal
use Rattle.levels.proofs.level.logarithm.Goals.{In-loop}

-- in a turn: the step from x, and that what is found is below 2 ^ 13
stepped : (c : In-loop) → Step (c.loop.x * c.loop.x) (c.loop.x * c.loop.x / 2 ^ 31 / 2 ^ 32) (c.loop.x * c.loop.x / 2 ^ 31 / 2 ^ (c.loop.x * c.loop.x / 2 ^ 31 / 2 ^ 32))
stepped c = step c.loop.x c.loop.invariant.1 c.loop.invariant.2

small : (c : In-loop) → c.loop.found < 2 ^ 13
small c =
    lt_of_le_of_lt (found_le c.loop.found (13 - c.loop.counter) (digits (13 - c.loop.counter) c.loop.x) (digits 13 c.args.start) c.loop.invariant.3) (digits_lt 13 c.args.start c.requires.0 c.requires.1)

pub loop-init : goal.loop-init
loop-init c = (lit≤ tt, c.requires.0, c.requires.1, zero-add (digits 13 c.args.start))

pub overflow_mul-y : goal.overflow_mul-y
overflow_mul-y c = record { fits = lt_of_le_of_lt (mul-le-mul_left c.loop.x (le_of_lt c.loop.invariant.2)) (mul-lt-mul_of_pos_right c.loop.invariant.2 (lit≤ {m = 1} {n = 2 ^ 32} tt)) }

pub overflow_shr-x : goal.overflow_shr-x
overflow_shr-x c = let s = stepped c in omega (arith, s.digit)

pub overflow_mul-found : goal.overflow_mul-found
overflow_mul-found c = omega (arith, small c)

pub overflow_add-found : goal.overflow_add-found
overflow_add-found c = omega (arith, small c, (stepped c).digit)

pub overflow_step : goal.overflow_step
overflow_step c = omega arith

pub loop-smaller : goal.loop-smaller
loop-smaller c = omega arith

less : (n : ℕ) → n < 13 → 13 - n ≡ suc (13 - (n + 1))
less n h = omega arith

pub loop-preserved : goal.loop-preserved
loop-preserved c =
    let s = stepped c in
    let k = 13 - (c.loop.counter + 1) in
    let e : 13 - c.loop.counter ≡ suc k = less c.loop.counter (omega arith) in (
      omega arith,
      s.least,
      s.most,
      sym (turn c.loop.found c.loop.x c.loop.invariant.1 c.loop.invariant.2 k) ∙ sym (ap (λ (z : ℕ). c.loop.found * 2 ^ z + digits z c.loop.x) e) ∙ c.loop.invariant.3,
    )

done : (n : ℕ) → 13 ≤ n → 13 - n ≡ 0
done n h = omega arith

pub returns : goal.returns
returns c =
    found_all c.loop.found (13 - c.loop.counter) c.loop.x (digits 13 c.args.start) (done c.loop.counter (omega arith)) c.loop.invariant.3
