-- `levels::level::from_one` meets its contract: nothing is lost in the shift, and the sums and products fit. Assumes nothing.
use mathlib.Core.Path.{◌≡◌, sym, ap, subst, ◌∙◌}
use Prim.Native.Nat.{ℕ, ◌+◌, ◌-◌, ◌*◌, ◌%◌, ◌^◌, ◌≤◌, ◌<◌}
use native.Mathlib.Omega.{arith}
use Rattle.levels.specs.Level.{digits, decimal}
use Rattle.levels.proofs.Bounds.{binary_le}
use Rattle.levels.proofs.level.from_one.Goals as goal
use Rattle.levels.proofs.level.from_one.Goals.{After-logarithm}

start_is : (t : ℕ) → t < 2 ^ 23 → (t + 2 ^ 23) * 2 ^ 8 % 2 ^ 64 ≡ (t + 2 ^ 23) * 2 ^ 8
start_is t h = omega arith

digits_of : (c : After-logarithm) → c.logarithm.result ≡ digits 13 ((c.args.fraction + 2 ^ 23) * 2 ^ 8)
digits_of c =
    c.logarithm.ensures ∙ ap (λ (n : ℕ). digits 13 (n * 2 ^ 8 % 2 ^ 64)) c.from-start.ensures ∙ ap (digits 13) (start_is c.args.fraction c.requires.3)

fact : (c : After-logarithm) → (c.from-whole.result * 8192 + c.logarithm.result ≤ 2 ^ 20 - 1) × (c.args.power * (c.from-whole.result * 8192 + c.logarithm.result) ≤ 20000 * (2 ^ 20 - 1))
fact c =
    subst (λ (w : ℕ). (w * 8192 + c.logarithm.result ≤ 2 ^ 20 - 1) × (c.args.power * (w * 8192 + c.logarithm.result) ≤ 20000 * (2 ^ 20 - 1))) (sym c.from-whole.ensures)
    (binary_le c.args.power c.args.exponent c.args.fraction c.logarithm.result c.requires.0 c.requires.2 c.requires.3 (digits_of c))

pub overflow_add-binary : goal.overflow_add-binary
overflow_add-binary c = omega (arith, (fact c).0)

pub overflow_mul-result : goal.overflow_mul-result
overflow_mul-result c = omega (arith, (fact c).1)

pub overflow_mul-result-2 : goal.overflow_mul-result-2
overflow_mul-result-2 c = omega (arith, (fact c).1)

pub overflow_add-result : goal.overflow_add-result
overflow_add-result c = omega (arith, (fact c).1)

pub returns : goal.returns
returns c = λ i. decimal c.args.power (c.from-whole.ensures i * 2 ^ 13 + digits_of c i)
