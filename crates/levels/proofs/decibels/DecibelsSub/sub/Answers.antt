-- A difference meets its contract, line by line of its table. Assumes nothing.
use Rattle.std.proofs.Common.{◌≡◌, ◌-ℤ◌, sym, ap, ◌∙◌, rules}
use mathlib.Core.Path.{ap₂}
use Rattle.levels.specs.declared.decibels.Decibels.{Decibels}
use Rattle.levels.specs.declared.decibels.Decibels.TheVariants.{Finite}
use Rattle.numbers.proofs.Signs.{again}
use Rattle.levels.specs.Decibels.{plus, negated, held, held32}
use Rattle.levels.proofs.Sums.{subtracted, no_difference_above, no_difference_below}
use Rattle.levels.proofs.decibels.DecibelsSub.sub.Goals as goal

pub returns-in-Finite-Finite : goal.returns-in-Finite-Finite
unfolding plus held held32
returns-in-Finite-Finite c =
    let whole : c.saturating_sub.result ≡ held32 (c.in-Finite-Finite.x -ℤ c.in-Finite-Finite.y) = search rules in
    subtracted _ _ _ (ap Finite (again c.saturating_sub.result c.saturating_sub.type_inv ∙ whole) ∙ sym (ap₂ (λ (a b : Decibels). held (plus a (negated b))) c.in-Finite-Finite.is-0 c.in-Finite-Finite.is-1))

pub returns-in-PlusInfinity-Finite : goal.returns-in-PlusInfinity-Finite
unfolding plus held
returns-in-PlusInfinity-Finite c = subtracted _ _ _ (sym (ap₂ (λ (a b : Decibels). held (plus a (negated b))) c.in-PlusInfinity-Finite.is-0 c.in-PlusInfinity-Finite.is-1))

pub returns-in-PlusInfinity-Finite-2 : goal.returns-in-PlusInfinity-Finite-2
unfolding plus held
returns-in-PlusInfinity-Finite-2 c = subtracted _ _ _ (search rules)

pub returns-in-MinusInfinity-Finite : goal.returns-in-MinusInfinity-Finite
unfolding plus held
returns-in-MinusInfinity-Finite c = subtracted _ _ _ (sym (ap₂ (λ (a b : Decibels). held (plus a (negated b))) c.in-MinusInfinity-Finite.is-0 c.in-MinusInfinity-Finite.is-1))

pub returns-in-MinusInfinity-Finite-2 : goal.returns-in-MinusInfinity-Finite-2
unfolding plus held
returns-in-MinusInfinity-Finite-2 c = subtracted _ _ _ (search rules)

pub returns-in_default : goal.returns-in_default
unfolding plus held
returns-in_default c = subtracted _ _ _ (sym (ap₂ (λ (a b : Decibels). held (plus a (negated b))) c.in_default.is-0 c.in_default.is-1))

pub returns-in_default-2 : goal.returns-in_default-2
returns-in_default-2 c = subtracted _ _ _ (search (rules, no_difference_above))

pub returns-in_default-3 : goal.returns-in_default-3
returns-in_default-3 c = subtracted _ _ _ (search (rules, no_difference_below))

pub returns-in_default-4 : goal.returns-in_default-4
unfolding plus held
returns-in_default-4 c = subtracted _ _ _ (sym (ap (λ (a : Decibels). held (plus a (negated c.args.b))) c.in_default.is-0))
