-- `partial_cmp` of levels meets its contract: two finite ones stand as their numbers do. Assumes nothing.
use Rattle.std.proofs.Common.{◌≡◌, sym, ap, ◌∙◌, rules}
use mathlib.Core.Path.{ap₂}
use Rattle.std.specs.Prelude.{Some}
use Rattle.std.specs.Ordering.{int_cmp}
use Rattle.levels.specs.Decibels.{compared}
use Rattle.levels.specs.Order.{finite_by}
use Rattle.levels.proofs.decibels.DecibelsPartialOrd.partial_cmp.Goals as goal

pub returns-in-Finite-Finite : goal.returns-in-Finite-Finite
returns-in-Finite-Finite c =
    let as_numbers : c.cmp.result ≡ int_cmp c.in-Finite-Finite.x c.in-Finite-Finite.y = search rules in
    ap Some as_numbers ∙ sym (finite_by c.in-Finite-Finite.x c.in-Finite-Finite.y) ∙ sym (ap₂ compared c.in-Finite-Finite.is-0 c.in-Finite-Finite.is-1)
