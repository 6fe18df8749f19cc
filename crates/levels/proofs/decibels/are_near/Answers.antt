-- `levels::decibels::are_near` meets its contract: only two finite sides have a finite difference. Assumes nothing.
use mathlib.Core.Path.{sym, ap, ◌∙◌}
use lib.Dec.{leb}
use lib.IntN.{ℤ, nat_abs}
use Rattle.levels.specs.Decibels.{near_distance}
use Rattle.numbers.proofs.Signs.{again}
use Rattle.levels.proofs.Nearness.{near_by, near_is, not_finite}
use Rattle.levels.proofs.decibels.are_near.Goals as goal

pub returns-in-Finite : goal.returns-in-Finite
returns-in-Finite c =
    ap (λ (n : _). leb n near_distance) c.unsigned_abs.ensures.value
    ∙ ap (λ (z : ℤ). leb (nat_abs z) near_distance) (again c.in-Finite.x c.in-Finite.known_told-1-own.given.0.1)
    ∙ ap near_by (sym c.in-Finite.is ∙ c.sub.ensures.is) ∙ near_is c.args.a c.args.b

pub returns-in_default : goal.returns-in_default
returns-in_default c = sym (not_finite _ c.in_default.not-Finite) ∙ ap near_by c.sub.ensures.is ∙ near_is c.args.a c.args.b
