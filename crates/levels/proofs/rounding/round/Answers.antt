-- `levels::rounding::round` meets its contract: the float is the one that its fields stand for, and rounds as they say. Assumes nothing.
use mathlib.Core.Path.{sym, ap, subst, ◌∙◌}
use Prim.Native.Nat.{ℕ}
use native.Mathlib.Omega.{arith}
use lib.Arith.{lt_of_le-ne}
use lib.Dec.{T}
use lib.Ieee.{binary32, fits}
use mir.Syntax.{w32}
use mir.ValLaws.{to_z-of_z}
use Rattle.numbers.specs.Sign.{signed}
use Rattle.levels.proofs.Pattern.{Stands, stands}
use Rattle.levels.proofs.Rounded.{at_nan, at_infinite, at_finite}
use Rattle.levels.proofs.rounding.round.Goals as goal
use Rattle.levels.proofs.rounding.round.Goals.{In-Some, Start}

-- what owning an f32 tells: the format holds it
fit : (c : Start) → T (fits binary32 c.args.x)
fit c = subst T (sym c.well_formed.0.1) tt

-- x is what its fields stand for
fields : (c : In-Some) → Stands c.args.x c.in-Some.field-0.negative c.in-Some.field-0.exponent c.in-Some.field-0.fraction
fields c = stands _ (fit c.before.before) _ _ _ (sym c.take_apart.ensures ∙ c.in-Some.is)

pub returns-in_default : goal.returns-in_default
returns-in_default c = sym (at_nan _ (sym c.take_apart.ensures ∙ c.in_default.is))

pub returns-then-exponent-eq255 : goal.returns-then-exponent-eq255
returns-then-exponent-eq255 c =
    to_z-of_z w32 c.with_sign.result (record { sfits = c.with_sign.type_inv }) ∙ c.with_sign.ensures
    ∙ sym (at_infinite _ _ _ _ (fields c.before.before) c.if-exponent-eq255.true)

pub whole_part-requires : goal.whole_part-requires
whole_part-requires c =
    let f = fields c.before in
    omega (arith, lt_of_le-ne {k = 255} (omega arith) c.if-exponent-eq255.false)

pub returns : goal.returns
returns c =
    let f = fields c.before.before.before in
    to_z-of_z w32 c.with_sign-2.result (record { sfits = c.with_sign-2.type_inv }) ∙ c.with_sign-2.ensures
    ∙ ap (λ (n : ℕ). signed c.in-Some.field-0.negative n) c.whole_part.ensures
    ∙ sym (at_finite _ _ _ _ f (omega (arith, lt_of_le-ne {k = 255} (omega arith) c.if-exponent-eq255.false)))
