-- `levels::level::level` meets its contract: each return by the tests that lead there. Assumes nothing.
use mathlib.Core.Path.{◌≡◌, refl, sym, ap, ◌∙◌, subst}
use mathlib.Core.Bool.{Bool, true, false}
use Prim.Native.Nat.{ℕ, ◌+◌, ◌-◌, ◌*◌, ◌^◌, ◌≤◌, ◌<◌}
use native.Mathlib.Omega.{arith}
use lib.Dec.{T, lit≤}
use lib.IntN.{pos}
use mir.Syntax.{w32}
use mir.Facts.{to_z_pos}
use lib.Ieee.{binary32, fits}
use Rattle.levels.specs.declared.decibels.Decibels.{Decibels}
use Rattle.levels.specs.declared.decibels.Decibels.TheVariants.{Finite}
use Rattle.levels.specs.Level.{digits, level_of, level_limit, Leveled}
use Rattle.levels.proofs.Pattern.{Stands, stands}
use Rattle.levels.proofs.Bounds.{binary_le, decimal_le}
use Rattle.levels.proofs.Cases.{at_nan, at_negative, at_small, at_infinity, at_normal, leveled, leveled_infinity, leveled_nan}
use Rattle.levels.proofs.level.level.Goals as goal
use Rattle.levels.proofs.level.level.Goals.{After-from_one, In-Some, Start}

-- what owning an f32 tells: the format holds it
fit : (c : Start) → T (fits binary32 c.args.v)
fit c = subst T (sym c.well_formed.1.0.1) tt

-- v is what its fields stand for, with the sign that a test found
fields : (c : In-Some) (s : Bool) → c.in-Some.field-0.negative ≡ s
    → Stands c.args.v s c.in-Some.field-0.exponent c.in-Some.field-0.fraction
fields c s e =
    subst (λ (b : Bool). Stands c.args.v b c.in-Some.field-0.exponent c.in-Some.field-0.fraction) e
    (stands _ (fit c.before.before) _ _ _ (sym c.take_apart.ensures ∙ c.in-Some.is))

pub returns-in_default : goal.returns-in_default
returns-in_default c =
    leveled_nan _ (at_nan c.args.power c.args.v (sym c.take_apart.ensures ∙ c.in_default.is))

pub returns-then-negative : goal.returns-then-negative
returns-then-negative c = leveled _ 0 (at_negative _ _ _ _ (fields c.before true c.if-negative.true)) (lit≤ tt)

pub returns-then-exponent-lt127 : goal.returns-then-exponent-lt127
returns-then-exponent-lt127 c = leveled _ 0 (at_small _ _ _ _ (fields c.before.before false c.if-negative.false) c.if-exponent-lt127.true) (lit≤ tt)

pub returns-then-exponent-eq255 : goal.returns-then-exponent-eq255
returns-then-exponent-eq255 c = leveled_infinity _ (at_infinity _ _ _ _ (fields c.before.before.before false c.if-negative.false) c.if-exponent-eq255.true)

below : (x : ℕ) → x < 256 → (x ≡ 255 → ⊥) → x < 255
below x h n = omega (arith, n)

pub from_one-requires : goal.from_one-requires
from_one-requires c =
    let f = fields c.before.before.before false c.if-negative.false in
    (c.requires, c.if-exponent-lt127.false, below _ f.e_lt c.if-exponent-eq255.false, f.t_lt)

limited : (c : After-from_one) → c.from_one.result ≤ level_limit
limited c =
    let x = from_one-requires c.before in
    let l = digits 13 ((c.in-Some.field-0.fraction + 2 ^ 23) * 2 ^ 8) in
    subst (λ (z : ℕ). z ≤ level_limit) (sym c.from_one.ensures)
    (decimal_le c.args.power ((c.in-Some.field-0.exponent - 127) * 2 ^ 13 + l) (binary_le c.args.power c.in-Some.field-0.exponent c.in-Some.field-0.fraction l x.0 x.2 x.3 refl).1)

pub overflow_cast-result : goal.overflow_cast-result
overflow_cast-result c = record { sfits = omega (arith, limited c) }

pub returns : goal.returns
returns c =
    let x = from_one-requires c.before in
    subst (λ (d : Decibels). Leveled (level_of c.args.power c.args.v) d) (ap Finite (sym (to_z_pos w32 (omega (arith, limited c)))))
    (leveled _ c.from_one.result (ap (λ (z : ℕ). Finite (pos z)) c.from_one.ensures ∙ at_normal _ _ _ _ (fields c.before.before.before.before false c.if-negative.false) x.1 x.2) (limited c))
