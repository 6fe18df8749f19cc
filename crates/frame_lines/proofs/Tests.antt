-- Tests that are joined: what a Bool of two says of each. Assumes nothing.
use mathlib.Core.Path.{◌≡◌, refl, sym}
use mathlib.Core.Bool.{Bool, true, false, ◌&&◌}
use Rattle.numbers.proofs.Signs.{clash}

pub record Both (a b : Bool) : Type 0 where
  pub first : a ≡ true
  pub second : b ≡ true

pub both : (a b : Bool) → (a && b) ≡ true → Both a b
both true b e = record { first = refl; second = e }
both false b e = clash (sym e)

pub and_false : (a : Bool) → (a && false) ≡ false
and_false true = refl
and_false false = refl

pub false_unless : (t : Bool) → (t ≡ true → ⊥) → t ≡ false
false_unless true h = absurd (h refl)
false_unless false h = refl

pub true_unless : (t : Bool) → (t ≡ false → ⊥) → t ≡ true
true_unless true h = refl
true_unless false h = absurd (h refl)
