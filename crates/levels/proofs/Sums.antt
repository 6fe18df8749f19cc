-- Sums of levels: what is held to the range of an i32, and that bounded sums are whole. Assumes nothing.
use mathlib.Core.Path.{◌≡◌, refl, sym, ap, subst, ◌∙◌}
use Prim.Native.Nat.{ℕ, ◌+◌, ◌-◌, ◌^◌, ◌<◌, min}
use native.Mathlib.Omega.{arith}
use lib.IntN.{ℤ, pos, negsuc}
use lib.Signed.{mag}
use Rattle.numbers.proofs.Signs.{sum_abs, neg_abs, mag_abs}
use Rattle.levels.specs.declared.decibels.Decibels.{Decibels}
use Rattle.levels.specs.declared.decibels.Decibels.TheVariants.{Finite, PlusInfinity, MinusInfinity, NotANumber}
use Rattle.levels.specs.Decibels.{held32, held, plus, negated, minus, Bounded, Combined}

-- ---- held to the range of an i32, by the tests

pub held_same : (z : ℤ) → mag z < 2 ^ 31 → held32 z ≡ z
unfolding held32
held_same (pos n) h = let e : min n (2 ^ 31 - 1) ≡ n = omega arith in ap pos e
held_same (negsuc n) h = let e : min n (2 ^ 31 - 1) ≡ n = omega arith in ap negsuc e

-- ---- bounded sums

pub sum_bounded : (j k : ℕ) (a b : Decibels) → Bounded j a → Bounded k b → Bounded (j + k) (plus a b)
unfolding Bounded plus
sum_bounded j k (Finite x) (Finite y) p q = omega (arith, sum_abs x y)
sum_bounded j k (Finite x) PlusInfinity p q = tt
sum_bounded j k (Finite x) MinusInfinity p q = tt
sum_bounded j k (Finite x) NotANumber p q = tt
sum_bounded j k PlusInfinity (Finite y) p q = tt
sum_bounded j k PlusInfinity PlusInfinity p q = tt
sum_bounded j k PlusInfinity MinusInfinity p q = tt
sum_bounded j k PlusInfinity NotANumber p q = tt
sum_bounded j k MinusInfinity (Finite y) p q = tt
sum_bounded j k MinusInfinity PlusInfinity p q = tt
sum_bounded j k MinusInfinity MinusInfinity p q = tt
sum_bounded j k MinusInfinity NotANumber p q = tt
sum_bounded j k NotANumber b p q = tt

pub bounded_held : (k : ℕ) (a : Decibels) → Bounded k a → k < 2 ^ 31 → held a ≡ a
unfolding Bounded held
bounded_held k (Finite x) p h = ap Finite (held_same x (omega (arith, mag_abs x)))
bounded_held k PlusInfinity p h = refl
bounded_held k MinusInfinity p h = refl
bounded_held k NotANumber p h = refl

negated_bounded : (k : ℕ) (b : Decibels) → Bounded k b → Bounded k (negated b)
unfolding Bounded
negated_bounded k (Finite x) p = omega (arith, neg_abs x)
negated_bounded k PlusInfinity p = p
negated_bounded k MinusInfinity p = p
negated_bounded k NotANumber p = p

sum_whole : (a b : Decibels) (j k : ℕ) → Bounded j a → Bounded k b → j + k < 2 ^ 31 → held (plus a b) ≡ plus a b
sum_whole a b j k p q h = bounded_held (j + k) (plus a b) (sum_bounded j k a b p q) h

-- what the contracts of a sum and a difference say, from the held value
pub summed : (a b r : Decibels) → r ≡ held (plus a b) → Combined a b (plus a b) r
summed a b r e = record {
  is = e;
  exact = λ j k p q h. e ∙ sum_whole a b j k p q h;
  bounded = λ j k p q h. subst (Bounded (j + k)) (sym (e ∙ sum_whole a b j k p q h)) (sum_bounded j k a b p q);
}

pub subtracted : (a b r : Decibels) → r ≡ held (plus a (negated b)) → Combined a b (minus a b) r
unfolding minus
subtracted a b r e =
    let s = summed a (negated b) r e in
    record {
      is = e;
      exact = λ j k p q h. s.exact j k p (negated_bounded k b q) h;
      bounded = λ j k p q h. s.bounded j k p (negated_bounded k b q) h;
    }

-- ---- what the other lines of the tables leave is not a number

pub no_sum_above : (b : Decibels) → ((x : ℤ) → b ≡ Finite x → ⊥) → (b ≡ PlusInfinity → ⊥) → held (plus PlusInfinity b) ≡ NotANumber
unfolding held plus
no_sum_above (Finite x) n k = absurd (n x refl)
no_sum_above PlusInfinity n k = absurd (k refl)
no_sum_above MinusInfinity n k = refl
no_sum_above NotANumber n k = refl

pub no_sum_below : (b : Decibels) → ((x : ℤ) → b ≡ Finite x → ⊥) → (b ≡ MinusInfinity → ⊥) → held (plus MinusInfinity b) ≡ NotANumber
unfolding held plus
no_sum_below (Finite x) n k = absurd (n x refl)
no_sum_below PlusInfinity n k = refl
no_sum_below MinusInfinity n k = absurd (k refl)
no_sum_below NotANumber n k = refl

pub no_difference_above : (b : Decibels) → ((x : ℤ) → b ≡ Finite x → ⊥) → (b ≡ MinusInfinity → ⊥) → held (plus PlusInfinity (negated b)) ≡ NotANumber
unfolding held plus
no_difference_above (Finite x) n k = absurd (n x refl)
no_difference_above PlusInfinity n k = refl
no_difference_above MinusInfinity n k = absurd (k refl)
no_difference_above NotANumber n k = refl

pub no_difference_below : (b : Decibels) → ((x : ℤ) → b ≡ Finite x → ⊥) → (b ≡ PlusInfinity → ⊥) → held (plus MinusInfinity (negated b)) ≡ NotANumber
unfolding held plus
no_difference_below (Finite x) n k = absurd (n x refl)
no_difference_below PlusInfinity n k = absurd (k refl)
no_difference_below MinusInfinity n k = refl
no_difference_below NotANumber n k = refl
