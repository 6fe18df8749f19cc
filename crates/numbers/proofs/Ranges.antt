-- `within_of` and `at_least_of` by the tests of their number, and what their answers tell. Assumes nothing.
use mathlib.Core.Path.{◌≡◌, refl, ◌∙◌}
use mathlib.Core.Bool.{Bool, true, false, ◌&&◌}
use mathlib.Core.Logic.{◌⊎◌, inl, inr}
use Prim.Native.Nat.{ℕ, ◌≤◌, ◌<◌}
use native.Mathlib.Omega.{arith}
use lib.Dec.{leb}
use lib.IntN.{ℤ, pos, negsuc}
use lib.Signed.{mag}
use borrow.Author.Tests.{le-leb, lt-leb, leb-true, leb-false}
use Rattle.std.specs.Prelude.{None, Some}
use Rattle.numbers.specs.Natural.{number_if, within_of, at_least_of}

-- a natural number lies under the range, over it or inside
module _ (low high n : ℕ) where
  pub under : n < low → None ≡ within_of low high (pos n)
  unfolding within_of
  under h = rw (lt-leb low n h)

  pub over : low ≤ n → high < n → None ≡ within_of low high (pos n)
  unfolding within_of
  over l h = rw (le-leb low n l, lt-leb n high h)

  pub inside : low ≤ n → n ≤ high → Some n ≡ within_of low high (pos n)
  unfolding within_of
  inside l h = rw (le-leb low n l, le-leb n high h)

-- ---- what an answer tells

-- x is the natural number n, which lies from low to high
pub record Inside (low high : ℕ) (x : ℤ) (n : ℕ) : Type 0 where
  pub is : x ≡ pos n
  pub least : low ≤ n
  pub most : n ≤ high

kept : (low high m n : ℕ) (a b : Bool) → leb low m ≡ a → leb m high ≡ b → number_if (a && b) m ≡ Some n → Inside low high (pos m) n
kept low high m n true true p q e =
    let k : m ≡ n = cc in
    record { is = cc; least = omega (arith, leb-true low m p); most = omega (arith, leb-true m high q) }
kept low high m n true false p q e = let z : ◌≡◌ {A = ℕ} 0 1 = cc in absurd (omega arith)
kept low high m n false b p q e = let z : ◌≡◌ {A = ℕ} 0 1 = cc in absurd (omega arith)

pub told : (low high : ℕ) (x : ℤ) (n : ℕ) → within_of low high x ≡ Some n → Inside low high x n
unfolding within_of
told low high (pos m) n e = kept low high m n (leb low m) (leb m high) refl refl e
told low high (negsuc m) n e = let z : ◌≡◌ {A = ℕ} 0 1 = cc in absurd (omega arith)

left : (low high m : ℕ) (a b : Bool) → leb low m ≡ a → leb m high ≡ b → number_if (a && b) m ≡ None → (m < low) ⊎ (high < m)
left low high m true true p q e = let z : ◌≡◌ {A = ℕ} 0 1 = cc in absurd (omega arith)
left low high m true false p q e = inr (leb-false m high q)
left low high m false b p q e = inl (leb-false low m p)

-- a natural number that is outside lies below or above
pub outside : (low high m : ℕ) → within_of low high (pos m) ≡ None → (m < low) ⊎ (high < m)
unfolding within_of
outside low high m e = left low high m (leb low m) (leb m high) refl refl e

-- ---- a number with a low end alone

and_true : (a : Bool) → a && true ≡ a
and_true true = refl
and_true false = refl

-- a high end that it does not pass changes nothing
pub at_least_is : (low high : ℕ) (x : ℤ) → mag x ≤ high → within_of low high x ≡ at_least_of low x
unfolding within_of at_least_of
at_least_is low high (pos n) h = rw (le-leb n high h, and_true (leb low n))
at_least_is low high (negsuc n) h = refl

pub told_least : (low : ℕ) (x : ℤ) (n : ℕ) → at_least_of low x ≡ Some n → Inside low (mag x) x n
told_least low x n e = told low (mag x) x n (at_least_is low (mag x) x (omega arith) ∙ e)
