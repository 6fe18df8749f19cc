-- What `first` finds: nothing before it passes the test, and it passes itself or is the end; and no other number is so. Assumes nothing.
use mathlib.Core.Path.{◌≡◌, refl, sym, ◌∙◌}
use mathlib.Core.Bool.{Bool, true, false}
use Prim.Native.Nat.{ℕ, zero, suc, ◌≤◌, ◌<◌}
use native.Mathlib.Nat.{not-suc-le-zero}
use native.Mathlib.Omega.{arith}
use native.Mathlib.Decide.{dec_lt}
use Rattle.numbers.specs.First.{searched, first}
use Rattle.numbers.proofs.Signs.{clash}

-- k is the first number below n that passes p, or n
pub record First (p : ℕ → Bool) (n k : ℕ) : Type 0 where
  pub within : k ≤ n
  pub before : (j : ℕ) → j < k → p j ≡ false
  pub here : k < n → p k ≡ true

sooner : {p : ℕ → Bool} {n k m : ℕ} → First p n k → First p n m → k < m → ⊥
sooner {p} {n} {k} {m} f g h = clash (sym (f.here (omega (arith, g.within))) ∙ g.before k h)

-- there is only one
pub first_one : {p : ℕ → Bool} {n k m : ℕ} → First p n k → First p n m → k ≡ m
first_one {p} {n} {k} {m} f g =
    elim (dec_lt k m) [ yes h ↦ absurd (sooner f g h) | no h ↦ elim (dec_lt m k) [ yes l ↦ absurd (sooner g f l) | no l ↦ omega arith ] ]

search_is : (p : ℕ → Bool) (n : ℕ) (b : Bool) → p 0 ≡ b → First p n (searched p n b)
unfolding searched
search_is p zero b e = record { within = omega arith; before = λ j h. absurd (not-suc-le-zero h); here = λ h. absurd (not-suc-le-zero h) }
search_is p (suc n) true e = record { within = omega arith; before = λ j h. absurd (not-suc-le-zero h); here = λ h. e }
search_is p (suc n) false e =
    let r = search_is (λ k. p (suc k)) n (p 1) refl in
    record { within = omega (arith, r.within); before = passed r.before; here = λ h. r.here (omega arith) }
  where
    passed : {k : ℕ} → ((j : ℕ) → j < k → p (suc j) ≡ false) → (j : ℕ) → j < suc k → p j ≡ false
    passed f zero h = e
    passed f (suc j) h = f j (omega arith)

pub first_is : (p : ℕ → Bool) (n : ℕ) → First p n (first p n)
unfolding first
first_is p n = search_is p n (p 0) refl

-- so what a loop finds is it
pub found : {p : ℕ → Bool} {n k : ℕ} → First p n k → k ≡ first p n
found {p} {n} f = first_one f (first_is p n)
