-- `near` by the difference that the machine holds. Assumes nothing.
use mathlib.Core.Path.{◌≡◌, refl, sym, ◌∙◌}
use mathlib.Core.Bool.{Bool, false}
use Prim.Native.Nat.{ℕ, suc, ◌-◌, ◌^◌, ◌≤◌, ◌<◌, min}
use native.Mathlib.Omega.{arith}
use native.Mathlib.Decide.{dec_le}
use lib.Dec.{leb}
use lib.IntN.{ℤ, pos, negsuc, nat_abs, ◌-ℤ◌}
use borrow.Author.Tests.{le-leb, lt-leb}
use Rattle.levels.specs.declared.decibels.Decibels.{Decibels}
use Rattle.levels.specs.declared.decibels.Decibels.TheVariants.{Finite, PlusInfinity, MinusInfinity, NotANumber}
use Rattle.levels.specs.Decibels.{held32, held, plus, minus, near_distance, within, near}

same_leb : (a j b k : ℕ) → (a ≤ j → b ≤ k) → (b ≤ k → a ≤ j) → leb a j ≡ leb b k
same_leb a j b k f g =
    elim (dec_le a j) [ yes h ↦ le-leb a j h ∙ sym (le-leb b k (f h)) | no h ↦ lt-leb a j (omega (arith, h)) ∙ sym (lt-leb b k (over g h)) ]
  where
    over : (b ≤ k → a ≤ j) → (a ≤ j → ⊥) → k < b
    over g h = elim (dec_le b k) [ yes l ↦ absurd (h (g l)) | no l ↦ omega (arith, l) ]

-- holding a difference changes no answer: what is held is far from near
held_near : (z : ℤ) → leb (nat_abs (held32 z)) near_distance ≡ leb (nat_abs z) near_distance
unfolding held32
held_near (pos n) = same_leb (min n (2 ^ 31 - 1)) near_distance n near_distance (λ h. omega arith) (λ h. omega arith)
held_near (negsuc n) = same_leb (suc (min n (2 ^ 31 - 1))) near_distance (suc n) near_distance (λ h. omega arith) (λ h. omega arith)

-- whether a difference is a near one
abbrev pub near_by : Decibels → Bool
near_by (Finite x) = leb (nat_abs x) near_distance
near_by PlusInfinity = false
near_by MinusInfinity = false
near_by NotANumber = false

pub near_is : (a b : Decibels) → near_by (held (minus a b)) ≡ near a b
unfolding held minus plus within
near_is (Finite x) (Finite y) = held_near (x -ℤ y)
near_is (Finite x) PlusInfinity = refl
near_is (Finite x) MinusInfinity = refl
near_is (Finite x) NotANumber = refl
near_is PlusInfinity (Finite y) = refl
near_is PlusInfinity PlusInfinity = refl
near_is PlusInfinity MinusInfinity = refl
near_is PlusInfinity NotANumber = refl
near_is MinusInfinity (Finite y) = refl
near_is MinusInfinity PlusInfinity = refl
near_is MinusInfinity MinusInfinity = refl
near_is MinusInfinity NotANumber = refl
near_is NotANumber b = refl

pub not_finite : (d : Decibels) → ((x : ℤ) → d ≡ Finite x → ⊥) → near_by d ≡ false
not_finite (Finite x) n = absurd (n x refl)
not_finite PlusInfinity n = refl
not_finite MinusInfinity n = refl
not_finite NotANumber n = refl
