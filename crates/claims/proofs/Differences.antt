-- Signed numbers as differences of two natural ones: sums, the order and the distance of two. Assumes nothing.
use mathlib.Core.Path.{◌≡◌, refl}
use mathlib.Core.Bool.{Bool, true, false, cond}
use mathlib.Core.Logic.{◌⊎◌, inl, inr}
use Prim.Native.Nat.{ℕ, zero, suc, ◌+◌, ◌-◌, ◌≤◌, ◌<◌}
use native.Mathlib.Omega.{arith}
use lib.Dec.{ltb}
use lib.IntN.{ℤ, pos, negsuc, neg_ℤ, nat_abs, sub_ℕ, ◌+ℤ◌, ◌-ℤ◌}
use lib.Signed.{lt_z, le_z}
use borrow.Author.Tests.{ltb-true, ltb-false, lt-ltb, le-ltb, le-leb, lt-leb}

-- z is p - q
unfoldable pub Diff : ℤ → ℕ → ℕ → Type 0
Diff (pos n) p q = n + q ≡ p
Diff (negsuc n) p q = p + suc n ≡ q

pub diff_neg : (z : ℤ) (p q : ℕ) → Diff z p q → Diff (neg_ℤ z) q p
unfolding Diff
diff_neg (pos zero) p q h = omega arith
diff_neg (pos (suc n)) p q h = omega arith
diff_neg (negsuc n) p q h = omega arith

below : (a b p q : ℕ) → a < b → a + q ≡ p + b → Diff (negsuc (b - suc a)) p q
unfolding Diff
below a b p q l h = omega arith

above : (a b p q : ℕ) → b ≤ a → a + q ≡ p + b → Diff (pos (a - b)) p q
unfolding Diff
above a b p q l h = omega arith

diff_sub : (a b p q : ℕ) → a + q ≡ p + b → Diff (sub_ℕ a b) p q
diff_sub a b p q h = go (ltb a b) refl
  where
    go : (t : Bool) → ltb a b ≡ t → Diff (cond t (negsuc (b - suc a)) (pos (a - b))) p q
    go true e = below a b p q (ltb-true a b e) h
    go false e = above a b p q (ltb-false a b e) h

pub diff_sum : (x y : ℤ) (p q r s : ℕ) → Diff x p q → Diff y r s → Diff (x +ℤ y) (p + r) (q + s)
unfolding Diff
diff_sum (pos a) (pos b) p q r s h k = omega arith
diff_sum (pos a) (negsuc b) p q r s h k = diff_sub a (suc b) (p + r) (q + s) (omega arith)
diff_sum (negsuc a) (pos b) p q r s h k = diff_sub b (suc a) (p + r) (q + s) (omega arith)
diff_sum (negsuc a) (negsuc b) p q r s h k = omega arith

-- ---- the distance

size : (z : ℤ) (n p q : ℕ) → Diff z p q → n < nat_abs z → (p + n < q) ⊎ (q + n < p)
unfolding Diff
size (pos a) n p q h l = inr (omega arith)
size (negsuc a) n p q h l = inl (omega arith)

pub distance : (x y : ℤ) (n p q r s : ℕ) → Diff x p q → Diff y r s → n < nat_abs (x -ℤ y) → (p + s + n < q + r) ⊎ (q + r + n < p + s)
distance x y n p q r s h k l = size (x -ℤ y) n (p + s) (q + r) (diff_sum x (neg_ℤ y) p q s r h (diff_neg y r s k)) l

-- ---- the order

pub less_yes : (x y : ℤ) (p q r s : ℕ) → Diff x p q → Diff y r s → p + s < q + r → lt_z x y ≡ true
unfolding Diff
less_yes (pos a) (pos b) p q r s h k l = lt-ltb a b (omega arith)
less_yes (pos a) (negsuc b) p q r s h k l = absurd (omega arith)
less_yes (negsuc a) (pos b) p q r s h k l = refl
less_yes (negsuc a) (negsuc b) p q r s h k l = lt-ltb b a (omega arith)

pub less_no : (x y : ℤ) (p q r s : ℕ) → Diff x p q → Diff y r s → q + r ≤ p + s → lt_z x y ≡ false
unfolding Diff
less_no (pos a) (pos b) p q r s h k l = le-ltb a b (omega arith)
less_no (pos a) (negsuc b) p q r s h k l = refl
less_no (negsuc a) (pos b) p q r s h k l = absurd (omega arith)
less_no (negsuc a) (negsuc b) p q r s h k l = le-ltb b a (omega arith)

pub most_yes : (x y : ℤ) (p q r s : ℕ) → Diff x p q → Diff y r s → p + s ≤ q + r → le_z x y ≡ true
unfolding Diff
most_yes (pos a) (pos b) p q r s h k l = le-leb a b (omega arith)
most_yes (pos a) (negsuc b) p q r s h k l = absurd (omega arith)
most_yes (negsuc a) (pos b) p q r s h k l = refl
most_yes (negsuc a) (negsuc b) p q r s h k l = le-leb b a (omega arith)

pub most_no : (x y : ℤ) (p q r s : ℕ) → Diff x p q → Diff y r s → q + r < p + s → le_z x y ≡ false
unfolding Diff
most_no (pos a) (pos b) p q r s h k l = lt-leb a b (omega arith)
most_no (pos a) (negsuc b) p q r s h k l = refl
most_no (negsuc a) (pos b) p q r s h k l = absurd (omega arith)
most_no (negsuc a) (negsuc b) p q r s h k l = lt-leb b a (omega arith)

-- ---- two ways to write one difference

pub diff_same : (z : ℤ) (p q r s : ℕ) → Diff z p q → Diff z r s → p + s ≡ q + r
unfolding Diff
diff_same (pos n) p q r s h k = omega arith
diff_same (negsuc n) p q r s h k = omega arith
