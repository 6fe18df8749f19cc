-- What digits count: one, two and four of them. Assumes nothing.
use mathlib.Core.Path.{◌≡◌, refl, sym, ap, ◌∙◌}
use mathlib.Core.Bool.{Bool, true, false, ◌||◌}
use mathlib.Core.List.{List, [], ◌∷◌}
use Prim.Native.Nat.{ℕ, ◌+◌, ◌*◌, ◌/◌, ◌%◌, ◌<◌}
use native.Mathlib.Omega.{arith}
use lib.Dec.{leb}
use borrow.Author.Tests.{leb-true}
use Rattle.frame_lines.specs.Digits.{is_decimal, is_letter, is_digit, digit_if, digit, are_digits, number_after, number}
use Rattle.frame_lines.specs.Samples.{four}
use Rattle.frame_lines.proofs.Tests.{both}

-- ---- one

-- the character c counts n: its lowest four bits, and 9 more for a letter
pub record Counts (c n : ℕ) : Type 0 where
  pub byte : c < 128
  pub is : n ≡ c % 16 + c / 64 * 9
  pub small : n < 16

counts_if : (c : ℕ) (t u : Bool) → is_decimal c ≡ t → is_letter c ≡ u → (t || u) ≡ true → Counts c (digit_if t c)
counts_if c true u p q e = let b = both (leb 48 c) (leb c 57) p in omega (arith, leb-true 48 c b.first, leb-true c 57 b.second)
counts_if c false u p q e = let b = both (leb 97 c) (leb c 102) (q ∙ e) in omega (arith, leb-true 97 c b.first, leb-true c 102 b.second)

pub counts : (c : ℕ) → is_digit c ≡ true → Counts c (digit c)
unfolding is_digit digit
counts c e = counts_if c (is_decimal c) (is_letter c) refl refl e

-- ---- two

module _ {a b : ℕ} {t : List ℕ} (is : t ≡ a ∷ b ∷ []) (e : are_digits t ≡ true) where
  pub two_digits : (is_digit a ≡ true) × (is_digit b ≡ true)
  unfolding are_digits
  two_digits = let p = both (is_digit a) _ (ap are_digits (sym is) ∙ e) in (p.first, (both (is_digit b) _ p.second).first)

  pub number_two : number t ≡ digit a * 16 + digit b
  unfolding number_after
  number_two = ap number is ∙ omega arith

  pub two_below : number t < 256
  two_below = let d = two_digits in omega (arith, number_two, (counts a d.0).small, (counts b d.1).small)

-- ---- four

module _ {a b c d : ℕ} {t : List ℕ} (is : t ≡ four a b c d) (e : are_digits t ≡ true) where
  pub number_four : number t ≡ digit a * 4096 + digit b * 256 + digit c * 16 + digit d
  unfolding number_after
  number_four = ap number is ∙ omega arith

  pub four_counts : (Counts a (digit a) × Counts b (digit b)) × (Counts c (digit c) × Counts d (digit d))
  unfolding are_digits
  four_counts =
      let p = both (is_digit a) _ (ap are_digits (sym is) ∙ e) in
      let q = both (is_digit b) _ p.second in
      let r = both (is_digit c) _ q.second in
      let s = both (is_digit d) _ r.second in
      ((counts a p.first, counts b q.first), (counts c r.first, counts d s.first))

  pub four_below : number t < 65536
  four_below = omega (arith, number_four, four_counts)
