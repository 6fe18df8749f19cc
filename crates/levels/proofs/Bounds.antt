-- The bounds of a level: one law over the exponent p, for a fraction n / c that is x / 2 ^ 31 * 2 ^ w. Assumes nothing.
use mathlib.Core.Path.{◌≡◌, refl, sym, ap, ap₂, ◌∙◌, subst}
use Prim.Native.Nat.{ℕ, ◌+◌, ◌-◌, ◌*◌, ◌^◌, ◌≤◌, ◌<◌}
use native.Mathlib.Nat.{le_trans, le_of_eq, one-mul, mul-add, mul_comm, mul_assoc, mul_left_comm, mul_right_comm, mul-le-mul, mul-le-mul_left, mul-le-mul_right, le_of_mul-le-mul_right, pow-le-pow_left, one-le-pow, zero-lt-suc}
use native.Mathlib.Omega.{arith}
use lib.Dec.{lit≤}
use lib.Pow.{pow-add}
use Rattle.levels.specs.Level.{digits, to_decimal, decimal, level_limit}
use Rattle.levels.specs.Within.{Within}
use Rattle.numbers.proofs.Powers.{pow_mul, mul_pow, ten_below, ten_above}
use Rattle.levels.proofs.Digits.{digits_lt, digits_below, digits_above}

module _ (k n c x w : ℕ) (lo : 2 ^ 31 ≤ x) (hi : x < 2 ^ 32) where
  -- what x, c and w make, to 2 ^ k
  raised : (x * (c * 2 ^ w)) ^ (2 ^ k) ≡ x ^ (2 ^ k) * (c ^ (2 ^ k) * 2 ^ (w * 2 ^ k))
  raised = let m = 2 ^ k in mul_pow x (c * 2 ^ w) m ∙ ap (λ (z : ℕ). x ^ m * z) (mul_pow c (2 ^ w) m ∙ ap (λ (z : ℕ). c ^ m * z) (sym (pow_mul 2 w m)))

  split : 2 ^ (w * 2 ^ k + digits k x) ≡ 2 ^ (w * 2 ^ k) * 2 ^ digits k x
  split = pow-add 2 (w * 2 ^ k) (digits k x)

  -- n / c is at least that, and at most that; an f32 is both
  pub log_below : x * (c * 2 ^ w) ≤ n * 2 ^ 31 → 2 ^ (w * 2 ^ k + digits k x) * c ^ (2 ^ k) ≤ n ^ (2 ^ k)
  log_below value =
      let m = 2 ^ k in
      le_of_mul-le-mul_right
      (le_trans (le_of_eq (ap (λ (z : ℕ). z * c ^ m * (2 ^ 31) ^ m) split ∙ ordered (2 ^ (w * m)) (2 ^ digits k x) (c ^ m) ((2 ^ 31) ^ m)))
      (le_trans (mul-le-mul_right (c ^ m * 2 ^ (w * m)) (digits_below k x lo hi)) (le_trans (le_of_eq (sym raised)) (le_trans (pow-le-pow_left value m) (le_of_eq (mul_pow n (2 ^ 31) m))))))
      (one-le-pow m (2 ^ 31) (zero-lt-suc 2147483647))
    where
      ordered : (a d e f : ℕ) → a * d * e * f ≡ d * f * (e * a)
      ordered a d e f = simp (mul_assoc, mul_comm, mul_left_comm)

  log_above : 5 ^ k ≤ 2 ^ 31 → n * 2 ^ 31 ≤ x * (c * 2 ^ w) → n ^ (2 ^ k) * 4 ≤ 2 ^ (w * 2 ^ k + digits k x) * c ^ (2 ^ k) * 9
  log_above room value =
      let m = 2 ^ k in
      le_of_mul-le-mul_right
      (le_trans (le_of_eq (mul_right_comm (n ^ m) 4 ((2 ^ 31) ^ m)))
      (le_trans (mul-le-mul_right 4 (le_trans (le_of_eq (sym (mul_pow n (2 ^ 31) m))) (le_trans (pow-le-pow_left value m) (le_of_eq raised))))
      (le_trans (le_of_eq (mul_right_comm (x ^ m) (c ^ m * 2 ^ (w * m)) 4))
      (le_trans (mul-le-mul_right (c ^ m * 2 ^ (w * m)) exact)
      (le_of_eq (sym (ap (λ (z : ℕ). z * c ^ m * 9 * (2 ^ 31) ^ m) split ∙ ordered (2 ^ (w * m)) (2 ^ digits k x) (c ^ m) ((2 ^ 31) ^ m))))))))
      (one-le-pow m (2 ^ 31) (zero-lt-suc 2147483647))
    where
      nil : (z : ℕ) → z + 0 ≡ z
      nil z = omega arith

      exact : x ^ (2 ^ k) * 4 ≤ 2 ^ digits k x * (2 ^ 31) ^ (2 ^ k) * 9
      exact = subst (λ (z : ℕ). z ^ (2 ^ k) * 4 ≤ 2 ^ digits k x * (2 ^ 31) ^ (2 ^ k) * 9) (nil x) (digits_above k x 0 lo hi (le_trans (le_of_eq (one-mul (5 ^ k))) room))

      ordered : (a d e f : ℕ) → a * d * e * 9 * f ≡ d * f * 9 * (e * a)
      ordered a d e f = simp (mul_assoc, mul_comm, mul_left_comm)

-- 9 / 4 is at most 2 ^ (6 / 5)
fifth : (l m n c : ℕ) → n ^ m * 4 ≤ 2 ^ l * c ^ m * 9 → n ^ (m * 5) ≤ 2 ^ (l * 5 + 6) * c ^ (m * 5)
fifth l m n c h =
    le_of_mul-le-mul_right
    (le_trans (le_of_eq (ap (λ (z : ℕ). z * 4 ^ 5) (pow_mul n m 5) ∙ sym (mul_pow (n ^ m) 4 5)))
    (le_trans (pow-le-pow_left h 5)
    (le_trans (le_of_eq (mul_pow (2 ^ l * c ^ m) 9 5 ∙ ap (λ (z : ℕ). z * 9 ^ 5) (mul_pow (2 ^ l) (c ^ m) 5 ∙ ap₂ (λ (a b : ℕ). a * b) (sym (pow_mul 2 l 5)) (sym (pow_mul c m 5)))))
    (le_trans (mul-le-mul_left (2 ^ (l * 5) * c ^ (m * 5)) (lit≤ {m = 9 ^ 5} {n = 2 ^ 16} tt))
    (le_of_eq (ordered (2 ^ (l * 5)) (c ^ (m * 5)) ∙ ap (λ (z : ℕ). z * c ^ (m * 5) * 4 ^ 5) (sym (pow-add 2 (l * 5) 6))))))))
    (zero-lt-suc 1023)
  where
    ordered : (a b : ℕ) → a * b * 2 ^ 16 ≡ a * 2 ^ 6 * b * 4 ^ 5
    ordered a b = mul_comm (a * b) 65536 ∙ go (a * b) (a * 64 * b) (mul_right_comm a 64 b)
      where
        go : (u v : ℕ) → v ≡ u * 64 → 65536 * u ≡ v * 1024
        go u v e = omega arith

-- the numbers' own part
whole_below : (a d : ℕ) → to_decimal a ≡ d → (d - 1) * (8192 * 2136) ≤ 643 * a
whole_below a d e = omega arith

whole_above : (p a d : ℕ) → p ≤ 20000 → a ≤ 20000 * (2 ^ 20 - 1) → to_decimal a ≡ d → 4004 * (a * 5 + p * 6) ≤ (d + 1) * (8192 * 5 * 13301)
whole_above p a d hp ha e = omega arith

-- the binary logarithm of an f32 lies below 128
short : (w d : ℕ) → w ≤ 127 → d < 2 ^ 13 → w * 2 ^ 13 + d ≤ 2 ^ 20 - 1
short w d hw hd = omega arith

-- The law. p is 20000 for a peak, and 10000 for a mean square.
pub bounds : (p n c x w : ℕ) → p ≤ 20000 → 2 ^ 31 ≤ x → x < 2 ^ 32 → w ≤ 127 → n * 2 ^ 31 ≡ x * (c * 2 ^ w)
    → Within 1 p n c (decimal p (w * 2 ^ 13 + digits 13 x))
bounds p n c x w hp lo hi hw value =
    let l = w * 2 ^ 13 + digits 13 x in
    let d = decimal p l in record {
      above = ten_below p (d - 1) l n c 8192 643 2136 (lit≤ tt) (lit≤ tt) (whole_below (p * l) d refl) (log_below 13 n c x w lo hi (le_of_eq (sym value)));
      below =
          ten_above p (d + 1) (l * 5 + 6) n c (8192 * 5) 4004 13301 (lit≤ tt) (lit≤ tt)
          (le_trans (le_of_eq (ap (λ (z : ℕ). 4004 * z) (mul-add p (l * 5) 6 ∙ ap (λ (z : ℕ). z + p * 6) (sym (mul_assoc p l 5)))))
          (whole_above p (p * l) d hp (mul-le-mul hp (short w (digits 13 x) hw (digits_lt 13 x lo hi))) refl))
          (fifth l 8192 n c (log_above 13 n c x w lo hi (lit≤ tt) (le_of_eq value)));
    }

-- ---- that the numbers of `from_one` fit: the binary logarithm of an f32 from 1 up, and that times p
pub binary_le : (p x t r : ℕ) → p ≤ 20000 → x < 255 → t < 2 ^ 23 → r ≡ digits 13 ((t + 2 ^ 23) * 2 ^ 8) → ((x - 127) * 8192 + r ≤ 2 ^ 20 - 1) × (p * ((x - 127) * 8192 + r) ≤ 20000 * (2 ^ 20 - 1))
binary_le p x t r hp hx ht e =
    let d = digits_lt 13 ((t + 2 ^ 23) * 2 ^ 8) (omega arith) (omega arith) in
    let s : (x - 127) * 8192 + r ≤ 2 ^ 20 - 1 = short (x - 127) r (omega arith) (omega (arith, d, e)) in
    (s, mul-le-mul hp s)

-- no level is above the limit
pub decimal_le : (p l : ℕ) → p * l ≤ 20000 * (2 ^ 20 - 1) → decimal p l ≤ level_limit
decimal_le p l h = omega arith
