-- What `digits` is of x: 2 ^ digits ≤ (x / 2 ^ 31) ^ (2 ^ k) ≤ 2 ^ digits * 9 / 4. Assumes nothing.
use mathlib.Core.Path.{◌≡◌, refl, sym, ap, ap₂, ◌∙◌}
use Prim.Native.Nat.{ℕ, zero, suc, ◌+◌, ◌*◌, ◌/◌, ◌^◌, ◌≤◌, ◌<◌}
use native.Mathlib.Nat.{le-mul_of_pos_right, le_trans, le_of_eq, le_of_lt, lt_of_lt_of_le, add-mul, mul-add, mul-one, mul_comm, mul_assoc, mul_left_comm, mul-mul-mul_comm, mul-le-mul, mul-le-mul_left, mul-le-mul_right, mul-lt-mul_of_pos_right, pow-succ', pow-suc, pow-le-pow_left, one-le-pow, zero-lt-suc}
use native.Mathlib.Omega.{arith}
use lib.Pow.{pow-add, pow_pos}
use Rattle.levels.specs.Level.{digits}
use Rattle.numbers.proofs.Powers.{pow_one, pow_mul, mul_pow}

-- One step, from the square z of x: b is the digit, and x' the number that goes on. r is by how much x may be too small.
pub record Step (z b x' : ℕ) : Type 0 where
  pub digit : b < 2
  pub least : 2 ^ 31 ≤ x'
  pub most : x' < 2 ^ 32
  pub under : 2 ^ b * 2 ^ 31 * x' ≤ z
  pub over : (r u : ℕ) → u ≤ 5 * 2 ^ 31 * r → z + u ≤ 2 ^ b * 2 ^ 31 * (x' + (5 * r + 1))

stepped : (z : ℕ) → 2 ^ 62 ≤ z → z < 2 ^ 64 → (b : ℕ) → z / 2 ^ 31 / 2 ^ 32 ≡ b → Step z b (z / 2 ^ 31 / 2 ^ b)
stepped z lo hi zero e = record {
  digit = omega arith;
  least = omega arith;
  most = omega arith;
  under = omega arith;
  over = λ r u h. omega arith;
}
stepped z lo hi (suc zero) e = record {
  digit = omega arith;
  least = omega arith;
  most = omega arith;
  under = omega arith;
  over = λ r u h. omega arith;
}
stepped z lo hi (suc (suc b)) e = absurd (omega arith)

pub step : (x : ℕ) → 2 ^ 31 ≤ x → x < 2 ^ 32 → Step (x * x) (x * x / 2 ^ 31 / 2 ^ 32) (x * x / 2 ^ 31 / 2 ^ (x * x / 2 ^ 31 / 2 ^ 32))
step x lo hi = stepped (x * x) (mul-le-mul lo lo) (lt_of_lt_of_le (mul-lt-mul_of_pos_right hi (le_trans (zero-lt-suc 2147483647) lo)) (mul-le-mul_left (2 ^ 32) (le_of_lt hi))) (x * x / 2 ^ 31 / 2 ^ 32) refl

square : (x : ℕ) → x ^ 2 ≡ x * x
square x = pow-suc x 1 ∙ ap (λ (z : ℕ). z * x) (pow_one x)

-- x ^ (2 ^ (k + 1)) is the square of x, to 2 ^ k
halved : (x k : ℕ) → x ^ (2 ^ suc k) ≡ (x * x) ^ (2 ^ k)
halved x k = ap (λ (z : ℕ). x ^ z) (pow-succ' 2 k) ∙ pow_mul x 2 (2 ^ k) ∙ ap (λ (z : ℕ). z ^ (2 ^ k)) (square x)

pub digits_lt : (k x : ℕ) → 2 ^ 31 ≤ x → x < 2 ^ 32 → digits k x < 2 ^ k
unfolding digits
digits_lt zero x lo hi = zero-lt-suc 0
digits_lt (suc k) x lo hi =
    let s = step x lo hi in
    let b = x * x / 2 ^ 31 / 2 ^ 32 in
    go b s.digit (2 ^ k) (digits k (x * x / 2 ^ 31 / 2 ^ b)) (2 ^ suc k) (pow-succ' 2 k) (digits_lt k (x * x / 2 ^ 31 / 2 ^ b) s.least s.most)
  where
    go : (b : ℕ) → b < 2 → (n d m : ℕ) → m ≡ 2 * n → d < n → b * n + d < m
    go zero h n d m e l = omega arith
    go (suc zero) h n d m e l = omega arith
    go (suc (suc b)) h n d m e l = absurd (omega arith)

-- the power of 2 that a step's digit and the rest make, times 2 ^ 31 to 2 ^ (k + 1)
module _ (b d k : ℕ) where
  parts : 2 ^ (b * 2 ^ k + d) * (2 ^ 31) ^ (2 ^ suc k) ≡ (2 ^ b * 2 ^ 31) ^ (2 ^ k) * (2 ^ d * (2 ^ 31) ^ (2 ^ k))
  parts =
      let n = 2 ^ k in
      let c = (2 ^ 31) ^ n in
      ap₂ (λ (x y : ℕ). x * y) (pow-add 2 (b * n) d ∙ ap (λ (x : ℕ). x * 2 ^ d) (pow_mul 2 b n)) (halved (2 ^ 31) k ∙ mul_pow (2 ^ 31) (2 ^ 31) n)
      ∙ mul-mul-mul_comm ((2 ^ b) ^ n) (2 ^ d) c c
      ∙ ap (λ (x : ℕ). x * (2 ^ d * c)) (sym (mul_pow (2 ^ b) (2 ^ 31) n))

pub digits_below : (k x : ℕ) → 2 ^ 31 ≤ x → x < 2 ^ 32 → 2 ^ digits k x * (2 ^ 31) ^ (2 ^ k) ≤ x ^ (2 ^ k)
unfolding digits
digits_below zero x lo hi = le_trans lo (le_of_eq (sym (pow_one x)))
digits_below (suc k) x lo hi =
    let s = step x lo hi in
    let b = x * x / 2 ^ 31 / 2 ^ 32 in
    let x' = x * x / 2 ^ 31 / 2 ^ b in
    let n = 2 ^ k in
    le_trans (le_of_eq (parts b (digits k x') k))
    (le_trans (mul-le-mul_left ((2 ^ b * 2 ^ 31) ^ n) (digits_below k x' s.least s.most))
    (le_trans (le_of_eq (sym (mul_pow (2 ^ b * 2 ^ 31) x' n)))
    (le_trans (pow-le-pow_left s.under n)
    (le_of_eq (sym (halved x k))))))

-- what the error adds to a square
module _ (x r : ℕ) (hi : x < 2 ^ 32) (small : r ≤ 2 ^ 31) where
  opened : (x + r) * (x + r) ≡ x * x + (x * r + (r * x + r * r))
  opened = mul-add (x + r) x r ∙ ap₂ (λ (a b : ℕ). a + b) (add-mul x r x) (add-mul x r r) ∙ sums (x * x) (r * x) (x * r) (r * r)
    where
      sums : (a b c d : ℕ) → (a + b) + (c + d) ≡ a + (c + (b + d))
      sums a b c d = omega arith

  cross : x * r + (r * x + r * r) ≤ 5 * 2 ^ 31 * r
  cross = go (x * r) (r * x) (r * r) (mul_comm r x) (mul-le-mul_right r (le_of_lt hi)) (mul-le-mul_right r small)
    where
      go : (a b c : ℕ) → b ≡ a → a ≤ 2 ^ 32 * r → c ≤ 2 ^ 31 * r → a + (b + c) ≤ 5 * 2 ^ 31 * r
      go a b c e f g = omega arith

scaled : (r k : ℕ) → (4 * r + 1) * 5 ^ suc k ≤ 2 ^ 31 → (4 * (5 * r + 1) + 1) * 5 ^ k ≤ 2 ^ 31
scaled r k h = le_trans (le_of_eq (ap (λ (z : ℕ). z * 5 ^ k) (five r) ∙ mul_assoc (4 * r + 1) 5 (5 ^ k) ∙ ap (λ (z : ℕ). (4 * r + 1) * z) (sym (pow-succ' 5 k)))) h
  where
    five : (r : ℕ) → 4 * (5 * r + 1) + 1 ≡ (4 * r + 1) * 5
    five r = omega arith

bounded : (r k : ℕ) → (4 * r + 1) * 5 ^ k ≤ 2 ^ 31 → 4 * r + 1 ≤ 2 ^ 31
bounded r k h = le_trans (le_of_eq (sym (mul-one (4 * r + 1)))) (le_trans (mul-le-mul_left (4 * r + 1) (one-le-pow k 5 (zero-lt-suc 4))) h)

quarter : (r : ℕ) → 4 * r + 1 ≤ 2 ^ 31 → r ≤ 2 ^ 31
quarter r h = omega arith

pub digits_above : (k x r : ℕ) → 2 ^ 31 ≤ x → x < 2 ^ 32 → (4 * r + 1) * 5 ^ k ≤ 2 ^ 31 → (x + r) ^ (2 ^ k) * 4 ≤ 2 ^ digits k x * (2 ^ 31) ^ (2 ^ k) * 9
unfolding digits
digits_above zero x r lo hi e = le_trans (le_of_eq (ap (λ (z : ℕ). z * 4) (pow_one (x + r)))) (go (bounded r 0 e))
  where
    go : 4 * r + 1 ≤ 2 ^ 31 → (x + r) * 4 ≤ 2 ^ 31 * 9
    go h = omega arith
digits_above (suc k) x r lo hi e =
    let s = step x lo hi in
    let b = x * x / 2 ^ 31 / 2 ^ 32 in
    let x' = x * x / 2 ^ 31 / 2 ^ b in
    let n = 2 ^ k in
    let r' = 5 * r + 1 in
    let small = quarter r (bounded r (suc k) e) in
    let grown : (x + r) * (x + r) ≤ 2 ^ b * 2 ^ 31 * (x' + r') = le_trans (le_of_eq (opened x r hi small)) (s.over r (x * r + (r * x + r * r)) (cross x r hi small)) in
    le_trans (mul-le-mul_right 4 (le_trans (le_of_eq (halved (x + r) k)) (le_trans (pow-le-pow_left grown n) (le_of_eq (mul_pow (2 ^ b * 2 ^ 31) (x' + r') n)))))
    (le_trans (le_of_eq (mul_assoc ((2 ^ b * 2 ^ 31) ^ n) ((x' + r') ^ n) 4))
    (le_trans (mul-le-mul_left ((2 ^ b * 2 ^ 31) ^ n) (digits_above k x' r' s.least s.most (scaled r k e)))
    (le_of_eq (sym (mul_assoc ((2 ^ b * 2 ^ 31) ^ n) (2 ^ digits k x' * (2 ^ 31) ^ n) 9) ∙ ap (λ (z : ℕ). z * 9) (sym (parts b (digits k x') k))))))

-- ---- what the loop of `logarithm` does in a turn

module _ (a x : ℕ) (lo : 2 ^ 31 ≤ x) (hi : x < 2 ^ 32) where
  pub turn : (k : ℕ) → a * 2 ^ suc k + digits (suc k) x ≡ (2 * a + x * x / 2 ^ 31 / 2 ^ 32) * 2 ^ k + digits k (x * x / 2 ^ 31 / 2 ^ (x * x / 2 ^ 31 / 2 ^ 32))
  unfolding digits
  turn k =
      let b = x * x / 2 ^ 31 / 2 ^ 32 in
      let n = 2 ^ k in
      go (a * 2 ^ suc k) (a * n) (b * n) ((2 * a + b) * n) (digits k (x * x / 2 ^ 31 / 2 ^ b))
      (ap (λ (z : ℕ). a * z) (pow-succ' 2 k) ∙ mul_left_comm a 2 n)
      (add-mul (2 * a) b n ∙ ap (λ (z : ℕ). z + b * n) (mul_assoc 2 a n))
    where
      go : (u an bn v d : ℕ) → u ≡ 2 * an → v ≡ 2 * an + bn → u + (bn + d) ≡ v + d
      go u an bn v d e f = omega arith

-- what is found so far is no more than what is found in the end
pub found_le : (a k d l : ℕ) → a * 2 ^ k + d ≡ l → a ≤ l
found_le a k d l e = go (a * 2 ^ k) (le-mul_of_pos_right a (pow_pos k)) e
  where
    go : (u : ℕ) → a ≤ u → u + d ≡ l → a ≤ l
    go u h e = omega arith

-- with no digit left to find, what is found is all
pub found_all : (a k x l : ℕ) → k ≡ 0 → a * 2 ^ k + digits k x ≡ l → a ≡ l
unfolding digits
found_all a k x l e h = sym (none a) ∙ sym (ap (λ (z : ℕ). a * 2 ^ z + digits z x) e) ∙ h
  where
    none : (a : ℕ) → a * 1 + 0 ≡ a
    none a = omega arith
