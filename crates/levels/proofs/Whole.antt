-- The magnitude of a float's fields, to the nearest whole number: what the shifts compute in each range of the exponent. Assumes nothing.
use mathlib.Core.Path.{◌≡◌, refl, sym, ap, ◌∙◌}
use Prim.Native.Nat.{ℕ, zero, suc, ◌+◌, ◌-◌, ◌*◌, ◌/◌, ◌%◌, ◌^◌, ◌≤◌, ◌<◌, min}
use native.Mathlib.Nat.{mul_assoc, add-mul, mul_comm, mul-le-mul, mod-eq_of_lt, one-mul, div-le_self, lt_of_lt_of_le, div-eq_of_lt, le-div_iff_mul-le}
use native.Mathlib.Omega.{arith}
use lib.Arith.{digits_div}
use lib.Pow.{pow-add, pow_pos, pow_mono, shl_lt}
use lib.Ieee.Nearest.{div_same}
use Rattle.levels.specs.Rounding.{half_up, significand, whole_part}

-- the significand of an exponent above 0
sig : (x t : ℕ) → 0 < x → significand x t ≡ t + 2 ^ 23
unfolding significand
sig zero t h = absurd (omega arith)
sig (suc x) t h = omega arith

sig_lt : (x t : ℕ) → t < 2 ^ 23 → significand x t < 2 ^ 24
unfolding significand
sig_lt zero t h = omega arith
sig_lt (suc x) t h = omega arith

-- ---- halves up, over any divisor: `omega` takes no number of more than 38 digits, so 2 ^ 149 is a variable here
pub swap_two : (a b : ℕ) → a * (2 * b) ≡ 2 * (a * b)
swap_two a b = sym (mul_assoc a 2 b) ∙ ap (λ (n : ℕ). n * b) (mul_comm a 2) ∙ mul_assoc 2 a b

module _ (P : ℕ) (P_pos : 0 < P) where
  under : (a Q : ℕ) → a < Q → 2 * Q ≡ P → 0 ≡ min (half_up a P) (2 ^ 31)
  unfolding half_up
  under a Q h e = let z : (2 * a + P) / (2 * P) ≡ 0 = div-eq_of_lt (omega arith) in omega arith

  exact : (n : ℕ) → half_up (n * P) P ≡ n
  unfolding half_up
  exact n = ap (λ (k : ℕ). k / (2 * P)) (omega (arith, swap_two n P)) ∙ digits_div n {m = 2 * P} {r = P} (omega arith)

  over : (a : ℕ) → 2 ^ 31 * P ≤ a → 2147483648 ≡ min (half_up a P) (2 ^ 31)
  unfolding half_up
  over a h = let z : 2147483648 ≤ (2 * a + P) / (2 * P) = (le-div_iff_mul-le {k = 2 * P} {x = 2147483648} {y = 2 * a + P} (omega arith)).1 (omega arith) in omega arith

  shift_half : (q A B D : ℕ) → 0 < B → A * B ≡ P → B ≡ D * 2 → (q + D) / B ≡ half_up (q * A) P
  unfolding half_up
  shift_half q A B D B-pos split twice =
      let f1 = add-mul q D (2 * P) in
      let f2 = swap_two q P in
      let f3 = swap_two D P in
      let f4 = add-mul (2 * (q * A)) P B in
      let f5 = mul_assoc 2 (q * A) B in
      let f6 : q * A * B ≡ q * P = mul_assoc q A B ∙ ap (λ (n : ℕ). q * n) split in
      let f7 : P * B ≡ 2 * (D * P) = mul_comm P B ∙ ap (λ (n : ℕ). n * P) twice ∙ mul_assoc D 2 P ∙ swap_two D P in
      div_same (q + D) B (2 * (q * A) + P) (2 * P) B-pos (omega arith) (omega arith)

-- below one half: 0
pub none : (x t : ℕ) → x < 126 → t < 2 ^ 23 → 0 ≡ whole_part x t
unfolding whole_part
none x t hx ht = under (2 ^ 149) (pow_pos 149) (significand x t * 2 ^ (x - 1)) (2 ^ 148) (lt_of_lt_of_le (shl_lt 24 (x - 1) (sig_lt x t ht)) (pow_mono {j = 148} (omega arith))) refl

-- one bit, shifted to where the rounding looks
pub bit : (n : ℕ) → n < 32 → 1 * 2 ^ n % 4294967296 ≡ 2 ^ n
bit n h =
    let p : 2 ^ n ≤ 2 ^ 31 = pow_mono {j = 31} (omega arith) in
    ap (λ (k : ℕ). k % 4294967296) (one-mul (2 ^ n)) ∙ mod-eq_of_lt (omega arith)

pub bit_small : (n : ℕ) → n < 24 → 1 * 2 ^ n % 4294967296 ≤ 2 ^ 23
bit_small n h =
    let p : 2 ^ n ≤ 2 ^ 23 = pow_mono {j = 23} (omega arith) in
    omega (arith, bit n (omega arith))

-- q * 2 ^ k over 2 ^ 149, halves up, where k + (s + 1) = 149
shifted : (q k s : ℕ) → k + (s + 1) ≡ 149 → (q + 2 ^ s) / 2 ^ (s + 1) ≡ half_up (q * 2 ^ k) (2 ^ 149)
shifted q k s e = shift_half (2 ^ 149) (pow_pos 149) q (2 ^ k) (2 ^ (s + 1)) (2 ^ s) (pow_pos (s + 1)) (sym (pow-add 2 k (s + 1)) ∙ ap (λ (n : ℕ). 2 ^ n) e) (pow-add 2 s 1)

within : (r h : ℕ) → r ≡ h → r < 2 ^ 31 → r ≡ min h (2 ^ 31)
within r h e small = omega arith

-- from one half to below 2 ^ 23: the significand is shifted down, with half of what is cut off added
pub cut : (x t : ℕ) → 126 ≤ x → x < 150 → t < 2 ^ 23 → (t + 2 ^ 23 + 1 * 2 ^ (150 - x - 1) % 4294967296) / 2 ^ (150 - x) ≡ whole_part x t
unfolding whole_part
cut x t lo hi ht =
    let s = 150 - x - 1 in
    let q = t + 2 ^ 23 in
    let is : 150 - x ≡ s + 1 = omega arith in
    let e : x - 1 + (s + 1) ≡ 149 = omega arith in
    let left : (q + 1 * 2 ^ s % 4294967296) / 2 ^ (150 - x) ≡ (q + 2 ^ s) / 2 ^ (s + 1) = (λ i. (q + bit s (omega arith) i) / 2 ^ (is i)) in
    let p : 2 ^ s ≤ 2 ^ 23 = pow_mono {j = 23} (omega arith) in
    let small : (q + 2 ^ s) / 2 ^ (s + 1) < 2 ^ 31 = omega (arith, div-le_self (q + 2 ^ s) (2 ^ (s + 1))) in
    left ∙ within _ _ (shifted q (x - 1) s e ∙ ap (λ (n : ℕ). half_up (n * 2 ^ (x - 1)) (2 ^ 149)) (sym (sig x t (omega arith)))) small

scaled : (q x j : ℕ) → x ≡ j + 149 → q * 2 ^ x ≡ q * 2 ^ j * 2 ^ 149
scaled q x j e = ap (λ (n : ℕ). q * 2 ^ n) e ∙ ap (λ (n : ℕ). q * n) (pow-add 2 j 149) ∙ sym (mul_assoc q (2 ^ j) (2 ^ 149))

-- from 2 ^ 23 to below 2 ^ 31: the significand is shifted up
pub lifted : (x t : ℕ) → 150 ≤ x → x < 158 → t < 2 ^ 23 → (t + 2 ^ 23) * 2 ^ (x - 150) % 4294967296 ≡ whole_part x t
unfolding whole_part
lifted x t lo hi ht =
    let q = t + 2 ^ 23 in
    let j = x - 150 in
    let small : q * 2 ^ j < 2 ^ 31 = lt_of_lt_of_le (shl_lt {a = q} 24 j (omega arith)) (pow_mono {j = 31} (omega arith)) in
    let full : q * 2 ^ j % 4294967296 ≡ q * 2 ^ j = mod-eq_of_lt (omega arith) in
    let h : half_up (significand x t * 2 ^ (x - 1)) (2 ^ 149) ≡ q * 2 ^ j =
    ap (λ (n : ℕ). half_up (n * 2 ^ (x - 1)) (2 ^ 149)) (sig x t (omega arith))
    ∙ ap (λ (n : ℕ). half_up n (2 ^ 149)) (scaled q (x - 1) j (omega arith)) ∙ exact (2 ^ 149) (pow_pos 149) (q * 2 ^ j) in
    full ∙ within _ _ (sym h) small

-- from 2 ^ 31 on: held
pub held_31 : (x t : ℕ) → 158 ≤ x → 2147483648 ≡ whole_part x t
unfolding whole_part
held_31 x t lo =
    let e = sig x t (omega arith) in
    over (2 ^ 149) (pow_pos 149) (significand x t * 2 ^ (x - 1)) (mul-le-mul {n₁ = 2 ^ 23} {m₁ = 2 ^ 157} (omega arith) (pow_mono {i = 157} (omega arith)))
