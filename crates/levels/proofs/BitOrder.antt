-- The order of the bits with the sign clear is the order of the magnitudes: of the patterns up to infinity's, the larger is the larger float. Assumes nothing.
use mathlib.Core.Path.{◌≡◌, refl, sym, ap, subst, ◌∙◌}
use mathlib.Core.Bool.{Bool, true, false, not, true≢false}
use mathlib.Core.Logic.{inl, inr}
use Prim.Native.Nat.{ℕ, zero, suc, ◌+◌, ◌*◌, ◌/◌, ◌%◌, ◌^◌, ◌≤◌, ◌<◌}
use native.Mathlib.Nat.{le_of_eq, le_of_lt, lt_of_lt_of_le, lt_of_not-le, eq-or-lt_of_le, not-le_of_lt, not-suc-le-zero, le_of_mul-le-mul_right, mul-le-mul, mul-le-mul_right, mul-lt-mul_of_pos_right, mul-one, mod-eq_of_lt, pow-suc}
use native.Mathlib.Omega.{arith}
use native.Mathlib.Decide.{dec_lt}
use borrow.Author.Tests.{lt-ltb, le-ltb, ltb-false}
use lib.Dec.{T, eqb, ltb}
use lib.Bits.{bit_and, and_mask}
use lib.Pow.{pow_mono, pow_pos}
use lib.Ieee.{Float, nan, inf, fin, binary32, up, down, lt, fits, is_nan, nan_bits, to_bits, of_bits, of_fields}
use lib.Ieee.Bits.{is_false, nan_bits_above}
use lib.Ieee.Exact.{HasValue}
use lib.Ieee.Fits.{down_pos}
use lib.Ieee.Order.{transfer}
use Rattle.numbers.proofs.Signs.{clash}
use Rattle.levels.specs.FloatParts.{magnitude_of, magnitude_bits_of}
use Rattle.levels.proofs.Fields.{finite, zeroth}
use Rattle.levels.proofs.Pattern.{own_fields, pattern}
use Rattle.levels.proofs.Unsigned.{made, made_number}

-- the pattern of plus infinity: the patterns of the floats that are not negative end here, and those of the not-a-numbers begin
abbrev pub infinity_bits : ℕ
infinity_bits = 255 * 2 ^ 23

-- ---- the size of a finite float in units of 2 ^ -149, by its exponent's field and its fraction

unfoldable sized : ℕ → ℕ → ℕ
sized zero t = t
sized (suc e) t = (2 ^ 23 + t) * 2 ^ e

same_exponent : (e t u : ℕ) → t < u → sized e t < sized e u
unfolding sized
same_exponent zero t u h = h
same_exponent (suc e) t u h = mul-lt-mul_of_pos_right (above t u h) (pow_pos e)
  where
    above : (t u : ℕ) → t < u → 2 ^ 23 + t < 2 ^ 23 + u
    above t u h = omega arith

-- whatever the fraction, the size lies below that of the next exponent
under : (e t : ℕ) → t < 2 ^ 23 → sized e t < 2 ^ 23 * 2 ^ e
unfolding sized
under zero t h = h
under (suc e) t h = lt_of_lt_of_le (mul-lt-mul_of_pos_right (twice t h) (pow_pos e)) (le_of_eq (doubled (2 ^ e) ∙ ap (λ (z : ℕ). 2 ^ 23 * z) (sym (pow-suc 2 e))))
  where
    twice : (t : ℕ) → t < 2 ^ 23 → 2 ^ 23 + t < 2 ^ 24
    twice t h = omega arith

    doubled : (p : ℕ) → 2 ^ 24 * p ≡ 2 ^ 23 * (p * 2)
    doubled p = omega arith

higher : (e t f u : ℕ) → e < f → t < 2 ^ 23 → sized e t < sized f u
unfolding sized
higher e t zero u h k = absurd (not-suc-le-zero h)
higher e t (suc f) u h k = lt_of_lt_of_le (under e t k) (mul-le-mul {n₁ = 2 ^ 23} {m₁ = 2 ^ e} {n₂ = 2 ^ 23 + u} {m₂ = 2 ^ f} (omega arith) (pow_mono {i = e} {j = f} (omega arith)))

abbrev size_of : ℕ → ℕ
size_of b = sized (b / 2 ^ 23) (b % 2 ^ 23)

rises : (a b : ℕ) → a < b → size_of a < size_of b
rises a b h =
    elim (dec_lt (a / 2 ^ 23) (b / 2 ^ 23)) [
      | yes k ↦ higher (a / 2 ^ 23) (a % 2 ^ 23) (b / 2 ^ 23) (b % 2 ^ 23) k (omega arith)
      | no k ↦ subst (λ (e : ℕ). sized e (a % 2 ^ 23) < size_of b) (omega (arith, h, k)) (same_exponent (b / 2 ^ 23) (a % 2 ^ 23) (b % 2 ^ 23) (omega (arith, h, k)))
    ]

never_falls : (a b : ℕ) → a ≤ b → size_of a ≤ size_of b
never_falls a b h = elim (eq-or-lt_of_le h) [ inl e ↦ le_of_eq (ap size_of e) | inr l ↦ le_of_lt (rises a b l) ]

same_order : (a b : ℕ) → ltb (size_of a) (size_of b) ≡ ltb a b
same_order a b =
    elim (dec_lt a b) [
      | yes h ↦ lt-ltb (size_of a) (size_of b) (rises a b h) ∙ sym (lt-ltb a b h)
      | no h ↦ let k : b ≤ a = omega (arith, h) in le-ltb (size_of a) (size_of b) (never_falls b a k) ∙ sym (le-ltb a b k)
    ]

-- ---- the order of two floats that are not negative, by their sizes

crossed : (x y p q a b c : ℕ) → 0 < c → 0 < p → 0 < q → x * c ≡ a * p → y * c ≡ b * q → ltb (x * q) (y * p) ≡ ltb a b
crossed x y p q a b c C P Q e f =
    elim (dec_lt a b) [
      | yes h ↦
          lt-ltb (x * q) (y * p)
          (lt_of_not-le (λ (k : y * p ≤ x * q). not-le_of_lt h (le_of_mul-le-mul_right (transfer b a c c y x q p Q P (sym f) (sym e) k) C)))
          ∙ sym (lt-ltb a b h)
      | no h ↦
          let k : b ≤ a = omega (arith, h) in
          le-ltb (x * q) (y * p) (transfer y x q p b a c c C C f e (mul-le-mul_right c k)) ∙ sym (le-ltb a b k)
    ]

lt_of_values : (x y : Float) (a b c : ℕ) → 0 < c → HasValue x false a c → HasValue y false b c → lt x y ≡ ltb a b
unfolding lt
lt_of_values nan y a b c C p q = absurd p
lt_of_values (inf s) y a b c C p q = absurd p
lt_of_values (fin true m e) y a b c C p q = absurd (true≢false p.0)
lt_of_values (fin false m e) nan a b c C p q = absurd q
lt_of_values (fin false m e) (inf t) a b c C p q = absurd q
lt_of_values (fin false m e) (fin true n d) a b c C p q = absurd (true≢false q.0)
lt_of_values (fin false m e) (fin false n d) a b c C p q = crossed (m * up e) (n * up d) (down e) (down d) a b c C (down_pos e) (down_pos d) p.1 q.1

below_infinity : (x : Float) (a c : ℕ) → HasValue x false a c → lt x (inf false) ≡ true
unfolding lt
below_infinity nan a c p = absurd p
below_infinity (inf s) a c p = absurd p
below_infinity (fin s m e) a c p = refl

infinity_last : (y : Float) → lt (inf false) y ≡ false
unfolding lt
infinity_last nan = refl
infinity_last (inf t) = refl
infinity_last (fin t n d) = refl

-- ---- the float of a pattern

clear : (b : ℕ) → b ≤ infinity_bits → of_bits binary32 b ≡ of_fields binary32 false (b / 2 ^ 23) (b % 2 ^ 23)
clear b h =
    let s : b / 2 ^ 31 ≡ 0 = omega arith in
    let x : b / 2 ^ 23 % 2 ^ 8 ≡ b / 2 ^ 23 = omega arith in
    pattern b (omega arith) ∙ (λ i. of_fields binary32 (eqb (s i) 1) (x i) (b % 2 ^ 23))

by_fields : (e t : ℕ) → e < 255 → HasValue (of_fields binary32 false e t) false (sized e t) (2 ^ 149)
unfolding sized
by_fields zero t h = subst (λ (z : ℕ). HasValue (of_fields binary32 false 0 t) false z (2 ^ 149)) (mul-one t) (zeroth false t)
by_fields (suc e) t h = finite false e t h

value : (b : ℕ) → b < infinity_bits → HasValue (of_bits binary32 b) false (size_of b) (2 ^ 149)
value b h = subst (λ (x : Float). HasValue x false (size_of b) (2 ^ 149)) (sym (clear b (omega arith))) (by_fields (b / 2 ^ 23) (b % 2 ^ 23) (omega arith))

infinity_is : of_bits binary32 infinity_bits ≡ inf false
unfolding of_bits
infinity_is = refl

-- ---- the law

pub bit_order : (a b : ℕ) → a ≤ infinity_bits → b ≤ infinity_bits → lt (of_bits binary32 a) (of_bits binary32 b) ≡ ltb a b
bit_order a b h k =
    elim (eq-or-lt_of_le h) [
      | inl e ↦ ap (λ (x : Float). lt x (of_bits binary32 b)) (ap (of_bits binary32) e ∙ infinity_is) ∙ infinity_last (of_bits binary32 b) ∙ sym (le-ltb a b (omega (arith, e, k)))
      | inr l ↦
          elim (eq-or-lt_of_le k) [
            | inl e ↦ ap (lt (of_bits binary32 a)) (ap (of_bits binary32) e ∙ infinity_is) ∙ below_infinity (of_bits binary32 a) (size_of a) (2 ^ 149) (value a l) ∙ sym (lt-ltb a b (omega (arith, e, l)))
            | inr m ↦ lt_of_values (of_bits binary32 a) (of_bits binary32 b) (size_of a) (size_of b) (2 ^ 149) (pow_pos 149) (value a l) (value b m) ∙ same_order a b
          ]
    ]

-- ---- the bits of a magnitude

-- a pattern up to infinity's is a number's
pub no_nan_bits : (b : ℕ) → b ≤ infinity_bits → T (not (nan_bits binary32 b))
no_nan_bits b h =
    let small : b < 2 ^ 31 = omega arith in
    subst (λ (t : Bool). T (not t)) (sym (nan_bits_above binary32 b ∙ ap (ltb infinity_bits) (mod-eq_of_lt small) ∙ le-ltb infinity_bits b h)) tt

known : (x : Float) → is_nan x ≡ false → magnitude_bits_of x ≡ to_bits binary32 x % 2 ^ 31
unfolding magnitude_bits_of is_nan
known nan n = clash n
known (inf s) n = refl
known (fin s m e) n = refl

pub bits_of_nan : magnitude_bits_of nan ≡ 0
unfolding magnitude_bits_of
bits_of_nan = refl

-- a mask of the low 31 ones is a remainder
pub masked_bits : (x : Float) → is_nan x ≡ false → bit_and (to_bits binary32 x) 2147483647 ≡ magnitude_bits_of x
masked_bits x n = and_mask (to_bits binary32 x) 31 ∙ sym (known x n)

-- of a number, they are the magnitude's own pattern
module _ (x : Float) (f : T (fits binary32 x)) (n : is_nan x ≡ false) where
  abbrev b : ℕ
  b = to_bits binary32 x

  joined : (b / 2 ^ 23 % 2 ^ 8) * 2 ^ 23 % 2 ^ 32 + b % 2 ^ 23 ≡ magnitude_bits_of x
  joined = omega (arith, known x n)

  pub bits_of_magnitude : of_bits binary32 (magnitude_bits_of x) ≡ magnitude_of x
  bits_of_magnitude = ap (of_bits binary32) (sym joined) ∙ made x _ _ _ (own_fields x f n)

  pub bits_within : magnitude_bits_of x ≤ infinity_bits
  bits_within =
      let number : T (not (nan_bits binary32 (magnitude_bits_of x))) = subst (λ (z : ℕ). T (not (nan_bits binary32 z))) joined (made_number x _ _ _ (own_fields x f n)) in
      let small : magnitude_bits_of x < 2 ^ 31 = omega (arith, known x n) in
      ltb-false infinity_bits (magnitude_bits_of x) (ap (ltb infinity_bits) (sym (mod-eq_of_lt small)) ∙ sym (nan_bits_above binary32 (magnitude_bits_of x)) ∙ is_false (nan_bits binary32 (magnitude_bits_of x)) number)
