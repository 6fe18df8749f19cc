-- A float and the fields of its bits: which float the fields stand for. Assumes nothing.
use mathlib.Core.Path.{◌≡◌, refl, sym, ap, subst, ◌∙◌}
use mathlib.Core.Bool.{Bool, true, false, not}
use Prim.Native.Nat.{ℕ, ◌/◌, ◌%◌, ◌^◌, ◌≤◌, ◌<◌}
use native.Mathlib.Omega.{arith}
use borrow.Author.Tests.{leb-true, leb-false, eq-eqb, ne_eqb, lt-ltb, le-ltb}
use lib.Dec.{T, leb, eqb}
use lib.Bits.{bit_and, and_mask}
use lib.Pow.{field}
use lib.Ieee.{Float, nan, inf, fin, binary32, fits, is_nan, nan_bits, to_bits, of_bits, of_fields}
use lib.Ieee.Bits.{of_bits-to_bits, to_bits-lt, nan_bits_is, nan_bits_above}
use Rattle.numbers.proofs.Signs.{clash}
use Rattle.std.specs.Prelude.{None, Some}
use Rattle.levels.specs.declared.parts.Parts.{Parts}
use Rattle.levels.specs.FloatParts.{fields_of, parts_of}

-- ---- a not-a-number, as code tests for it

pub nan_only : (x : Float) → is_nan x ≡ true → x ≡ nan
unfolding is_nan
nan_only nan e = refl
nan_only (inf s) e = clash (sym e)
nan_only (fin s m k) e = clash (sym e)

none_of_nan : parts_of nan ≡ None
unfolding parts_of
none_of_nan = refl

pub is_nan_lem : (x : Float) → is_nan x ≡ true → None ≡ parts_of x
is_nan_lem x e = sym (ap parts_of (nan_only x e) ∙ none_of_nan)

pub none_known : (x : Float) → parts_of x ≡ None → x ≡ nan
unfolding parts_of
none_known nan e = refl
none_known (inf s) e = let z : ◌≡◌ {A = ℕ} 0 1 = cc in absurd (omega arith)
none_known (fin s m k) e = let z : ◌≡◌ {A = ℕ} 0 1 = cc in absurd (omega arith)

-- ---- shifts and masks

known : (x : Float) → is_nan x ≡ false → parts_of x ≡ Some (fields_of (to_bits binary32 x))
unfolding parts_of is_nan
known nan n = clash n
known (inf s) n = refl
known (fin s m e) n = refl

pub masked : (x : Float) → is_nan x ≡ false
    → Some (record { negative = eqb (to_bits binary32 x / 2 ^ 31) 1; exponent = bit_and (to_bits binary32 x / 2 ^ 23) 255; fraction = bit_and (to_bits binary32 x) 8388607 }) ≡ parts_of x
masked x n =
    let b = to_bits binary32 x in
    (λ i. Some (record { negative = eqb (b / 2 ^ 31) 1; exponent = and_mask (b / 2 ^ 23) 8 i; fraction = and_mask b 23 i })) ∙ sym (known x n)

-- ---- the float that the fields stand for

sign_bit : (b : ℕ) → b < 2 ^ 32 → (t : Bool) → leb (2 ^ 31) b ≡ t → t ≡ eqb (b / 2 ^ 31) 1
sign_bit b h true e = sym (eq-eqb (b / 2 ^ 31) 1 (omega (arith, leb-true (2 ^ 31) b e)))
sign_bit b h false e = sym (ne_eqb (b / 2 ^ 31) 1 (λ q. omega (arith, leb-false (2 ^ 31) b e)))

pub pattern : (b : ℕ) → b < 2 ^ 32 → of_bits binary32 b ≡ of_fields binary32 (eqb (b / 2 ^ 31) 1) (b / 2 ^ 23 % 2 ^ 8) (b % 2 ^ 23)
unfolding of_bits
pattern b h = λ i. of_fields binary32 (sign_bit b h (leb (2 ^ 31) b) refl i) (field b 8 23 i) (b % 2 ^ 23)

pub record Stands (x : Float) (s : Bool) (e t : ℕ) : Type 0 where
  pub is : x ≡ of_fields binary32 s e t
  pub number : is_nan x ≡ false
  pub e_lt : e < 256
  pub t_lt : t < 2 ^ 23

inside : (p q : Parts) → Some p ≡ Some q → p ≡ q
inside p q e = cc

read : (x : Float) → T (fits binary32 x) → (s : Bool) (e t : ℕ) → is_nan x ≡ false → fields_of (to_bits binary32 x) ≡ record { negative = s; exponent = e; fraction = t } → Stands x s e t
read x f s e t n p =
    let b = to_bits binary32 x in
    let ps : eqb (b / 2 ^ 31) 1 ≡ s = ap (λ (q : Parts). q.negative) p in
    let pe : b / 2 ^ 23 % 2 ^ 8 ≡ e = ap (λ (q : Parts). q.exponent) p in
    let pt : b % 2 ^ 23 ≡ t = ap (λ (q : Parts). q.fraction) p in
    record {
      is = sym (of_bits-to_bits binary32 x f) ∙ pattern b (to_bits-lt binary32 x f) ∙ (λ i. of_fields binary32 (ps i) (pe i) (pt i));
      number = n;
      e_lt = omega arith;
      t_lt = omega arith;
    }

pub stands : (x : Float) → T (fits binary32 x) → (s : Bool) (e t : ℕ) → parts_of x ≡ Some (record { negative = s; exponent = e; fraction = t }) → Stands x s e t
unfolding parts_of is_nan
stands nan f s e t p = let z : ◌≡◌ {A = ℕ} 0 1 = cc in absurd (omega arith)
stands (inf r) f s e t p = read (inf r) f s e t refl (inside _ _ p)
stands (fin r m k) f s e t p = read (fin r m k) f s e t refl (inside _ _ p)

pub own_fields : (x : Float) → T (fits binary32 x) → is_nan x ≡ false
    → Stands x (eqb (to_bits binary32 x / 2 ^ 31) 1) (to_bits binary32 x / 2 ^ 23 % 2 ^ 8) (to_bits binary32 x % 2 ^ 23)
own_fields x f n = stands x f (eqb (to_bits binary32 x / 2 ^ 31) 1) (to_bits binary32 x / 2 ^ 23 % 2 ^ 8) (to_bits binary32 x % 2 ^ 23) (known x n)

-- ---- patterns of a not-a-number

pub nan_pattern : (b : ℕ) → 2139095040 < b % 2 ^ 31 → of_bits binary32 b ≡ nan
nan_pattern b h = nan_only (of_bits binary32 b) (sym (nan_bits_is binary32 b) ∙ nan_bits_above binary32 b ∙ lt-ltb 2139095040 (b % 2 ^ 31) h)

pub number_pattern : (b : ℕ) → b % 2 ^ 31 ≤ 2139095040 → T (not (nan_bits binary32 b))
number_pattern b h = subst (λ (t : Bool). T (not t)) (sym (nan_bits_above binary32 b ∙ le-ltb 2139095040 (b % 2 ^ 31) h)) tt
