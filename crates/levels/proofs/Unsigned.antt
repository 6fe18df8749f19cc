-- The magnitude of a float: the float of its fields with the sign bit clear. Assumes nothing.
use mathlib.Core.Path.{◌≡◌, refl, sym, ap, subst, ◌∙◌}
use mathlib.Core.Bool.{Bool, true, false, not, cond}
use Prim.Native.Nat.{ℕ, zero, suc, ◌+◌, ◌*◌, ◌/◌, ◌%◌, ◌^◌, ◌<◌}
use native.Mathlib.Omega.{arith}
use lib.Dec.{T, eqb}
use lib.Ieee.{Float, nan, inf, fin, binary32, is_nan, nan_bits, of_bits, of_fields, odd}
use lib.Ieee.Bits.{nan_bits_is}
use Rattle.std.specs.Prelude.{None}
use Rattle.levels.specs.FloatParts.{parts_of, magnitude_of}
use Rattle.levels.proofs.Pattern.{Stands, none_known, pattern}

pub of_nan : (x : Float) → parts_of x ≡ None → x ≡ magnitude_of x
unfolding magnitude_of
of_nan x e = let n = none_known x e in n ∙ sym (ap magnitude_of n)

of_odd : (d : ℕ) (s : Bool) (q k l : ℕ) → magnitude_of (odd d s q k l) ≡ odd d false q k l
unfolding magnitude_of odd
of_odd d s zero k l = refl
of_odd d s (suc q) k l = refl

of_special : (s z : Bool) → magnitude_of (cond z (inf s) nan) ≡ cond z (inf false) nan
unfolding magnitude_of
of_special s true = refl
of_special s false = refl

of_fields_lem : (s : Bool) (e t : ℕ) → magnitude_of (of_fields binary32 s e t) ≡ of_fields binary32 false e t
unfolding of_fields
of_fields_lem s zero t = of_odd 24 s t 0 149
of_fields_lem s (suc e) t = go (eqb (suc e) 255) (eqb t 0)
  where
    go : (b z : Bool) → magnitude_of (cond b (cond z (inf s) nan) (odd 24 s (2 ^ 23 + t) e 149)) ≡ cond b (cond z (inf false) nan) (odd 24 false (2 ^ 23 + t) e 149)
    go true z = of_special s z
    go false z = of_odd 24 s (2 ^ 23 + t) e 149

same_nan : (x : Float) → is_nan (magnitude_of x) ≡ is_nan x
unfolding is_nan magnitude_of
same_nan nan = refl
same_nan (inf s) = refl
same_nan (fin s m e) = refl

-- the machine's pattern: the exponent shifted up, and the fraction
clear : (e t : ℕ) → e < 256 → t < 2 ^ 23 → of_bits binary32 (e * 2 ^ 23 % 2 ^ 32 + t) ≡ of_fields binary32 false e t
clear e t he ht =
    let b = e * 2 ^ 23 % 2 ^ 32 + t in
    let s : b / 2 ^ 31 ≡ 0 = omega arith in
    let x : b / 2 ^ 23 % 2 ^ 8 ≡ e = omega arith in
    let f : b % 2 ^ 23 ≡ t = omega arith in
    pattern b (omega arith) ∙ (λ i. of_fields binary32 (eqb (s i) 1) (x i) (f i))

pub made : (x : Float) (s : Bool) (e t : ℕ) → Stands x s e t → of_bits binary32 (e * 2 ^ 23 % 2 ^ 32 + t) ≡ magnitude_of x
made x s e t f = clear e t f.e_lt f.t_lt ∙ sym (of_fields_lem s e t) ∙ ap magnitude_of (sym f.is)

pub made_number : (x : Float) (s : Bool) (e t : ℕ) → Stands x s e t → T (not (nan_bits binary32 (e * 2 ^ 23 % 2 ^ 32 + t)))
made_number x s e t f =
    subst (λ (b : Bool). T (not b)) (sym (nan_bits_is binary32 (e * 2 ^ 23 % 2 ^ 32 + t) ∙ ap is_nan (made x s e t f) ∙ same_nan x ∙ f.number)) tt
