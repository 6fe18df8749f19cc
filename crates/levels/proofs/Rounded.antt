-- Rounding a float, from its fields. Assumes nothing.
use mathlib.Core.Path.{◌≡◌, refl, sym, ap, subst, ◌∙◌}
use mathlib.Core.Bool.{Bool, true, false, cond}
use Prim.Native.Nat.{ℕ, zero, suc, ◌+◌, ◌-◌, ◌*◌, ◌/◌, ◌^◌, ◌<◌, min}
use native.Mathlib.Nat.{mul_assoc, add-mul, mul_comm}
use native.Mathlib.Omega.{arith}
use borrow.Author.Tests.{ne_eqb}
use lib.Dec.{eqb}
use lib.IntN.{pos, neg_ℤ}
use lib.Pow.{pow_pos}
use lib.Ieee.{Float, nan, inf, fin, binary32, up, down, is_nan, of_fields, odd}
use lib.Ieee.Exact.{HasValue, odd_sign}
use lib.Ieee.Fits.{down_pos}
use lib.Ieee.Nearest.{div_same}
use Rattle.numbers.proofs.Signs.{clash}
use Rattle.std.specs.Prelude.{None}
use Rattle.levels.specs.FloatParts.{parts_of}
use Rattle.numbers.specs.Sign.{signed}
use Rattle.levels.specs.Rounding.{half_up, round_of, significand, whole_part}
use Rattle.levels.proofs.Pattern.{Stands, none_known}
use Rattle.levels.proofs.Whole.{swap_two}

-- ---- rounding by the value
doubles : (a b : ℕ) → 2 * a * (2 * b) ≡ 2 * (2 * (a * b))
doubles a b = mul_assoc 2 a (2 * b) ∙ ap (λ (n : ℕ). 2 * n) (swap_two a b)

pub by_value : (x : Float) (s : Bool) (a c : ℕ) → 0 < c → HasValue x s a c → round_of x ≡ signed s (half_up a c)
unfolding round_of half_up
by_value nan s a c h v = absurd v
by_value (inf t) s a c h v = absurd v
by_value (fin t m e) s a c h v =
    let u = m * up e in
    let d = down e in
    let dp : 0 < d = down_pos e in
    let vv : u * c ≡ a * d = v.1 in
    let x1 = add-mul (2 * u) d (2 * c) in
    let x2 = add-mul (2 * a) c (2 * d) in
    let y1 = doubles u c in
    let y2 = doubles a d in
    let y3 = swap_two d c ∙ ap (λ (n : ℕ). 2 * n) (mul_comm d c) ∙ sym (swap_two c d) in
    let same : (2 * u + d) / (2 * d) ≡ (2 * a + c) / (2 * c) = div_same (2 * u + d) (2 * d) (2 * a + c) (2 * c) (omega arith) (omega arith) (omega arith) in
    (λ i. signed (v.0 i) (same i))

-- ---- rounding by the fields
held_same : (s : Bool) (n : ℕ) → signed s n ≡ signed s (min n (2 ^ 31))
unfolding signed
held_same true n = let e : min n (2 ^ 31) ≡ min (min n (2 ^ 31)) (2 ^ 31) = omega arith in ap (λ (k : ℕ). neg_ℤ (pos k)) e
held_same false n = let e : min n (2 ^ 31 - 1) ≡ min (min n (2 ^ 31)) (2 ^ 31 - 1) = omega arith in ap pos e

cond_off : {X : Type 0} (k : Bool) (x y : X) → k ≡ false → cond k x y ≡ y
cond_off true x y e = clash e
cond_off false x y e = refl

finite_value : (s : Bool) (e t : ℕ) → e < 255 → HasValue (of_fields binary32 s e t) s (significand e t * 2 ^ (e - 1)) (2 ^ 149)
unfolding of_fields significand
finite_value s zero t h = odd_sign 24 s t 0 149
finite_value s (suc e) t h =
    let k : suc e - 1 ≡ e = omega arith in
    let v = odd_sign 24 s (2 ^ 23 + t) e 149 in
    let same = cond_off (eqb (suc e) 255) (cond (eqb t 0) (inf s) nan) (odd 24 s (2 ^ 23 + t) e 149) (ne_eqb (suc e) 255 (λ q. omega arith)) in
    subst (λ (n : ℕ). HasValue (cond (eqb (suc e) 255) (cond (eqb t 0) (inf s) nan) (odd 24 s (2 ^ 23 + t) e 149)) s ((2 ^ 23 + t) * 2 ^ n) (2 ^ 149)) (sym k)
    (subst (λ (x : Float). HasValue x s ((2 ^ 23 + t) * 2 ^ e) (2 ^ 149)) (sym same) v)

pub at_finite : (x : Float) (s : Bool) (e t : ℕ) → Stands x s e t → e < 255 → round_of x ≡ signed s (whole_part e t)
unfolding whole_part
at_finite x s e t f h =
    ap round_of f.is ∙ by_value (of_fields binary32 s e t) s (significand e t * 2 ^ (e - 1)) (2 ^ 149) (pow_pos 149) (finite_value s e t h)
    ∙ held_same s (half_up (significand e t * 2 ^ (e - 1)) (2 ^ 149))

infinite : (s : Bool) (k : Bool) → is_nan (cond k (inf s) nan) ≡ false → round_of (cond k (inf s) nan) ≡ signed s (2 ^ 31)
unfolding round_of is_nan
infinite s true n = refl
infinite s false n = clash n

pub at_infinite : (x : Float) (s : Bool) (e t : ℕ) → Stands x s e t → e ≡ 255 → round_of x ≡ signed s (2 ^ 31)
unfolding of_fields
at_infinite x s e t f q =
    let is = f.is ∙ ap (λ (k : ℕ). of_fields binary32 s k t) q in
    ap round_of is ∙ infinite s (eqb t 0) (sym (ap is_nan is) ∙ f.number)

pub at_nan : (x : Float) → parts_of x ≡ None → round_of x ≡ pos 0
unfolding round_of
at_nan x e = ap round_of (none_known x e)
