-- The samples of devices are converted exactly. Assumes nothing.
use mathlib.Core.Path.{◌≡◌, refl, sym, ap, subst, ◌∙◌}
use mathlib.Core.Bool.{Bool, true, false, ◌&&◌}
use Prim.Native.Nat.{ℕ, zero, suc, ◌+◌, ◌-◌, ◌*◌, ◌%◌, ◌^◌, ◌≤◌, ◌<◌}
use native.Mathlib.Nat.{le_trans, le_of_lt, not-le_of_lt, mul_assoc, mul_comm, mul_right_comm, mul-one, one-mul, mul-le-mul_right, eq_of_mul-eq-mul_right, lt_of_mul-lt-mul_right, mul-lt-mul_of_pos_right}
use native.Mathlib.Decide.{dec_le}
use native.Mathlib.Omega.{arith}
use lib.Dec.{T, eqb, ltb, leb, eqb→eq, leb→le, ltb→lt, lit≤, lit<}
use lib.Pow.{pow-add, pow_pos, pow_mono}
use lib.IntN.{ℤ, pos, negsuc}
use lib.Ieee.{Float, nan, inf, fin, binary32, up, down, unlike, fits, mul, of_int, round}
use lib.Ieee.Fits.{down_pos, up_pos}
use lib.Ieee.Exact.{HasValue, round_exact}
use lib.Ieee.Back.{round_whole}
use Rattle.agc2.specs.Samples.{scaled, full_scale}
use Rattle.claims.specs.Samples.{SamplesAreExact}

-- ---- 16 bits: a float holds every whole number up to 2 ^ 24

within : (n : ℕ) → n < 2 ^ 15 → suc n ≤ 2 ^ 24
within n h = le_trans h (pow_mono {i = 15} {j = 24} (lit≤ tt))

above : (n : ℕ) → n < 2 ^ 15 → HasValue (of_int binary32 (pos n)) false n 1
unfolding of_int
above n h = round_whole binary32 false n (le_of_lt (within n h))

below : (n : ℕ) → n < 2 ^ 15 → HasValue (of_int binary32 (negsuc n)) true (suc n) 1
unfolding of_int
below n h = round_whole binary32 true (suc n) (within n h)

-- ---- a full scale of 1.0

full : full_scale ≡ fin false 1 (pos 15)
unfolding of_int round
full = refl

keeps : (t : Bool) → unlike t false ≡ t
keeps true = refl
keeps false = refl

times : (t : Bool) (m : ℕ) (e : ℤ) → scaled (fin t m e) ≡ round binary32 t (m * up e * 2 ^ 15) (down e)
unfolding mul
times t m e = ap (mul binary32 (fin t m e)) full ∙ λ i. round binary32 (keeps t i) (m * up e * 2 ^ 15) (mul-one (down e) i)

-- m times 2 ^ u over a power of two that divides 2 ^ 149
regroup : (m u b d e : ℕ) → m * u * b * (d * e) ≡ m * (u * b * e) * d
regroup m u b d e = simp (mul_assoc, mul_comm)

module _ (t : Bool) (m u d : ℕ) (den : ℕ) (some : 0 < den) (small : m < 2 ^ 24) (divides : den * 2 ^ d ≡ 2 ^ 149) (fine : m * 2 ^ u * 2 ^ 15 < 2 ^ 128 * den) where
  exponent : 2 ^ (u + 15 + d) ≡ 2 ^ u * 2 ^ 15 * 2 ^ d
  exponent = pow-add 2 (u + 15) d ∙ ap (λ (p : ℕ). p * 2 ^ d) (pow-add 2 u 15)

  is : m * 2 ^ u * 2 ^ 15 * 2 ^ 149 ≡ m * 2 ^ (u + 15 + d) * den
  is = ap (λ (p : ℕ). m * 2 ^ u * 2 ^ 15 * p) (sym divides) ∙ regroup m (2 ^ u) (2 ^ 15) den (2 ^ d) ∙ ap (λ (p : ℕ). m * p * den) (sym exponent)

  less : m * 2 ^ (u + 15 + d) < 2 ^ 277
  less = lt_of_mul-lt-mul_right den (subst (λ (p : ℕ). p < 2 ^ 277 * den) is (subst (λ (p : ℕ). m * 2 ^ u * 2 ^ 15 * 2 ^ 149 < p) (mul_right_comm (2 ^ 128) den (2 ^ 149) ∙ ap (λ (p : ℕ). p * den) (sym (pow-add 2 128 149))) (mul-lt-mul_of_pos_right fine (pow_pos 149))))

  exact : HasValue (round binary32 t (m * 2 ^ u * 2 ^ 15) den) t (m * 2 ^ u * 2 ^ 15) den
  exact = round_exact binary32 t (m * 2 ^ u * 2 ^ 15) den m (u + 15 + d) some small less is

-- what a float of 32 bits is: fewer than 24 digits, and no power below 2 ^ -149
record Digits (m : ℕ) (e : ℤ) : Type 0 where
  few : m < 2 ^ 24
  fine : down e ≤ 2 ^ 149

one_way : (e : ℤ) → up e * down e ≡ 1 → down e ≤ 1
one_way e h = subst (λ (p : ℕ). p ≤ 1) (one-mul (down e)) (subst (λ (p : ℕ). 1 * down e ≤ p) h (mul-le-mul_right (down e) (up_pos e)))

inner : (a b c d : Bool) → T (a && b && c && d) → T b × T c
inner false b c d h = absurd h
inner true false c d h = absurd h
inner true true false d h = absurd h
inner true true true d h = (tt, tt)

digits : (t : Bool) (m : ℕ) (e : ℤ) → T (fits binary32 (fin t m e)) → Digits m e
unfolding fits
digits t zero e h = record { few = pow_pos 24; fine = le_trans (one_way e (eqb→eq (up e * down e) 1 h)) (lit≤ {m = 1} {n = 2 ^ 149} tt) }
digits t (suc m) e h =
    let held = inner (eqb (suc m % 2) 1) (ltb (suc m) (2 ^ 24)) (leb (down e) (2 ^ 149)) (ltb (suc m * up e) (2 ^ 128 * down e)) h in
    record { few = ltb→lt (suc m) (2 ^ 24) held.0; fine = leb→le (down e) (2 ^ 149) held.1 }

exponent_within : (k : ℕ) → 2 ^ k ≤ 2 ^ 149 → k ≤ 149
exponent_within k h = elim (dec_le k 149) [ yes l ↦ l | no l ↦ absurd (not-le_of_lt (lit< {m = 2 ^ 149} {n = 2 ^ 150} tt) (le_trans (pow_mono {i = 150} {j = k} (omega arith)) h)) ]

value : (t : Bool) (m : ℕ) (e : ℤ) → Digits m e → m * up e * 2 ^ 15 < 2 ^ 128 * down e → HasValue (round binary32 t (m * up e * 2 ^ 15) (down e)) t (m * up e * 2 ^ 15) (down e)
value t m (pos k) w h = exact t m k 149 1 (lit< tt) w.few (one-mul (2 ^ 149)) h
value t m (negsuc k) w h =
    let j = 149 - suc k in
    let whole : suc k + j ≡ 149 = omega (arith, exponent_within (suc k) w.fine) in
    exact t m 0 j (2 ^ suc k) (pow_pos (suc k)) w.few (sym (pow-add 2 (suc k) j) ∙ ap (λ (p : ℕ). 2 ^ p) whole) h

-- the same value as another fraction
rescaled : (x : Float) (t s : Bool) (w l a c : ℕ) → t ≡ s → 0 < l → a * l ≡ w * c → HasValue x t w l → HasValue x s a c
rescaled nan t s w l a c e p h v = v
rescaled (inf r) t s w l a c e p h v = v
rescaled (fin r n k) t s w l a c e p h v = (
  v.0 ∙ e,
  eq_of_mul-eq-mul_right l p (n * up k * c) (a * down k)
      (mul_right_comm (n * up k) c l ∙ ap (λ (y : ℕ). y * c) v.1 ∙ mul_right_comm w (down k) c ∙ ap (λ (y : ℕ). y * down k) (sym h) ∙ mul_right_comm a l (down k)),
)

unit : (x : Float) (s : Bool) (a c : ℕ) → T (fits binary32 x) → 0 < c → HasValue x s a c → a * 2 ^ 15 < 2 ^ 128 * c → HasValue (scaled x) s (a * 2 ^ 15) c
unit nan s a c f p v h = absurd v
unit (inf t) s a c f p v h = absurd v
unit (fin t m e) s a c f p v h =
    let num = m * up e * 2 ^ 15 in
    let same : a * 2 ^ 15 * down e ≡ num * c = mul_right_comm a (2 ^ 15) (down e) ∙ ap (λ (y : ℕ). y * 2 ^ 15) (sym v.1) ∙ mul_right_comm (m * up e) c (2 ^ 15) in
    let fine : num < 2 ^ 128 * down e =
    lt_of_mul-lt-mul_right c (subst (λ (y : ℕ). y < 2 ^ 128 * down e * c) same (subst (λ (y : ℕ). a * 2 ^ 15 * down e < y) (mul_right_comm (2 ^ 128) c (down e)) (mul-lt-mul_of_pos_right h (down_pos e)))) in
    subst (λ (y : Float). HasValue y s (a * 2 ^ 15) c) (sym (times t m e))
    (rescaled (round binary32 t num (down e)) t s num (down e) (a * 2 ^ 15) c v.0 (down_pos e) same (value t m e (digits t m e f) fine))

pub samples_are_exact : SamplesAreExact
samples_are_exact = record { above = above; below = below; unit = unit }
