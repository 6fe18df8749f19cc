-- What the three fields of an f32's bits say of its value. `HasValue v s a c` says that v is finite, has the sign s, and is a / c in size. Assumes nothing.
use mathlib.Core.Path.{◌≡◌, refl, sym, ap, ◌∙◌, subst}
use Prim.Native.Nat.{ℕ, zero, suc, ◌+◌, ◌-◌, ◌*◌, ◌^◌, ◌≤◌, ◌<◌}
use native.Mathlib.Nat.{le_trans, le_of_eq, le_of_lt, lt_irrefl, mul-one, mul_comm, mul_assoc, mul_right_comm, mul-le-mul, mul-le-mul_right, le_of_mul-le-mul_right, eq_of_mul-eq-mul_right}
use native.Mathlib.Omega.{arith}
use mathlib.Core.Bool.{Bool, true, false, not, cond}
use lib.Dec.{T, eqb, eqb→eq, not_T, lit≤}
use lib.Pow.{pow_mono, pow_pos, pow-add}
use lib.Ieee.{Float, nan, inf, fin, binary32, up, down, odd, of_fields}
use lib.Ieee.Bits.{cond_no}
use lib.Ieee.Exact.{HasValue, odd_sign}

-- ---- the sign

abbrev pub Signed : Bool → Float → Type 0
Signed s nan = Unit {0}
Signed s (inf r) = r ≡ s
Signed s (fin r m e) = r ≡ s

valued : (s : Bool) (v : Float) (a c : ℕ) → HasValue v s a c → Signed s v
valued s nan a c h = absurd h
valued s (inf r) a c h = absurd h
valued s (fin r m e) a c h = h.0

pub signed : (s : Bool) (x t : ℕ) → Signed s (of_fields binary32 s x t)
unfolding of_fields
signed s zero t = valued s (odd 24 s t 0 149) (t * 2 ^ 0) (2 ^ 149) (odd_sign 24 s t 0 149)
signed s (suc x) t = go (eqb (suc x) 255) (eqb t 0)
  where
    go : (b z : Bool) → Signed s (cond b (cond z (inf s) nan) (odd 24 s (2 ^ 23 + t) x 149))
    go true true = refl
    go true false = tt
    go false z = valued s (odd 24 s (2 ^ 23 + t) x 149) ((2 ^ 23 + t) * 2 ^ x) (2 ^ 149) (odd_sign 24 s (2 ^ 23 + t) x 149)

-- ---- an exponent of 255

at255 : (s : Bool) (t : ℕ) → of_fields binary32 s 255 t ≡ cond (eqb t 0) (inf s) nan
unfolding of_fields
at255 s t = refl

pub special : (s : Bool) (x t : ℕ) → x ≡ 255 → of_fields binary32 s x t ≡ cond (eqb t 0) (inf s) nan
special s x t e = ap (λ (z : ℕ). of_fields binary32 s z t) e ∙ at255 s t

-- ---- any other

differs : (a b : ℕ) → a < b → T (not (eqb a b))
differs a b h = not_T (eqb a b) (λ t. lt_irrefl b (subst (λ (x : ℕ). x < b) (eqb→eq a b t) h))

pub finite : (s : Bool) (x t : ℕ) → suc x < 255 → HasValue (of_fields binary32 s (suc x) t) s ((2 ^ 23 + t) * 2 ^ x) (2 ^ 149)
unfolding of_fields
finite s x t h =
    subst (λ (v : Float). HasValue v s ((2 ^ 23 + t) * 2 ^ x) (2 ^ 149))
    (sym (cond_no (eqb (suc x) 255) (cond (eqb t 0) (inf s) nan) (odd 24 s (2 ^ 23 + t) x 149) (differs (suc x) 255 h)))
    (odd_sign 24 s (2 ^ 23 + t) x 149)

-- below 127 the value is at most 1
abbrev pub Small : Bool → Float → Type 0
Small s nan = ⊥
Small s (inf r) = ⊥
Small s (fin r m e) = (r ≡ s) × (m * up e ≤ down e)

at_most_lem : (s : Bool) (v : Float) (a c : ℕ) → 0 < c → a ≤ c → HasValue v s a c → Small s v
at_most_lem s nan a c p l h = absurd h
at_most_lem s (inf r) a c p l h = absurd h
at_most_lem s (fin r m e) a c p l h = (h.0, le_of_mul-le-mul_right (le_trans (le_of_eq h.1) (le_trans (mul-le-mul_right (down e) l) (le_of_eq (mul_comm c (down e))))) p)

pub zeroth : (s : Bool) (t : ℕ) → HasValue (of_fields binary32 s 0 t) s (t * 2 ^ 0) (2 ^ 149)
unfolding of_fields
zeroth s t = odd_sign 24 s t 0 149

pub small : (s : Bool) (x t : ℕ) → x < 127 → t < 2 ^ 23 → Small s (of_fields binary32 s x t)
small s zero t hx ht = at_most_lem s (of_fields binary32 s 0 t) (t * 2 ^ 0) (2 ^ 149) (pow_pos 149) (le_trans (le_of_eq (mul-one t)) (le_trans (le_of_lt ht) (pow_mono {i = 23} {j = 149} (lit≤ tt)))) (zeroth s t)
small s (suc x) t hx ht =
    at_most_lem s (of_fields binary32 s (suc x) t) ((2 ^ 23 + t) * 2 ^ x) (2 ^ 149) (pow_pos 149)
    (mul-le-mul {n₁ = 2 ^ 23 + t} {m₁ = 2 ^ x} {n₂ = 2 ^ 24} {m₂ = 2 ^ 125} (twice t ht) (pow_mono (below x hx)))
    (finite s x t (omega arith))
  where
    twice : (t : ℕ) → t < 2 ^ 23 → 2 ^ 23 + t ≤ 2 ^ 24
    twice t h = omega arith

    below : (x : ℕ) → suc x < 127 → x ≤ 125
    below x h = omega arith

-- from 127 to 254 the value is x / 2 ^ 31 times 2 ^ w, with x from 2 ^ 31 up and below 2 ^ 32
rescaled : (s : Bool) (v : Float) (m w k : ℕ) → k ≡ 126 + w → HasValue v s (m * 2 ^ k) (2 ^ 149) → HasValue v s (m * 2 ^ 8 * 2 ^ w) (2 ^ 31)
rescaled s nan m w k e h = absurd h
rescaled s (inf r) m w k e h = absurd h
rescaled s (fin r n d) m w k e h = (
  h.0,
  eq_of_mul-eq-mul_right (2 ^ 118) (pow_pos 118) (n * up d * 2 ^ 31) (m * 2 ^ 8 * 2 ^ w * down d)
      (mul_assoc (n * up d) (2 ^ 31) (2 ^ 118) ∙ h.1 ∙ ap (λ (z : ℕ). m * z * down d) (ap (λ (z : ℕ). 2 ^ z) e ∙ pow-add 2 126 w) ∙ ordered (2 ^ w) (down d)),
)
  where
    ordered : (a b : ℕ) → m * (2 ^ 126 * a) * b ≡ m * 2 ^ 8 * a * b * 2 ^ 118
    ordered a b =
        ap (λ (z : ℕ). z * b) (sym (mul_assoc m (2 ^ 126) a))
        ∙ ap (λ (z : ℕ). z * a * b) (sym (mul_assoc m (2 ^ 8) (2 ^ 118)))
        ∙ ap (λ (z : ℕ). z * b) (mul_right_comm (m * 2 ^ 8) (2 ^ 118) a)
        ∙ mul_right_comm (m * 2 ^ 8 * a) (2 ^ 118) b

pub normal : (s : Bool) (x t : ℕ) → 127 ≤ x → x < 255 → HasValue (of_fields binary32 s x t) s ((t + 2 ^ 23) * 2 ^ 8 * 2 ^ (x - 127)) (2 ^ 31)
normal s zero t lo hi = absurd (never lo)
  where
    never : 127 ≤ 0 → ⊥
    never h = omega arith
normal s (suc x) t lo hi =
    subst (λ (z : ℕ). HasValue (of_fields binary32 s (suc x) t) s (z * 2 ^ 8 * 2 ^ (suc x - 127)) (2 ^ 31)) (swap t)
    (rescaled s (of_fields binary32 s (suc x) t) (2 ^ 23 + t) (suc x - 127) x (apart x lo) (finite s x t hi))
  where
    swap : (t : ℕ) → 2 ^ 23 + t ≡ t + 2 ^ 23
    swap t = omega arith

    apart : (x : ℕ) → 127 ≤ suc x → x ≡ 126 + (suc x - 127)
    apart x h = omega arith
