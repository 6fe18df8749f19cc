-- Signed numbers: the order, the size of a sum and a difference, and what the machine reads back from the bits of an i32. Assumes nothing.
use mathlib.Core.Path.{◌≡◌, refl, sym, ap, subst, ◌∙◌}
use mathlib.Core.Bool.{Bool, true, false, not, cond}
use Prim.Native.Nat.{ℕ, zero, suc, ◌+◌, ◌-◌, ◌^◌, ◌≤◌, ◌<◌}
use native.Mathlib.Nat.{le_trans}
use native.Mathlib.Omega.{arith}
use lib.Dec.{T, ltb, leb→le, le→leb, ltb→lt}
use lib.IntN.{ℤ, pos, negsuc, neg_ℤ, nat_abs, sub_ℕ, ◌+ℤ◌, ◌-ℤ◌, +ℤ_idl}
use lib.Signed.{mag, le_z, lt_z, non_neg, ◌≤ℤ◌}
use mir.Syntax.{w32, w64}
use mir.Val.{Fits, SFits, to_z, of_z}
use mir.ValLaws.{to_z-of_z}

pub clash {ℓ} : {X : Type ℓ} → true ≡ false → X
clash e = absurd (subst T e tt)

-- ---- the order

le_trans' : (a b c : ℤ) → T (le_z a b) → T (le_z b c) → T (le_z a c)
le_trans' (pos a) (pos b) (pos c) h k = le→leb a c (le_trans (leb→le a b h) (leb→le b c k))
le_trans' (pos a) (pos b) (negsuc c) h k = k
le_trans' (pos a) (negsuc b) c h k = absurd h
le_trans' (negsuc a) (pos b) (pos c) h k = tt
le_trans' (negsuc a) (pos b) (negsuc c) h k = absurd k
le_trans' (negsuc a) (negsuc b) (pos c) h k = tt
le_trans' (negsuc a) (negsuc b) (negsuc c) h k = le→leb c a (le_trans (leb→le c b k) (leb→le b a h))

pub ≤ℤ-trans : {a b c : ℤ} → a ≤ℤ b → b ≤ℤ c → a ≤ℤ c
≤ℤ-trans {a} {b} {c} h k = record { le = le_trans' a b c h.le k.le }

-- ---- the size of a sum and of a difference

cond_abs : (t : Bool) (x y n : ℕ) → (T t → suc x ≤ n) → (T (not t) → y ≤ n) → nat_abs (cond t (negsuc x) (pos y)) ≤ n
cond_abs true x y n f g = f tt
cond_abs false x y n f g = g tt

sub_abs : (a b : ℕ) → nat_abs (sub_ℕ a b) ≤ a + b
sub_abs a b = cond_abs (ltb a b) (b - suc a) (a - b) (a + b) (λ t. let h = ltb→lt a b t in omega arith) (λ t. omega arith)

pub sum_abs : (a b : ℤ) → nat_abs (a +ℤ b) ≤ nat_abs a + nat_abs b
sum_abs (pos a) (pos b) = omega arith
sum_abs (pos a) (negsuc b) = sub_abs a (suc b)
sum_abs (negsuc a) (pos b) = omega (arith, sub_abs b (suc a))
sum_abs (negsuc a) (negsuc b) = omega arith

pub neg_abs : (b : ℤ) → nat_abs (neg_ℤ b) ≡ nat_abs b
neg_abs (pos zero) = refl
neg_abs (pos (suc n)) = refl
neg_abs (negsuc n) = refl

pub difference_abs : (a b : ℤ) → nat_abs (a -ℤ b) ≤ nat_abs a + nat_abs b
difference_abs a b = omega (arith, sum_abs a (neg_ℤ b), neg_abs b)

pub mag_abs : (z : ℤ) → mag z ≤ nat_abs z
mag_abs (pos n) = omega arith
mag_abs (negsuc n) = omega arith

pub abs_mag : (z : ℤ) → nat_abs z ≤ mag z + 1
abs_mag (pos n) = omega arith
abs_mag (negsuc n) = omega arith

-- ---- an i32 as the machine reads it back from its bits

abbrev pub read : ℤ → ℤ
read z = to_z w32 (of_z w32 z)

pub small : {z : ℤ} → mag z < 2 ^ 31 → SFits w32 z
small h = record { sfits = h }

pub again : (z : ℤ) → mag z < 2 ^ 31 → read z ≡ z
again z h = to_z-of_z w32 z (record { sfits = h })

-- a number that passed the test for below 0, as a cast to an unsigned one asks
pub casts : (x : ℤ) → SFits w32 x → lt_z x (pos 0) ≡ false → T (non_neg x) × Fits w64 (nat_abs x)
casts (pos n) f t = (tt, omega (arith, f.sfits))
casts (negsuc n) f t = clash t

-- ---- the same in an i64

abbrev pub read64 : ℤ → ℤ
read64 z = to_z w64 (of_z w64 z)

pub again64 : (z : ℤ) → mag z < 2 ^ 63 → read64 z ≡ z
again64 z h = to_z-of_z w64 z (record { sfits = h })

-- an i32 in an i64
pub widened : (z : ℤ) → mag z < 2 ^ 31 → read64 (read z) ≡ z
widened z h = ap read64 (again z h) ∙ again64 z (omega arith)

pub narrow : (z : ℤ) → mag z < 2 ^ 31 → SFits w64 (read z)
narrow z h = subst (SFits w64) (sym (again z h)) (record { sfits = omega arith })

pub wide_small : (z : ℤ) → mag z < 2 ^ 31 → nat_abs (read64 (read z)) ≤ 2 ^ 31
wide_small z h = subst (λ (y : ℤ). nat_abs y ≤ 2 ^ 31) (sym (widened z h)) (omega (arith, abs_mag z))

pub minus_fits : (y : ℤ) → mag y < 2 ^ 31 → SFits w64 (pos 0 -ℤ read64 (read y))
minus_fits y h = subst (λ (z : ℤ). SFits w64 (pos 0 -ℤ z)) (sym (widened y h)) (record { sfits = omega (arith, mag_abs (pos 0 -ℤ y), difference_abs (pos 0) y, abs_mag y) })

pub minus_read : (y : ℤ) → mag y < 2 ^ 31 → read64 (pos 0 -ℤ read64 (read y)) ≡ neg_ℤ y
minus_read y h =
    ap (λ (z : ℤ). read64 (pos 0 -ℤ z)) (widened y h) ∙ ap read64 (+ℤ_idl (neg_ℤ y))
    ∙ again64 (neg_ℤ y) (omega (arith, mag_abs (neg_ℤ y), neg_abs y, abs_mag y))

pub minus_small : (y : ℤ) → mag y < 2 ^ 31 → nat_abs (read64 (pos 0 -ℤ read64 (read y))) ≤ 2 ^ 31
minus_small y h = subst (λ (z : ℤ). nat_abs z ≤ 2 ^ 31) (sym (minus_read y h)) (omega (arith, neg_abs y, abs_mag y))
