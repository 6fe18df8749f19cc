-- The signed numbers of the predictor: the whole dB nearest to a projected peak, the threshold in whole dB, and a wanted fall. Assumes nothing.
use mathlib.Core.Path.{◌≡◌, refl, sym, ap, subst, ◌∙◌}
use mathlib.Core.Bool.{true, false}
use Prim.Native.Nat.{ℕ, zero, suc, ◌+◌, ◌*◌, ◌/◌, ◌^◌, ◌≤◌, ◌<◌}
use native.Mathlib.Omega.{arith}
use lib.IntN.{ℤ, pos, negsuc, neg_ℤ, nat_abs, ◌*ℤ◌}
use lib.Signed.{mag, lt_z, quot_z}
use borrow.Author.Tests.{ltb-true}
use mir.Syntax.{w32}
use mir.Val.{SFits}
use Rattle.numbers.proofs.Signs.{clash, read, again, small}
use Rattle.clipping_predictor.specs.Estimate.{nearest_whole, whole_db, projected_limit}

pub whole_below : (z : ℤ) → lt_z z (pos 0) ≡ true → 0 ≡ nearest_whole z
whole_below (pos n) t = let h = ltb-true n 0 t in absurd (omega arith)
whole_below (negsuc n) t = refl

pub whole_above : (z : ℤ) → lt_z z (pos 0) ≡ false → (nat_abs z + 500) / 1000 ≡ nearest_whole z
whole_above (pos n) t = refl
whole_above (negsuc n) t = clash t

pub size_fits : (z : ℤ) → mag z < 2 ^ 31 → nat_abs z ≤ 2 ^ 31
size_fits (pos n) h = omega arith
size_fits (negsuc n) h = omega arith

-- ---- the threshold in whole dB

neg_mag : (k n : ℕ) → k ≤ suc n → mag (neg_ℤ (pos k)) ≤ n
neg_mag zero n h = omega arith
neg_mag (suc k) n h = omega arith

neg_cut : (m n : ℕ) → m * 1000 ≤ suc n → (mag (neg_ℤ (pos m)) ≤ n) × (mag (neg_ℤ (pos m) *ℤ pos 1000) ≤ n)
neg_cut zero n h = (omega arith, omega arith)
neg_cut (suc m) n h = (omega arith, neg_mag (suc m * 1000) n h)

-- cutting makes a number no larger
cut_small : (z : ℤ) → (mag (quot_z z (pos 1000)) ≤ mag z) × (mag (whole_db z) ≤ mag z)
cut_small (pos n) = (omega arith, omega arith)
cut_small (negsuc n) = neg_cut (suc n / 1000) n (omega arith)

module _ (z : ℤ) (h : mag z < 2 ^ 31) where
  inner : read z ≡ z
  inner = again z h

  pub cut_fits : SFits w32 (quot_z (read z) (pos 1000))
  cut_fits = subst (λ (y : ℤ). SFits w32 (quot_z y (pos 1000))) (sym inner) (small (omega (arith, cut_small z)))

  whole_is : read (quot_z (read z) (pos 1000)) *ℤ pos 1000 ≡ whole_db z
  whole_is = ap (λ (y : ℤ). read (quot_z y (pos 1000)) *ℤ pos 1000) inner ∙ ap (λ (y : ℤ). y *ℤ pos 1000) (again (quot_z z (pos 1000)) (omega (arith, cut_small z)))

  pub whole_fits : SFits w32 (read (quot_z (read z) (pos 1000)) *ℤ pos 1000)
  whole_fits = subst (SFits w32) (sym whole_is) (small (omega (arith, cut_small z)))

  pub whole_read : read (read (quot_z (read z) (pos 1000)) *ℤ pos 1000) ≡ whole_db z
  whole_read = ap read whole_is ∙ again (whole_db z) (omega (arith, cut_small z))

-- ---- the ceiling

-- a projected peak is small enough that its nearest whole dB has room
pub whole_room : (z : ℤ) → nat_abs z ≤ projected_limit → nearest_whole z ≤ 3000
whole_room (pos n) h = omega arith
whole_room (negsuc n) h = omega arith
