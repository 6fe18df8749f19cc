-- The test against the nearest whole dB is the ceiling, and it is near exactly where P lies within the near distance of a whole dB from 0 to 14. Assumes nothing.
use mathlib.Core.Path.{◌≡◌, refl, ap, ◌∙◌}
use mathlib.Core.Bool.{Bool, true, false, ◌&&◌, cond}
use Prim.Native.Nat.{ℕ, zero, suc, ◌+◌, ◌-◌, ◌*◌, ◌/◌, ◌≤◌, ◌<◌}
use native.Mathlib.Omega.{arith}
use native.Mathlib.Decide.{dec_le}
use lib.Dec.{ltb}
use lib.IntN.{ℤ, pos, negsuc, nat_abs, ◌-ℤ◌}
use borrow.Author.Tests.{le-leb, lt-leb, leb-true, lt-ltb, ltb-true, ltb-false}
use Rattle.numbers.proofs.Truths.{both_true}
use Rattle.levels.specs.declared.decibels.Decibels.TheVariants.{Finite}
use Rattle.levels.specs.Decibels.{near, within, near_distance}
use Rattle.clipping_predictor.specs.declared.modes.Asked.{Asked}
use Rattle.clipping_predictor.specs.Tree.{leaf, test, reached}
use Rattle.clipping_predictor.specs.Estimate.{adaptive_drop, max_gain_change, nearest_whole, ceiling_tree}

-- the ceiling of z thousandths, in whole dB from 0 up
abbrev pub ceiling : ℤ → ℕ
ceiling (pos n) = (n + 999) / 1000
ceiling (negsuc n) = 0

-- THE CEILING
pub is_ceiling : (a : Asked) (z : ℤ) → reached (ceiling_tree a z (nearest_whole z)) ≡ adaptive_drop a (ceiling z)
unfolding reached
is_ceiling a (pos n) =
    let k = (n + 500) / 1000 in
    let m = ltb k max_gain_change && near (Finite (pos n)) (Finite (pos (k * 1000))) in
    elim (dec_le n (k * 1000)) [
      | yes h ↦ ap reached (λ i. test (le-leb n (k * 1000) h i) m (leaf (adaptive_drop a k)) (leaf (adaptive_drop a (k + 1)))) ∙ ap (adaptive_drop a) (omega arith)
      | no h ↦ ap reached (λ i. test (lt-leb n (k * 1000) (omega (arith, h)) i) m (leaf (adaptive_drop a k)) (leaf (adaptive_drop a (k + 1)))) ∙ ap (adaptive_drop a) (omega (arith, h))
    ]
is_ceiling a (negsuc n) = refl

-- ---- whether it is near

abbrev pub near_ceiling : ℤ → Bool
near_ceiling z = ltb (nearest_whole z) max_gain_change && near (Finite z) (Finite (pos (nearest_whole z * 1000)))

-- z lies within the near distance of k whole dB
abbrev pub Close : ℤ → ℕ → Type 0
Close z k = nat_abs (z -ℤ pos (k * 1000)) ≤ near_distance

-- near means that the nearest whole dB is one from 0 to 14 and within the near distance
pub near_means : (z : ℤ) → near_ceiling z ≡ true → (nearest_whole z < max_gain_change) × Close z (nearest_whole z)
unfolding within
near_means z e =
    let p = both_true (ltb (nearest_whole z) max_gain_change) (near (Finite z) (Finite (pos (nearest_whole z * 1000)))) e in
    (ltb-true (nearest_whole z) max_gain_change p.0, leb-true (nat_abs (z -ℤ pos (nearest_whole z * 1000))) near_distance p.1)

-- the distance of two numbers, and of a negative number from a whole one
apart_pos : (n m k : ℕ) → nat_abs (pos n -ℤ pos m) ≤ k → (n ≤ m + k) × (m ≤ n + k)
apart_pos n zero k h = omega (arith, h)
apart_pos n (suc m) k h = go (ltb n (suc m)) refl h
  where
    go : (b : Bool) → ltb n (suc m) ≡ b → nat_abs (cond b (negsuc (suc m - suc n)) (pos (n - suc m))) ≤ k → (n ≤ suc m + k) × (suc m ≤ n + k)
    go true e l = let q = ltb-true n (suc m) e in omega (arith, l)
    go false e l = let q = ltb-false n (suc m) e in omega (arith, l)

pub close_nearest : (z : ℤ) (k : ℕ) → Close z k → nearest_whole z ≡ k
close_nearest (pos n) k h = let p = apart_pos n (k * 1000) near_distance h in omega (arith, p.0, p.1)
close_nearest (negsuc n) zero h = refl
close_nearest (negsuc n) (suc k) h = absurd (far n (suc k * 1000) (omega arith) h)
  where
    far : (n m : ℕ) → 1000 ≤ m → nat_abs (negsuc n -ℤ pos m) ≤ near_distance → ⊥
    far n zero l d = omega arith
    far n (suc m) l d = omega (arith, d)

-- and a P within the near distance of any of them is near: that one is the nearest
pub near_all : (z : ℤ) (k : ℕ) → k < max_gain_change → Close z k → near_ceiling z ≡ true
unfolding within
near_all z k h c =
    let e = close_nearest z k c in
    (λ i. ltb (e i) max_gain_change && near (Finite z) (Finite (pos (e i * 1000))))
    ∙ (λ i. lt-ltb k max_gain_change h i && le-leb (nat_abs (z -ℤ pos (k * 1000))) near_distance c i)
