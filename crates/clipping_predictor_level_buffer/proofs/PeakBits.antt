-- The largest of the magnitudes' bits is the bits of the largest magnitude. Assumes nothing.
use mathlib.Core.Path.{◌≡◌, refl, sym, ap, ◌∙◌}
use mathlib.Core.Bool.{Bool, false}
use mathlib.Core.List.{List, [], ◌∷◌, map, foldl}
use Prim.Native.Nat.{ℕ, suc, ◌≤◌, max}
use native.Mathlib.Nat.{max-eq_left, max-eq_right, le_of_lt}
use native.Mathlib.Omega.{arith}
use native.Mathlib.Decide.{dec_lt}
use borrow.Author.Tests.{lt-ltb, le-ltb}
use lib.Dec.{T}
use lib.Ieee.{Float, nan, inf, fin, binary32, fits, is_nan, lt, of_bits}
use lib.ListN.{get_or}
use Rattle.levels.specs.FloatParts.{magnitude_of, magnitude_bits_of}
use Rattle.levels.proofs.BitOrder.{infinity_bits, bit_order, bits_of_magnitude, bits_within}
use Rattle.clipping_predictor_level_buffer.specs.Statistics.{plus_zero, second_if, larger, largest}
use Rattle.clipping_predictor_level_buffer.specs.Running.{peak_bits, Stands, with_sample}

pub larger_stands : (p q : ℕ) (x y : Float) → Stands p x → Stands q y → Stands (max p q) (larger x y)
larger_stands p q x y s t =
    let order : lt x y ≡ lt (of_bits binary32 p) (of_bits binary32 q) = λ i. lt (sym s.is i) (sym t.is i) in
    elim (dec_lt p q) [
      | yes h ↦ record { is = ap (of_bits binary32) (max-eq_right (le_of_lt h)) ∙ t.is ∙ sym (ap (λ (b : Bool). second_if b x y) (order ∙ bit_order p q s.within t.within ∙ lt-ltb p q h)); within = omega (arith, h, s.within, t.within) }
      | no h ↦
          let k : q ≤ p = omega (arith, h) in
          record { is = ap (of_bits binary32) (max-eq_left k) ∙ s.is ∙ sym (ap (λ (b : Bool). second_if b x y) (order ∙ bit_order p q s.within t.within ∙ le-ltb p q k)); within = omega (arith, k, s.within, t.within) }
    ]

-- a not-a-number is passed over
nan_passed : (p : ℕ) (x : Float) → Stands p x → Stands (max p (magnitude_bits_of nan)) (larger x (magnitude_of nan))
unfolding magnitude_of magnitude_bits_of
nan_passed p x s = record { is = ap (of_bits binary32) (max-eq_left {n = p} {m = 0} (omega arith)) ∙ s.is ∙ sym (ap (λ (b : Bool). second_if b x nan) (never x)); within = omega (arith, s.within) }
  where
    never : (x : Float) → lt x nan ≡ false
    never nan = unfold lt in refl
    never (inf s) = unfold lt in refl
    never (fin s m e) = unfold lt in refl

next : (p : ℕ) (x y : Float) → T (fits binary32 y) → Stands p x → Stands (max p (magnitude_bits_of y)) (larger x (magnitude_of y))
unfolding is_nan
next p x nan f s = nan_passed p x s
next p x (inf t) f s = larger_stands p (magnitude_bits_of (inf t)) x (magnitude_of (inf t)) s (record { is = bits_of_magnitude (inf t) f refl; within = bits_within (inf t) f refl })
next p x (fin t m e) f s = larger_stands p (magnitude_bits_of (fin t m e)) x (magnitude_of (fin t m e)) s (record { is = bits_of_magnitude (fin t m e) f refl; within = bits_within (fin t m e) f refl })

all : (xs : List Float) → ((i : ℕ) → T (fits binary32 (get_or xs i nan))) → (p : ℕ) (x : Float) → Stands p x → Stands (foldl max p (map magnitude_bits_of xs)) (foldl larger x (map magnitude_of xs))
all [] f p x s = s
all (y ∷ xs) f p x s = all xs (λ i. f (suc i)) (max p (magnitude_bits_of y)) (larger x (magnitude_of y)) (next p x y (f 0) s)

pub peak_stands : (xs : List Float) → ((i : ℕ) → T (fits binary32 (get_or xs i nan))) → Stands (peak_bits xs) (largest (map magnitude_of xs))
unfolding peak_bits largest of_bits
peak_stands xs f = all xs f 0 plus_zero (record { is = refl; within = omega arith })

-- a sample's own bits stand for what a peak is compared with
of_sample : (y : Float) → T (fits binary32 y) → Stands (magnitude_bits_of y) (of_bits binary32 (magnitude_bits_of y))
unfolding is_nan magnitude_bits_of
of_sample nan f = record { is = refl; within = omega arith }
of_sample (inf s) f = record { is = refl; within = bits_within (inf s) f refl }
of_sample (fin s m e) f = record { is = refl; within = bits_within (fin s m e) f refl }

pub sample_within : (y : Float) → T (fits binary32 y) → magnitude_bits_of y ≤ infinity_bits
sample_within y f = (of_sample y f).within

pub with_sample_lem : (p : ℕ) (x y : Float) → T (fits binary32 y) → Stands p x → Stands (max p (magnitude_bits_of y)) (with_sample x y)
with_sample_lem p x y f s = larger_stands p (magnitude_bits_of y) x (of_bits binary32 (magnitude_bits_of y)) s (of_sample y f)

pub zero_stands : Stands 0 plus_zero
unfolding of_bits
zero_stands = record { is = refl; within = omega arith }
