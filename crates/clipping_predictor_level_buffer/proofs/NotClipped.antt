-- A sample whose magnitude lies below the end of the scale is not clipped, and no not-a-number is. Assumes nothing.
use mathlib.Core.Path.{◌≡◌, refl, sym, ap, ◌∙◌}
use mathlib.Core.Bool.{Bool, true, false, ◌||◌, ◌&&◌, beq}
use Prim.Native.Nat.{ℕ, ◌*◌, ◌≤◌, ◌<◌}
use native.Mathlib.Omega.{arith}
use borrow.Author.Tests.{ltb-true, lt-ltb, le-ltb, ne_eqb}
use lib.Dec.{T, eqb}
use lib.IntN.{ℤ, pos, negsuc}
use lib.Ieee.{Float, nan, inf, fin, binary32, fits, is_nan, lt, le, eq, of_int, of_bits, round, up, down, below, level}
use Rattle.numbers.proofs.Signs.{clash}
use Rattle.numbers.proofs.Truths.{both_true}
use Rattle.levels.specs.FloatParts.{magnitude_of, magnitude_bits_of}
use Rattle.levels.proofs.BitOrder.{bit_order, bits_of_magnitude, bits_within}
use Rattle.clipping_predictor_level_buffer.specs.Clipped.{one_if, is_clipped, count_of}
use Rattle.clipping_predictor_level_buffer.specs.Running.{magnitude_from, is_below, counting_four}
use Rattle.clipping_predictor_level_buffer.proofs.PeakBits.{sample_within}

upper : of_int binary32 (pos 32767) ≡ fin false 32767 (pos 0)
unfolding of_int round
upper = refl

lower : of_int binary32 (negsuc 32767) ≡ fin true 1 (pos 15)
unfolding of_int round
lower = refl

module _ (a d : ℕ) (h : a < 32767 * d) where
  apart : (s t : Bool) (x y : ℕ) → (x ≡ y → ⊥) → level s x t y ≡ false
  apart s t x y n = ap (λ (b : Bool). b && (beq s t || eqb x 0)) (ne_eqb x y n)

  not_above : (s : Bool) → (below false (32767 * 1 * d) s (a * 1) || level false (32767 * 1 * d) s (a * 1)) ≡ false
  not_above false = λ i. le-ltb (32767 * 1 * d) (a * 1) (omega arith) i || apart false false (32767 * 1 * d) (a * 1) (λ q. omega arith) i
  not_above true = apart false true (32767 * 1 * d) (a * 1) (λ q. omega arith)

  not_below : (s : Bool) → (below s (a * 1) true (1 * 32768 * d) || level s (a * 1) true (1 * 32768 * d)) ≡ false
  not_below false = apart false true (a * 1) (1 * 32768 * d) (λ q. omega arith)
  not_below true = λ i. le-ltb (1 * 32768 * d) (a * 1) (omega arith) i || apart true true (a * 1) (1 * 32768 * d) (λ q. omega arith) i

number : (s : Bool) (m : ℕ) (e : ℤ) → lt (fin false m e) (fin false 32767 (pos 0)) ≡ true → (le (fin false 32767 (pos 0)) (fin s m e) || le (fin s m e) (fin true 1 (pos 15))) ≡ false
unfolding lt eq le
number s m e h =
    let l : m * up e * 1 < 32767 * 1 * down e = ltb-true (m * up e * 1) (32767 * 1 * down e) h in
    let k : m * up e < 32767 * down e = omega (arith, l) in
    λ i. not_above (m * up e) (down e) k s i || not_below (m * up e) (down e) k s i

number_not_clipped : (s : Bool) (m : ℕ) (e : ℤ) → lt (fin false m e) (of_int binary32 (pos 32767)) ≡ true → is_clipped (fin s m e) ≡ false
unfolding is_clipped
number_not_clipped s m e h =
    (λ i. le (upper i) (fin s m e) || le (fin s m e) (lower i)) ∙ number s m e (ap (λ (k : Float). lt (fin false m e) k) (sym upper) ∙ h)

nan_not_clipped : is_clipped nan ≡ false
unfolding is_clipped lt eq le
nan_not_clipped = (λ i. le (upper i) nan || le nan (lower i))

-- the bits of 32767
abbrev end_bits : ℕ
end_bits = 1191181824

end_is : of_bits binary32 end_bits ≡ of_int binary32 (pos 32767)
unfolding of_int round of_bits
end_is = refl

infinity_above : lt (inf false) (of_int binary32 (pos 32767)) ≡ false
unfolding lt of_int round
infinity_above = refl

-- the order of the bits is that of the numbers
bits_below : (y : Float) (p : ℕ) → of_bits binary32 p ≡ y → p ≤ 255 * 8388608 → p < end_bits → lt y (of_int binary32 (pos 32767)) ≡ true
bits_below y p e w h = (λ i. lt (sym e i) (sym end_is i)) ∙ bit_order p end_bits w (omega arith) ∙ lt-ltb p end_bits h

not_clipped : (x : Float) → T (fits binary32 x) → magnitude_bits_of x < end_bits → is_clipped x ≡ false
unfolding is_nan magnitude_of
not_clipped nan f h = nan_not_clipped
not_clipped (inf s) f h = clash (sym (bits_below (inf false) _ (bits_of_magnitude (inf s) f refl) (bits_within (inf s) f refl) h) ∙ infinity_above)
not_clipped (fin s m e) f h = number_not_clipped s m e (bits_below (fin false m e) _ (bits_of_magnitude (fin s m e) f refl) (bits_within (fin s m e) f refl) h)

-- THE LAW
pub below_none : (x : Float) → T (fits binary32 x) → is_below x ≡ true → count_of x ≡ 0
unfolding count_of
below_none x f h =
    let below : magnitude_bits_of x < end_bits = ltb-true (magnitude_bits_of x) end_bits (sym (bit_order (magnitude_bits_of x) end_bits (sample_within x f) (omega arith)) ∙ ap (lt (magnitude_from x)) end_is ∙ h) in
    ap one_if (not_clipped x f below)

-- and of four samples
pub four_below : (n : ℕ) (w x y z : Float) → T (fits binary32 w) → T (fits binary32 x) → T (fits binary32 y) → T (fits binary32 z) → ((is_below w && is_below x) && (is_below y && is_below z)) ≡ true → n ≡ counting_four n w x y z
four_below n w x y z f g h k e =
    let a = both_true (is_below w && is_below x) (is_below y && is_below z) e in
    let b = both_true (is_below w) (is_below x) a.0 in
    let c = both_true (is_below y) (is_below z) a.1 in
    omega (arith, below_none w f b.0, below_none x g b.1, below_none y h c.0, below_none z k c.1)
