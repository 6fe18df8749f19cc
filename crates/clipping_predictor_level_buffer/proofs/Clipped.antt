-- Clipped samples: one sample's count by its two tests, and a count is at most the samples that it is of. Assumes nothing.
use mathlib.Core.Path.{◌≡◌, refl, sym, ap, ◌∙◌}
use mathlib.Core.Bool.{Bool, true, false, ◌||◌}
use mathlib.Core.List.{List}
use Prim.Native.Nat.{ℕ, ◌≤◌}
use native.Mathlib.Omega.{arith}
use mir.Val.{bool_byte}
use lib.IntN.{pos, negsuc}
use lib.Ieee.{Float, nan, binary32, le, of_int}
use lib.ListN.{length, get_or, take, length-take}
use Rattle.clipping_predictor_level_buffer.specs.Clipped.{one_if, is_clipped, count_of, total, clipped_in}
use Rattle.clipping_predictor_level_buffer.proofs.Folds.{sum_most}

-- a count is the number of its truth value
number_is : (b : Bool) → bool_byte b ≡ one_if b
number_is true = refl
number_is false = refl

module _ (x : Float) (b : Bool) where
  count_is : b ≡ is_clipped x → bool_byte b ≡ count_of x
  unfolding count_of
  count_is e = number_is b ∙ ap one_if e

  pub count_high : b ≡ true → le (of_int binary32 (pos 32767)) x ≡ true → bool_byte b ≡ count_of x
  unfolding is_clipped
  count_high e a = count_is (e ∙ (λ i. sym a i || le x (of_int binary32 (negsuc 32767))))

  pub count_low : le (of_int binary32 (pos 32767)) x ≡ false → b ≡ le x (of_int binary32 (negsuc 32767)) → bool_byte b ≡ count_of x
  unfolding is_clipped
  count_low a e = count_is (e ∙ (λ i. sym a i || le x (of_int binary32 (negsuc 32767))))

one_if_most : (b : Bool) → one_if b ≤ 1
one_if_most true = omega arith
one_if_most false = omega arith

pub count_most : (x : Float) → count_of x ≤ 1
unfolding count_of
count_most x = one_if_most (is_clipped x)

-- "A count is at most the samples"
pub clipped_most : (xs : List Float) → clipped_in xs ≤ length xs
unfolding clipped_in total
clipped_most xs = let h = sum_most count_of nan 1 0 xs (λ i. count_most (get_or xs i nan)) in omega arith

pub clipped_before : (xs : List Float) (i : ℕ) → clipped_in (take i xs) ≤ i
clipped_before xs i = let h = clipped_most (take i xs) in let k = length-take i xs in omega arith
