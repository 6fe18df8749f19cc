-- A predictor's estimates are refused with the number of the first cause that holds. Assumes nothing.
use mathlib.Core.Path.{◌≡◌, refl, sym, ap, ◌∙◌}
use mathlib.Core.Bool.{Bool, true, false, not, ◌&&◌, ◌||◌}
use mathlib.Core.List.{List, [], ◌∷◌}
use Prim.Native.Nat.{ℕ, zero, suc, ◌-◌, ◌≤◌}
use native.Mathlib.Omega.{arith}
use lib.Dec.{leb, ltb}
use lib.IntN.{ℤ, pos, negsuc}
use lib.Signed.{lt_z, le_z}
use lib.ListN.{get_or}
use Rattle.std.specs.Prelude.{None, Option, Some}
use Rattle.numbers.specs.Natural.{within_of}
use Rattle.numbers.specs.Said.{refusal_in, said}
use Rattle.clipping_predictor.specs.Turned.{estimated, is_near}
use Rattle.clipping_predictor.specs.Estimate.{estimate_tree}
use Rattle.clipping_predictor.specs.Predictor.{Predictor}
use Rattle.clipping_predictor.specs.EstimateCall.{drop_or, given_if, given, arguments_of, estimate_of}
use Rattle.clipping_predictor.specs.declared.modes.Asked.{Asked}
use Rattle.claims.specs.Causes.{Cause, first_of, outside}
use Rattle.claims.specs.RefusedBelow.{estimate_causes}
use Rattle.claims.proofs.Causes.{above_is, or_assoc, is_outside, within_is}

abbrev eight_ten : Bool → Bool → List Cause
eight_ten a b = record { number = 8; holds = a } ∷ record { number = 10; holds = b } ∷ []

given_first : (p : Predictor) (a b : Bool) (channel : ℕ) (q : Asked) → refusal_in (said (estimate_of p (given_if (a && b) channel q))) ≡ first_of (eight_ten false (not a || not b))
unfolding estimate_of
given_first p true true channel q = refl
given_first p true false channel q = refl
given_first p false b channel q = refl

module _ (p : Predictor) (level min max : ℤ) where
  estimate_given : (l ch st mn mx : Option ℕ) → within_of 0 255 level ≡ l → within_of 0 255 min ≡ mn → within_of 0 255 max ≡ mx
      → refusal_in (said (estimate_of p (given l ch st mn mx))) ≡ first_of (eight_ten (is_outside l) (is_outside ch || (is_outside st || (is_outside mn || (is_outside mx || (lt_z max min || lt_z max level))))))
  unfolding estimate_of given
  estimate_given None ch st mn mx e f g = refl
  estimate_given (Some l) None st mn mx e f g = refl
  estimate_given (Some l) (Some ch) None mn mx e f g = refl
  estimate_given (Some l) (Some ch) (Some st) None mx e f g = refl
  estimate_given (Some l) (Some ch) (Some st) (Some mn) None e f g = refl
  estimate_given (Some l) (Some ch) (Some st) (Some mn) (Some mx) e f g =
      given_first p (leb mn mx) (leb l mx) ch _
      ∙ (λ i. first_of (eight_ten false (sym (above_is max min mx mn g f) i || sym (above_is max level mx l g e) i)))

-- a channel is unknown from the count of channels on
unknown_is : (channels : ℕ) (channel : ℤ) → 1 ≤ channels → le_z (pos channels) channel ≡ lt_z (pos (channels - 1)) channel
unknown_is zero channel h = absurd (omega arith)
unknown_is (suc n) (pos c) h = let e : n ≡ suc n - 1 = omega arith in ap (λ (k : ℕ). ltb k c) e
unknown_is (suc n) (negsuc c) h = refl

pub estimate_first : (p : Predictor) (channels : ℕ) (channel level step min max : ℤ) → 1 ≤ channels
    → refusal_in (said (estimate_of p (arguments_of channels channel level step min max))) ≡ first_of (estimate_causes channels channel level step min max)
unfolding arguments_of
estimate_first p channels channel level step min max h =
    let rest = outside (pos 1) (pos 255) step || (outside (pos 0) (pos 255) min || (outside (pos 0) (pos 255) max || (lt_z max min || lt_z max level))) in
    estimate_given p level min max (within_of 0 255 level) (within_of 0 (channels - 1) channel) (within_of 1 255 step) (within_of 0 255 min) (within_of 0 255 max) refl refl refl
    ∙ (λ i. first_of (eight_ten
    (sym (within_is 0 255 level) i)
    (sym (within_is 0 (channels - 1) channel) i || (sym (within_is 1 255 step) i || (sym (within_is 0 255 min) i || (sym (within_is 0 255 max) i || (lt_z max min || lt_z max level)))))))
    ∙ ap (λ (t : Bool). first_of (eight_ten (outside (pos 0) (pos 255) level) t))
    (sym (or_assoc (lt_z channel (pos 0)) (lt_z (pos (channels - 1)) channel) rest) ∙ ap (λ (t : Bool). lt_z channel (pos 0) || (t || rest)) (sym (unknown_is channels channel h)))
