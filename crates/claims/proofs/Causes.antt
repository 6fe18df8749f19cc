-- The tests of the table are the tests of the definitions. Assumes nothing.
use mathlib.Core.Path.{◌≡◌, refl, ap, ◌∙◌}
use mathlib.Core.Bool.{Bool, true, false, not, ◌&&◌, ◌||◌}
use mathlib.Core.List.{List, [], ◌∷◌}
use Prim.Native.Nat.{ℕ, ◌*◌}
use lib.Dec.{leb, ltb, eqb}
use lib.IntN.{ℤ, pos, negsuc}
use lib.Signed.{lt_z, le_z}
use lib.Ieee.{Float}
use lib.ListN.{length}
use borrow.Author.Tests.{leb-true, leb-false, le-ltb, lt-ltb}
use Rattle.std.specs.Prelude.{None, Option, Some}
use Rattle.numbers.specs.Natural.{number_if, within_of}
use Rattle.numbers.proofs.Ranges.{told}
use Rattle.clipping_predictor.specs.Predictor.{frame_fits}
use Rattle.mono_input_volume_controller.specs.Config.{in_range, both_in_range, in_unit, both_in_unit}
use Rattle.mono_input_volume_controller.specs.MonoState.{max_input_volume}
use Rattle.input_volume_controller.specs.declared.limits.Limits.{Limits}
use Rattle.input_volume_controller.specs.Volumes.{Volumes, outside_set, number_set, and_volume, are_numbers, numbers_of}
use Rattle.input_volume_controller.specs.Limits.{is_within}
use Rattle.claims.specs.Causes.{Cause, outside, any_outside, outside_unit, is_over, frame_causes}

-- ---- the order

less_by : (a b : ℕ) (t : Bool) → leb a b ≡ t → ltb b a ≡ not t
less_by a b true e = le-ltb b a (leb-true a b e)
less_by a b false e = lt-ltb b a (leb-false a b e)

pub less_is : (a b : ℕ) → ltb b a ≡ not (leb a b)
less_is a b = less_by a b (leb a b) refl

pub less_z_is : (a b : ℤ) → lt_z b a ≡ not (le_z a b)
less_z_is (pos a) (pos b) = less_is a b
less_z_is (pos a) (negsuc b) = refl
less_z_is (negsuc a) (pos b) = refl
less_z_is (negsuc a) (negsuc b) = less_is b a

pub either : (a b : Bool) → not a || not b ≡ not (a && b)
either true b = refl
either false b = refl

pub or_true : (a : Bool) → a || true ≡ true
or_true true = refl
or_true false = refl

pub or_false : (a : Bool) → a || false ≡ a
or_false true = refl
or_false false = refl

pub or_assoc : (a b c : Bool) → a || (b || c) ≡ (a || b) || c
or_assoc true b c = refl
or_assoc false b c = refl

-- ---- ranges

pub outside_is : (low high x : ℤ) → outside low high x ≡ not (in_range low high x)
unfolding in_range
outside_is low high x = (λ i. less_z_is low x i || less_z_is x high i) ∙ either (le_z low x) (le_z x high)

pub one_outside_is : (low high x y : ℤ) → outside low high x || outside low high y ≡ not (both_in_range low high x y)
unfolding both_in_range
one_outside_is low high x y = (λ i. outside_is low high x i || outside_is low high y i) ∙ either (in_range low high x) (in_range low high y)

pub one_outside_unit : (x y : Float) → outside_unit x || outside_unit y ≡ not (both_in_unit x y)
unfolding both_in_unit in_unit
one_outside_unit x y = either (in_unit x) (in_unit y)

-- a number that must lie in a range
abbrev pub is_outside : Option ℕ → Bool
is_outside None = true
is_outside (Some n) = false

number_if_lem : (t : Bool) (n : ℕ) → not t ≡ is_outside (number_if t n)
number_if_lem true n = refl
number_if_lem false n = refl

pub within_is : (low high : ℕ) (x : ℤ) → outside (pos low) (pos high) x ≡ is_outside (within_of low high x)
unfolding within_of in_range
within_is low high (pos n) = outside_is (pos low) (pos high) (pos n) ∙ number_if_lem (leb low n && leb n high) n
within_is low high (negsuc n) = refl

-- of two volumes, one lies above the other
pub above_is : (x y : ℤ) (m n : ℕ) → within_of 0 255 x ≡ Some m → within_of 0 255 y ≡ Some n → lt_z x y ≡ not (leb n m)
above_is x y m n p q = (λ i. lt_z ((told 0 255 x m p).is i) ((told 0 255 y n q).is i)) ∙ less_is n m

-- ---- the size of a frame

pub misfit_is : (channels samples : ℕ) (lent : List Float) → ltb samples 1 || (ltb 480 samples || not (eqb (length lent) (channels * samples))) ≡ not (frame_fits channels samples lent)
unfolding frame_fits
misfit_is channels samples lent =
    let c = eqb (length lent) (channels * samples) in
    (λ i. less_is 1 samples i || (less_is samples 480 i || not c))
    ∙ ap (λ (t : Bool). not (leb 1 samples) || t) (either (leb samples 480) c)
    ∙ either (leb 1 samples) (leb samples 480 && c)

-- ---- a set of volumes

one_more : (v : Option ℕ) (s : Volumes) → is_outside v || not (are_numbers s) ≡ not (are_numbers (and_volume v s))
one_more None s = refl
one_more (Some n) outside_set = refl
one_more (Some n) (number_set ns) = refl

pub set_is : (volumes : List ℤ) → any_outside volumes ≡ not (are_numbers (numbers_of volumes))
unfolding numbers_of
set_is [] = refl
set_is (volume ∷ volumes) = (λ i. within_is 0 255 volume i || set_is volumes i) ∙ one_more (within_of 0 max_input_volume volume) (numbers_of volumes)

-- ---- the limits of an entry

pub over_is : (most : Limits) (channels samples : ℕ) → is_over most channels samples ≡ not (is_within most channels samples)
over_is most channels samples = (λ i. less_is channels most.channels i || less_is samples most.samples i) ∙ either (leb channels most.channels) (leb samples most.samples)

-- ---- a frame

-- causes 20, 8, 9 and 18 from their outcomes
abbrev pub frame_causes_by : Bool → Bool → Bool → Bool → List Cause
frame_causes_by a b c d = record { number = 20; holds = a } ∷ record { number = 8; holds = b } ∷ record { number = 9; holds = c } ∷ record { number = 18; holds = d } ∷ []

pub frame_causes_lem : (most : Limits) (channels : ℕ) (volumes : List ℤ) (samples : ℕ) (lent : List Float)
    → frame_causes most channels volumes samples lent
    ≡ frame_causes_by (not (eqb (length volumes) channels)) (not (are_numbers (numbers_of volumes))) (not (frame_fits channels samples lent)) (not (is_within most channels samples))
frame_causes_lem most channels volumes samples lent = λ i. frame_causes_by (not (eqb (length volumes) channels)) (set_is volumes i) (misfit_is channels samples lent i) (over_is most channels samples i)
