-- A frame with equal volumes is document 01's frame with one volume. Assumes nothing.
use mathlib.Core.Path.{◌≡◌, refl, sym, ap, ◌∙◌}
use mathlib.Core.Bool.{Bool, true, false}
use mathlib.Core.List.{List}
use Prim.Native.Nat.{ℕ, zero, suc, ◌≤◌, min}
use native.Mathlib.Nat.{not-suc-le-zero}
use native.Mathlib.Omega.{arith}
use lib.IntN.{ℤ}
use lib.Ieee.{Float}
use lib.ListN.{length, replicate, length-replicate}
use borrow.Author.Tests.{eq-eqb}
use Rattle.std.specs.Prelude.{None, Option, Some}
use Rattle.numbers.specs.Natural.{within_of}
use Rattle.clipping_predictor.specs.Predictor.{max_channels, frame_fits}
use Rattle.mono_input_volume_controller.specs.MonoState.{max_input_volume}
use Rattle.input_volume_controller.specs.Volumes.{equal_volumes, Volumes, number_set, are_numbers, numbers_of, numbers_in, lowest_from, lowest_of}
use Rattle.input_volume_controller.specs.Limits.{plain_limits, is_within}
use Rattle.input_volume_controller.specs.Control.{Control, with_applied, with_channels}
use Rattle.input_volume_controller.specs.ControlCalls.{aggregated, with_applied_input_volumes}
use Rattle.input_volume_controller.specs.Controller.{Controller}
use Rattle.input_volume_controller.specs.Reply.{Stepped}
use Rattle.input_volume_controller.specs.Frame.{tested_as, if_used, unless_refused, analyze_input_audio}
use Rattle.input_volume_controller.proofs.Sets.{equal_outside}
use Rattle.input_volume_controller.proofs.SetNumbers.{equal_numbers}
use Rattle.claims.specs.OneVolume.{with_applied_input_volume, unless_one_refused, analyze_with_one_volume, OneVolume}
use Rattle.claims.proofs.Outcomes.{plain_within}
use Rattle.claims.proofs.Sets.{given_all}

-- ---- the channels

min_same : (v : ℕ) → min v v ≡ v
min_same v = omega arith

lowest_from_equal : (v n : ℕ) → lowest_from v (replicate n v) ≡ v
unfolding lowest_from
lowest_from_equal v zero = refl
lowest_from_equal v (suc n) = ap (λ (x : ℕ). lowest_from x (replicate n v)) (min_same v) ∙ lowest_from_equal v n

lowest_of_equal : (v n : ℕ) → 1 ≤ n → lowest_of (replicate n v) ≡ v
unfolding lowest_of
lowest_of_equal v zero h = absurd (not-suc-le-zero h)
lowest_of_equal v (suc n) h = lowest_from_equal v n

applied_equal : (v : ℕ) (c : Control) → 1 ≤ length c.channels → with_applied_input_volumes (replicate (length c.channels) v) c ≡ with_applied_input_volume v c
unfolding with_applied_input_volumes with_applied_input_volume
applied_equal v c h = λ i. aggregated (with_applied (Some (lowest_of_equal v (length c.channels) h i)) (with_channels (given_all v c.channels i) c))

-- ---- the frame

module _ (samples : ℕ) (lent : List Float) (c : Controller) (low : 1 ≤ length c.control.channels) (high : length c.control.channels ≤ max_channels) where
  abbrev n : ℕ
  n = length c.control.channels

  -- by the tests that are left for these volumes
  abbrev heard : Volumes → Bool → Stepped
  heard volumes fits = unless_refused (tested_as true (are_numbers volumes) fits (is_within plain_limits n samples)) (numbers_in volumes) samples lent c

  fits_if : (v : ℕ) (fits : Bool) → frame_fits n samples lent ≡ fits → heard (number_set (replicate n v)) fits ≡ unless_one_refused (Some v) fits samples lent c
  fits_if v false e = refl
  fits_if v true e =
      ap (λ (within : Bool). unless_refused (tested_as true true true within) (replicate n v) samples lent c) (plain_within n samples lent high e)
      ∙ ap (λ (d : Control). if_used c.control.used samples lent (record { control = d; predictor = c.predictor })) (applied_equal v c.control low)

  framed : (volume : ℤ) (v : Option ℕ) → within_of 0 max_input_volume volume ≡ v → (fits : Bool) → frame_fits n samples lent ≡ fits
      → heard (numbers_of (equal_volumes volume n)) fits ≡ unless_one_refused v fits samples lent c
  framed volume None e fits f = ap (λ (s : Volumes). heard s fits) (sym (equal_outside volume n (omega (arith, low, length-replicate n volume)) e))
  framed volume (Some v) e fits f = ap (λ (s : Volumes). heard s fits) (equal_numbers volume v n e) ∙ fits_if v fits f

-- THE CLAIM
pub one_volume : OneVolume
unfolding analyze_input_audio analyze_with_one_volume
one_volume c volume samples lent low high =
    let n = length c.control.channels in
    let volumes = equal_volumes volume n in
    let fits = frame_fits n samples lent in
    ap (λ (counted : Bool). unless_refused (tested_as counted (are_numbers (numbers_of volumes)) fits (is_within plain_limits n samples)) (numbers_in (numbers_of volumes)) samples lent c)
    (eq-eqb (length volumes) n (length-replicate n volume))
    ∙ framed samples lent c low high volume (within_of 0 max_input_volume volume) refl fits refl
