-- Sets of volumes: their numbers place by place, and their lowest. Assumes nothing.
use mathlib.Core.Path.{◌≡◌, refl, sym, ap, ◌∙◌}
use mathlib.Core.List.{List, [], ◌∷◌}
use Prim.Native.Nat.{ℕ, zero, suc, ◌+◌, ◌≤◌, ◌<◌, min}
use native.Mathlib.Nat.{not-suc-le-zero, le_of_suc-le-suc}
use native.Mathlib.Omega.{arith}
use lib.IntN.{ℤ, pos}
use Rattle.std.specs.Prelude.{Option, Some, None}
use lib.ListN.{length, get_or, drop, replicate, get_or-replicate, length-replicate}
use Rattle.numbers.specs.Natural.{within_of}
use Rattle.numbers.specs.Listed.{listed}
use Rattle.numbers.proofs.Listed.{drop_listed, drop_past, listed_same, listed_constant}
use Rattle.clipping_predictor.specs.Predictor.{max_channels}
use Rattle.mono_input_volume_controller.specs.MonoState.{max_input_volume}
use Rattle.input_volume_controller.specs.Volumes.{outside_set, number_set, and_volume, equal_volumes, numbers_of, lowest_from, lowest_of}
use Rattle.input_volume_controller.specs.VolumeSet.{level_at}
use Rattle.input_volume_controller.proofs.SetNumbers.{equal_numbers}

-- ---- the numbers of a set

abbrev pub number_at : List ℤ → ℕ → Option ℕ
number_at volumes i = within_of 0 max_input_volume (get_or volumes i (pos 0))

-- each volume is a number
pub numbers_listed : (volumes : List ℤ) (f : ℕ → ℕ) → ((i : ℕ) → i < length volumes → number_at volumes i ≡ Some (f i)) → number_set (listed f (length volumes)) ≡ numbers_of volumes
unfolding numbers_of listed
numbers_listed [] f h = refl
numbers_listed (volume ∷ volumes) f h =
    let rest = numbers_listed volumes (λ i. f (suc i)) (λ i k. h (suc i) (omega arith)) in
    sym (λ j. and_volume (h 0 (omega arith) j) (sym rest j))

-- one is not
after_one : (volume : Option ℕ) → and_volume volume outside_set ≡ outside_set
after_one None = refl
after_one (Some n) = refl

pub numbers_outside : (volumes : List ℤ) (i : ℕ) → i < length volumes → number_at volumes i ≡ None → outside_set ≡ numbers_of volumes
unfolding numbers_of
numbers_outside [] i h e = absurd (not-suc-le-zero h)
numbers_outside (volume ∷ volumes) zero h e = sym (ap (λ (n : Option ℕ). and_volume n (numbers_of volumes)) e)
numbers_outside (volume ∷ volumes) (suc i) h e =
    sym (ap (and_volume (within_of 0 max_input_volume volume)) (sym (numbers_outside volumes i (le_of_suc-le-suc h) e)) ∙ after_one (within_of 0 max_input_volume volume))

-- ---- equal volumes

module _ (volume : ℤ) (channels : ℕ) where
  -- as the bytes of a set have them
  pub equal_bytes : (level : ℕ) → length (equal_volumes volume channels) ≤ max_channels → within_of 0 max_input_volume volume ≡ Some level
      → number_set (listed (level_at (replicate max_channels level)) (length (equal_volumes volume channels))) ≡ numbers_of (equal_volumes volume channels)
  equal_bytes level h e =
      let n = length-replicate channels volume in
      ap number_set (listed_same _ (λ _. level) (length (equal_volumes volume channels)) (λ i k. get_or-replicate max_channels i level 0 (omega arith)) ∙ listed_constant level (length (equal_volumes volume channels)) ∙ ap (λ (m : ℕ). replicate m level) n)
      ∙ sym (equal_numbers volume level channels e)

  pub equal_outside : 1 ≤ length (equal_volumes volume channels) → within_of 0 max_input_volume volume ≡ None → outside_set ≡ numbers_of (equal_volumes volume channels)
  equal_outside h e =
      numbers_outside (equal_volumes volume channels) 0 h (ap (within_of 0 max_input_volume) (get_or-replicate channels 0 volume (pos 0) (omega (arith, length-replicate channels volume))) ∙ e)

-- ---- the lowest

starts : (f : ℕ → ℕ) (n : ℕ) → 1 ≤ n → lowest_from (f 0) (drop 1 (listed f n)) ≡ lowest_of (listed f n)
unfolding lowest_of listed
starts f zero h = absurd (not-suc-le-zero h)
starts f (suc n) h = refl

module _ (f : ℕ → ℕ) (n : ℕ) where
  pub lowest_starts : 1 ≤ n → lowest_from (f 0) (drop 1 (listed f n)) ≡ lowest_of (listed f n)
  lowest_starts h = starts f n h

  pub lowest_goes_on : (low i : ℕ) → i < n → lowest_from (min low (f i)) (drop (i + 1) (listed f n)) ≡ lowest_from low (drop i (listed f n))
  unfolding lowest_from
  lowest_goes_on low i h = sym (ap (lowest_from low) (drop_listed f n i h))

  pub lowest_ends : (low i : ℕ) → n ≤ i → lowest_from low (drop i (listed f n)) ≡ low
  unfolding lowest_from
  lowest_ends low i h = ap (lowest_from low) (drop_past f n i h)
