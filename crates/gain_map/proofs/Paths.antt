-- One lemma for each path through the definitions that go by the sign of a number or by a refusal: the tests that lead there, and the value. Assumes nothing.
use mathlib.Core.Path.{◌≡◌, refl, sym}
use mathlib.Core.Bool.{true, false}
use Prim.Native.Nat.{ℕ, zero, suc, ◌≤◌, ◌<◌}
use native.Mathlib.Omega.{arith}
use lib.IntN.{ℤ, pos, negsuc, neg_ℤ, nat_abs}
use lib.Signed.{lt_z}
use borrow.Author.Tests.{le-leb, lt-leb, ltb-true, ltb-false}
use Rattle.std.specs.Prelude.{Err, None, Ok, Some}
use Rattle.numbers.specs.declared.refusal.Refusal.TheVariants.{MinimumVolume, InputVolume, EstimateRange}
use Rattle.numbers.specs.Natural.{within_of}
use Rattle.numbers.proofs.Signs.{clash}
use Rattle.gain_map.specs.VolumeUpdate.{rise, fall, walk, stepped, volume_update_of}

-- ---- the walk, by the sign of the wanted change, which the two walks take without its sign
module _ (volume min max : ℕ) where
  pub walk_up : (z : ℤ) → lt_z (pos 0) z ≡ true → rise (pos (nat_abs z)) volume max ≡ walk z volume min max
  unfolding walk
  walk_up (pos zero) t = clash (sym t)
  walk_up (pos (suc n)) t = refl
  walk_up (negsuc n) t = clash (sym t)

  pub walk_down : (z : ℤ) → lt_z z (pos 0) ≡ true → fall (neg_ℤ (pos (nat_abs z))) volume min ≡ walk z volume min max
  unfolding walk
  walk_down (pos n) t = let h = ltb-true n 0 t in absurd (omega arith)
  walk_down (negsuc n) t = refl

  pub walk_none : (z : ℤ) → lt_z (pos 0) z ≡ false → lt_z z (pos 0) ≡ false → volume ≡ walk z volume min max
  unfolding walk
  walk_none (pos zero) t u = refl
  walk_none (pos (suc n)) t u = let h = ltb-false 0 (suc n) t in absurd (omega arith)
  walk_none (negsuc n) t u = clash u

-- ---- the volume step, by what its three volumes are
module _ (wanted volume min max : ℤ) where
  pub no_minimum : within_of 0 255 min ≡ None → Err MinimumVolume ≡ volume_update_of wanted volume min max
  unfolding volume_update_of stepped
  no_minimum a = rw a

  module _ (low : ℕ) (a : within_of 0 255 min ≡ Some low) where
    pub no_volume : within_of 0 255 volume ≡ None → Err InputVolume ≡ volume_update_of wanted volume min max
    unfolding volume_update_of stepped
    no_volume b = rw (a, b)

    module _ (here : ℕ) (b : within_of 0 255 volume ≡ Some here) where
      pub no_maximum : within_of 0 255 max ≡ None → Err EstimateRange ≡ volume_update_of wanted volume min max
      unfolding volume_update_of stepped
      no_maximum d = rw (a, b, d)

      module _ (high : ℕ) (d : within_of 0 255 max ≡ Some high) where
        pub above_maximum : high < here → Err EstimateRange ≡ volume_update_of wanted volume min max
        unfolding volume_update_of stepped
        above_maximum h = rw (a, b, d, lt-leb here high h)

        pub steps_to : here ≤ high → Ok (pos (walk wanted here low high)) ≡ volume_update_of wanted volume min max
        unfolding volume_update_of stepped
        steps_to h = rw (a, b, d, le-leb here high h)
