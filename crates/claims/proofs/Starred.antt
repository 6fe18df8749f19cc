-- The starred cases hold: each is computed, but those of the clipped samples and of the user's volume, which say something of every frame and of every volume. Assumes nothing.
use mathlib.Core.Path.{◌≡◌, refl, ap, ◌∙◌}
use mathlib.Core.Bool.{Bool, true, false}
use mathlib.Core.List.{List}
use Prim.Native.Nat.{ℕ, ◌+◌, ◌<◌}
use native.Mathlib.Omega.{arith}
use lib.IntN.{pos}
use lib.Ieee
use lib.Ieee.{Float, binary32, lt, div, of_int}
use Rattle.numbers.specs.Natural.{within_of}
use Rattle.numbers.specs.First.{searched, first}
use Rattle.numbers.specs.Sign.{signed}
use Rattle.levels.specs.Rounding.{half_up, round_of}
use Rattle.levels.specs.Decibels.{within}
use Rattle.gain_map.specs.GainMap.{gain_map, gain}
use Rattle.gain_map.specs.VolumeUpdate.{rise, fall, walk, stepped, volume_update_of}
use Rattle.clipping_predictor.specs.Tree.{reached}
use Rattle.clipping_predictor.specs.Estimate.{drop_by, adaptive_drop}
use Rattle.mono_input_volume_controller.specs.SpeechLevel.{held, error_of, rms_error_of}
use Rattle.mono_input_volume_controller.specs.Mono.{is_users}
use Rattle.mono_input_volume_controller.proofs.Users.{apart, users_exactly}
use Rattle.clipping_predictor.specs.MostClipped.{most_clipped}
use Rattle.input_volume_controller.specs.ClippedRatio.{clipped_ratio_of}
use Rattle.claims.specs.Starred.{tenth, StarredCases}

-- the ratio of a frame of 480 samples is that of its most clipped channel
by_most : (n channels : ℕ) (frame : List Float) → most_clipped channels 480 frame ≡ n
    → lt tenth (clipped_ratio_of channels 480 frame) ≡ lt tenth (div binary32 (of_int binary32 (pos n)) (of_int binary32 (pos 480)))
unfolding clipped_ratio_of
by_most n channels frame e = ap (λ (m : ℕ). lt tenth (div binary32 (of_int binary32 (pos m)) (of_int binary32 (pos 480)))) e

-- a difference of 25 is not the user's
is_false : (t : Bool) → (t ≡ true → ⊥) → t ≡ false
is_false true h = absurd (h refl)
is_false false h = refl

not_users : (last here : ℕ) → apart last here < 26 → is_users last here ≡ false
not_users last here h = is_false (is_users last here) (λ e. omega (arith, (users_exactly last here).0 e))

users : (last here : ℕ) → 25 < apart last here → is_users last here ≡ true
users last here h = (users_exactly last here).1 h

-- one case and the rest
infixr 20 ◌and◌
◌and◌ : {A B : Type 0} → A → B → A × B
◌and◌ a b = (a, b)

pub starred_cases : StarredCases
unfolding volume_update_of stepped walk rise fall first searched within_of gain gain_map rms_error_of held error_of round_of signed half_up Ieee.of_bits Ieee.of_int Ieee.sub Ieee.div Ieee.lt reached adaptive_drop drop_by within
starred_cases =
    refl
    and refl
    and refl
    and refl
    and refl
    and refl
    and refl
    and refl
    and refl
    and (λ channels frame e. by_most 48 channels frame e ∙ refl)
    and (λ channels frame e. by_most 49 channels frame e ∙ refl)
    and refl
    and refl
    and (λ last. not_users last (last + 25) (omega arith), λ here. not_users (here + 25) here (omega arith))
    and (λ last. users last (last + 26) (omega arith), λ here. users (here + 26) here (omega arith))
    and tt
