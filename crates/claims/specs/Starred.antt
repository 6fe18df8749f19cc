-- The starred cases of document 01, "At each edge", as one table, and what each says of the definitions. No other case of that section is a theorem: a program runs and checks those.
-- They reach the code by the contracts of the functions that compute these definitions: `compute_volume_update`, `get_speech_level_rms_error_db`, `compute_clipped_ratio`, `estimate_for` and
-- `is_users`. Definitions only.
use Rattle.std.specs.Prelude.{◌≡◌, Bool, true, false, List, [], ◌∷◌, ℕ, ◌+◌, ℤ, pos, negsuc, Float, Ok, Some}
use Rattle.std.specs.Float.{binary32}
use Rattle.std.specs.Float.Ieee.{lt, of_bits}
use Rattle.levels.specs.declared.decibels.Decibels.TheVariants.{Finite}
use Rattle.gain_map.specs.VolumeUpdate.{volume_update_of}
use Rattle.clipping_predictor.specs.declared.modes.Asked.{Asked}
use Rattle.clipping_predictor.specs.Tree.{reached}
use Rattle.clipping_predictor.specs.Estimate.{adaptive_tree}
use Rattle.mono_input_volume_controller.specs.SpeechLevel.{rms_error_of}
use Rattle.clipping_predictor.specs.MostClipped.{most_clipped}
use Rattle.input_volume_controller.specs.ClippedRatio.{clipped_ratio_of}
use Rattle.mono_input_volume_controller.specs.Mono.{is_users}

pub data Case : Type 0 where
  -- a volume, a wanted change, and where the step leads
  volume_step : ℕ → ℤ → ℕ → Case
  -- a speech level, by its bits, and its error
  speech_error : ℕ → ℤ → Case
  -- how many samples of 480 are clipped, and whether that is above 0.1
  clipped : ℕ → Bool → Case
  -- P in thousandths, and the drop
  adaptive : ℤ → ℕ → Case
  -- how far a volume differs from the last, and whether it is the user's
  difference : ℕ → Bool → Case

-- `negsuc n` is -(n + 1)
abbrev pub table : List Case
table =
    -- "100 by +5 is 116*; 100 by -5 is 88*; 250 by +15 is 255*; 25 by -15 is 20*; 10 by -3 is 10*"
    volume_step 100 (pos 5) 116
    ∷ volume_step 100 (negsuc 4) 88
    ∷ volume_step 250 (pos 15) 255
    ∷ volume_step 25 (negsuc 14) 20
    ∷ volume_step 10 (negsuc 2) 10
    -- "-29.5 is -1*; -29.75 is 0*; -70 is 20*; not-a-number is 0*"
    ∷ speech_error 0xc1ec0000 (negsuc 0)
    ∷ speech_error 0xc1ee0000 (pos 0)
    ∷ speech_error 0xc28c0000 (pos 20)
    ∷ speech_error 0x7fc00000 (pos 0)
    -- "48 clipped of 480 is not above 0.1*, 49 is*"
    ∷ clipped 48 false
    ∷ clipped 49 true
    -- "P of 9,500 gives a drop of 37*; P of 3,500 gives 15*"
    ∷ adaptive (pos 9500) 37
    ∷ adaptive (pos 3500) 15
    -- "User difference 25: no, 26: yes*"
    ∷ difference 25 false
    ∷ difference 26 true
    ∷ []

-- 0.1 as a 32-bit float, by its bits
abbrev pub tenth : Float
tenth = of_bits binary32 0x3dcccccd

-- "Adaptive, level 200, default 15, min 70, max 255"
abbrev pub question : Asked
question = record { level = 200; step = 15; least = 70; most = 255 }

abbrev pub Holds : Case → Type 0
-- "Volume step (minimum 20, maximum 255)"
Holds (volume_step volume by to) = volume_update_of by (pos volume) (pos 20) (pos 255) ≡ Ok (pos to)
-- "Speech error (-50, -30)"
Holds (speech_error bits error) = rms_error_of (Some (of_bits binary32 bits)) (negsuc 49) (negsuc 29) ≡ Some error
-- for every frame, of any count of channels
Holds (clipped n above) = (channels : ℕ) (frame : List Float) → most_clipped channels 480 frame ≡ n → lt tenth (clipped_ratio_of channels 480 frame) ≡ above
Holds (adaptive projected drop) = reached (adaptive_tree question (Finite projected)) ≡ drop
-- above the last volume or below it, whatever that is
Holds (difference n users) = ((last : ℕ) → is_users last (last + n) ≡ users) × ((here : ℕ) → is_users (here + n) here ≡ users)

abbrev pub Each : (Case → Type 0) → List Case → Type 0
Each P [] = Unit {0}
Each P (c ∷ cases) = P c × Each P cases

-- THE CLAIM
abbrev pub StarredCases : Type 0
StarredCases = Each Holds table
