-- Parts of the lead-in that are needed: without the initialise, with a last volume of 0 (of one channel of two is enough), or with capture switched off in its list, two pasts can be told apart; and so they can, with
-- nothing left out, where the clipped-ratio threshold is below zero. Definitions only.
use Rattle.std.specs.Prelude.{◌≡◌, true, false, List, [], ◌∷◌, ◌++◌, map, ℕ, pos, negsuc, Ok}
use Rattle.std.specs.Float.{binary32}
use Rattle.std.specs.Float.Ieee.{of_int}
use Rattle.mono_input_volume_controller.specs.declared.config.Config.{Config}
use Rattle.mono_input_volume_controller.specs.declared.config.Settings.{Settings}
use Rattle.mono_input_volume_controller.specs.Config.{defaults, settings_of}
use Rattle.input_volume_controller.specs.Controller.{fresh}
use Rattle.input_volume_controller.specs.Calls.{Call, frame, recommendation, initialise, capture_switch}
use Rattle.claims.specs.LeadIn.{quiet, LeadIn, calls_of}
use Rattle.claims.specs.TwoPasts.{AlikeAfter, RatioFromZero, enough}
use Rattle.claims.specs.Sharp.{defaults_but, waiting}

-- ---- a lead-in with one part changed

module _ {channels enough : ℕ} (l : LeadIn channels quiet enough) where
  -- from the last frame on, through its entry, at these volumes
  abbrev pub ending_at : List ℕ → List Call
  ending_at volumes = frame l.most (map pos volumes) l.samples l.lent ∷ (l.after_frame ++ (recommendation l.probability l.level ∷ l.after_recommendation))

  abbrev pub without_initialise : List Call
  without_initialise = capture_switch true ∷ (l.body ++ (l.after_initialise ++ ending_at l.volumes))

  abbrev pub with_volume_zero : List Call
  with_volume_zero = capture_switch true ∷ (l.body ++ (initialise ∷ (l.after_initialise ++ ending_at (0 ∷ []))))

  -- of two channels one has a positive volume
  abbrev pub with_one_zero : List Call
  with_one_zero = capture_switch true ∷ (l.body ++ (initialise ∷ (l.after_initialise ++ ending_at (255 ∷ 0 ∷ []))))

  abbrev pub with_capture_off : List Call
  with_capture_off = capture_switch true ∷ capture_switch false ∷ (l.body ++ (initialise ∷ (l.after_initialise ++ ending_at l.volumes)))

-- the default settings with a clipped-ratio threshold of -1, by which every frame is clipping, and a wait of one frame
abbrev pub below_zero : Config
below_zero = defaults_but defaults.clipped_level_min (of_int binary32 (negsuc 0)) (pos 1)

-- with the default settings but no clipping wait, which the making takes, and this lead-in, each change lets two pasts be told apart
pub record PartsAreNeeded : Type 0 where
  pub settings : Settings
  pub made : settings_of (waiting 0) ≡ Ok settings
  pub ratio : RatioFromZero settings
  pub lead : LeadIn 1 quiet (enough settings)
  pub initialise_needed : AlikeAfter (fresh settings 1) (without_initialise lead) → ⊥
  pub volume_needed : AlikeAfter (fresh settings 1) (with_volume_zero lead) → ⊥
  pub pair : LeadIn 2 quiet (enough settings)
  pub every_volume_needed : AlikeAfter (fresh settings 2) (with_one_zero pair) → ⊥
  pub capture_needed : AlikeAfter (fresh settings 1) (with_capture_off lead) → ⊥
  -- and with these settings, which the making takes too, a whole lead-in does not do
  pub wordless : Settings
  pub wordless_made : settings_of below_zero ≡ Ok wordless
  pub wordless_lead : LeadIn 1 quiet (enough wordless)
  pub word_needed : AlikeAfter (fresh wordless 1) (calls_of 1 quiet wordless_lead) → ⊥
