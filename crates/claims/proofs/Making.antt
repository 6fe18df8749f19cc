-- A making is refused with the number of the first cause that holds, and what stands beside a refusal is always the same. Assumes nothing.
use mathlib.Core.Path.{◌≡◌, refl, sym, ap, ◌∙◌}
use mathlib.Core.Bool.{Bool, true, false, not, ◌||◌, ◌&&◌}
use mathlib.Core.List.{List, [], ◌∷◌, ◌++◌}
use Prim.Native.Nat.{ℕ}
use native.Mathlib.Omega.{arith}
use lib.IntN.{ℤ, pos}
use lib.Signed.{le_z}
use Rattle.std.specs.Prelude.{Err, None, Ok, Result, Some, Option}
use Rattle.numbers.specs.declared.refusal.Refusal.{Refusal}
use Rattle.numbers.specs.Natural.{within_of}
use Rattle.numbers.specs.Said.{refused, refusal_in, said}
use Rattle.numbers.proofs.Truths.{and_true}
use Rattle.clipping_predictor.specs.declared.settings.ClippingPredictorConfig.{ClippingPredictorConfig}
use Rattle.clipping_predictor.specs.Settings as PredictorSettings
use Rattle.clipping_predictor.specs.Predictor.{max_channels}
use Rattle.mono_input_volume_controller.specs.declared.config.Config.{Config}
use Rattle.mono_input_volume_controller.specs.declared.profile.Profile.{Profile}
use Rattle.mono_input_volume_controller.specs.declared.profile.Profile.TheVariants.{Plain, Classroom}
use Rattle.clipping_predictor.specs.declared.settings.Settings as Predictor
use Rattle.mono_input_volume_controller.specs.declared.config.Settings.{Settings}
use Rattle.mono_input_volume_controller.specs.MonoState.{max_input_volume, max_wait}
use Rattle.mono_input_volume_controller.specs.SpeechLevel.{lowest_db, highest_db}
use Rattle.mono_input_volume_controller.specs.Config.{defaults, in_range, in_unit, volumes_in_range, step_in_range, waits_in_range, targets_in_range, thresholds_in_range, settings_from, checked_if, settings_of}
use Rattle.mono_input_volume_controller.specs.Profile.{classroom_conditions, all_hold, takes}
use Rattle.input_volume_controller.specs.Controller.{base_predictor, switched, fresh, Making, made_with, made_of, making_with}
use Rattle.input_volume_controller.specs.Profile.{refused_outside, within_profile, making_in}
use Rattle.claims.specs.Causes.{Cause, first_if, first_of, outside_classroom, predictor_faults, settings_causes, profile_faults, making_causes}
use Rattle.claims.proofs.Causes.{less_z_is, either, outside_is, one_outside_is, one_outside_unit, is_outside, within_is}
use Rattle.claims.proofs.BelowMaking.{faults_first}

-- causes 1 to 6 from their outcomes, and later ones
abbrev one_to_six : Bool → Bool → Bool → Bool → Bool → Bool → List Cause → List Cause
one_to_six a b c d e f later =
    record { number = 1; holds = a }
    ∷ record { number = 2; holds = b }
    ∷ record { number = 3; holds = c }
    ∷ record { number = 4; holds = d }
    ∷ record { number = 5; holds = e }
    ∷ record { number = 6; holds = f }
    ∷ later

-- with the channel count and the settings in order the predictor's check decides
checked_first : (n : ℕ) (s : Settings) (k : Result Predictor.Settings Refusal) → refusal_in (said (made_with n s k).answer) ≡ refusal_in (said k)
unfolding made_with
checked_first n s (Err cause) = refl
checked_first n s (Ok p) = refl

module _ (predictor : ClippingPredictorConfig) where
  made_first : (v : Option ℕ) (b c d e f : Bool) (s : Settings)
      → refusal_in (said (made_of v (checked_if b c d e f s) predictor).answer) ≡ first_of (one_to_six (is_outside v) (not b) (not c) (not d) (not e) (not f) (predictor_faults predictor))
  unfolding made_of
  made_first None b c d e f s = refl
  made_first (Some n) false c d e f s = refl
  made_first (Some n) true false d e f s = refl
  made_first (Some n) true true false e f s = refl
  made_first (Some n) true true true false f s = refl
  made_first (Some n) true true true true false s = refl
  made_first (Some n) true true true true true s = checked_first n s (PredictorSettings.settings_of (switched s.predicts predictor)) ∙ faults_first (switched s.predicts predictor)

plain_first : (channels : ℤ) (config : Config) (predictor : ClippingPredictorConfig) → refusal_in (said (making_with channels config predictor).answer) ≡ first_of (making_causes Plain channels config predictor)
unfolding making_with settings_of
plain_first channels config predictor =
    made_first predictor (within_of 1 max_channels channels) (volumes_in_range config) (step_in_range config) (waits_in_range config) (targets_in_range config) (thresholds_in_range config) (settings_from config)
    ∙ (λ i. first_of (one_to_six
    (sym (within_is 1 8 channels) i)
    (sym (one_outside_is (pos 0) (pos max_input_volume) config.min_input_volume config.clipped_level_min) i)
    (sym (outside_is (pos 1) (pos max_input_volume) config.clipped_level_step) i)
    (sym (one_outside_is (pos 0) (pos max_wait) config.clipped_wait_frames config.update_input_volume_wait_frames) i)
    (sym (one_outside_is lowest_db highest_db config.target_range_max_dbfs config.target_range_min_dbfs) i)
    (sym (one_outside_unit config.speech_probability_threshold config.speech_ratio_threshold) i)
    (predictor_faults predictor)))

-- ---- within a profile

-- each condition's opposite, and that of all of them
also : {x y : Bool} (a b : Bool) → x ≡ not a → y ≡ not b → x || y ≡ not (a && b)
also a b e f = (λ i. e i || f i) ∙ either a b

outside_classroom_is : (c : Config) → outside_classroom c ≡ not (takes Classroom c)
unfolding all_hold classroom_conditions in_unit
outside_classroom_is c =
    also c.enable_clipping_predictor _ refl
    (also (in_range (pos 20) (pos 70) c.min_input_volume) _ (outside_is (pos 20) (pos 70) c.min_input_volume)
    (also (le_z c.min_input_volume c.clipped_level_min) _ (less_z_is c.min_input_volume c.clipped_level_min)
    (also (le_z c.target_range_min_dbfs c.target_range_max_dbfs) _ (less_z_is c.target_range_min_dbfs c.target_range_max_dbfs)
    (also (le_z (pos 100) c.clipped_wait_frames && le_z (pos 100) c.update_input_volume_wait_frames) _
    (also (le_z (pos 100) c.clipped_wait_frames) (le_z (pos 100) c.update_input_volume_wait_frames) (less_z_is (pos 100) c.clipped_wait_frames) (less_z_is (pos 100) c.update_input_volume_wait_frames))
    (ap not (sym (and_true (in_unit c.clipped_ratio_threshold))))))))

-- the first of two lists
abbrev or_else : Option ℕ → Option ℕ → Option ℕ
or_else None later = later
or_else (Some number) later = Some number

else_none : (first : Option ℕ) → or_else first None ≡ first
else_none None = refl
else_none (Some number) = refl

first_if_lem : (t : Bool) (number : ℕ) (later last : Option ℕ) → first_if t number (or_else later last) ≡ or_else (first_if t number later) last
first_if_lem true number later last = refl
first_if_lem false number later last = refl

first_append : (causes later : List Cause) → first_of (causes ++ later) ≡ or_else (first_of causes) (first_of later)
first_append [] later = refl
first_append (cause ∷ causes) later = ap (first_if cause.holds cause.number) (first_append causes later) ∙ first_if_lem cause.holds cause.number (first_of causes) (first_of later)

-- a refusal of the plain controller stays, and else settings that the profile does not take are refused with 19
outside_first : (o : Result (Unit {0}) Refusal) (plain : Making) → plain.answer ≡ o → refusal_in (said (refused_outside o plain).answer) ≡ or_else (refusal_in (said o)) (Some 19)
outside_first (Ok tt) plain e = refl
outside_first (Err cause) plain e = ap (λ (o : Result (Unit {0}) Refusal). refusal_in (said o)) e

within_first : (taken : Bool) (plain : Making) → refusal_in (said (within_profile taken plain).answer) ≡ or_else (refusal_in (said plain.answer)) (first_if (not taken) 19 None)
within_first true plain = sym (else_none (refusal_in (said plain.answer)))
within_first false plain = outside_first plain.answer plain refl

pub making_first : (profile : Profile) (channels : ℤ) (config : Config) (predictor : ClippingPredictorConfig)
    → refusal_in (said (making_in profile channels config predictor).answer) ≡ first_of (making_causes profile channels config predictor)
making_first Plain channels config predictor = plain_first channels config predictor
making_first Classroom channels config predictor =
    within_first (takes Classroom config) (making_with channels config predictor)
    ∙ (λ i. or_else (plain_first channels config predictor i) (first_if (sym (outside_classroom_is config) i) 19 None))
    ∙ sym (first_append (making_causes Plain channels config predictor) (profile_faults Classroom config))

-- the base's predictor has no fault
pub making_first_by_default : (profile : Profile) (channels : ℤ) (config : Config)
    → refusal_in (said (making_in profile channels config base_predictor).answer) ≡ first_of (settings_causes channels config (profile_faults profile config))
making_first_by_default profile channels config = making_first profile channels config base_predictor

with_beside : (n : ℕ) (s : Settings) (k : Result Predictor.Settings Refusal) (number : ℕ) → said (made_with n s k).answer ≡ refused number → (made_with n s k).controller ≡ fresh (settings_from defaults) 1
unfolding made_with
with_beside n s (Err cause) number e = refl
with_beside n s (Ok p) number e = let z : ◌≡◌ {A = ℕ} 0 1 = cc in absurd (omega arith)

made_beside : (predictor : ClippingPredictorConfig) (v : Option ℕ) (s : Result Settings Refusal) (number : ℕ) → said (made_of v s predictor).answer ≡ refused number → (made_of v s predictor).controller ≡ fresh (settings_from defaults) 1
unfolding made_of
made_beside predictor None s number e = refl
made_beside predictor (Some n) (Err cause) number e = refl
made_beside predictor (Some n) (Ok s) number e = with_beside n s (PredictorSettings.settings_of (switched s.predicts predictor)) number e

plain_beside : (channels : ℤ) (config : Config) (predictor : ClippingPredictorConfig) (number : ℕ) → said (making_with channels config predictor).answer ≡ refused number
    → (making_with channels config predictor).controller ≡ fresh (settings_from defaults) 1
unfolding making_with
plain_beside channels config predictor number e = made_beside predictor (within_of 1 max_channels channels) (settings_of config) number e

module _ (plain : Making) (beside : (number : ℕ) → said plain.answer ≡ refused number → plain.controller ≡ fresh (settings_from defaults) 1) (number : ℕ) where
  outside_beside : (o : Result (Unit {0}) Refusal) → said (refused_outside o plain).answer ≡ refused number → (refused_outside o plain).controller ≡ fresh (settings_from defaults) 1
  outside_beside (Ok tt) e = refl
  outside_beside (Err cause) e = beside number e

  within_beside : (taken : Bool) → said (within_profile taken plain).answer ≡ refused number → (within_profile taken plain).controller ≡ fresh (settings_from defaults) 1
  within_beside true e = beside number e
  within_beside false e = outside_beside plain.answer e

pub making_beside : (profile : Profile) (channels : ℤ) (config : Config) (predictor : ClippingPredictorConfig) (number : ℕ) → said (making_in profile channels config predictor).answer ≡ refused number
    → (making_in profile channels config predictor).controller ≡ fresh (settings_from defaults) 1
making_beside profile channels config predictor number e = within_beside (making_with channels config predictor) (plain_beside channels config predictor) number (takes profile config) e
