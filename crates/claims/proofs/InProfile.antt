-- A making within a profile: an accepted one is the plain controller's, of settings that the profile takes; what is true of every plain making and beside every refusal is true of it. Assumes nothing.
use mathlib.Core.Path.{◌≡◌, refl, sym, ap, subst, ◌∙◌}
use mathlib.Core.Bool.{Bool, true, false}
use mathlib.Core.List.{List, [], ◌∷◌}
use Prim.Native.Nat.{ℕ, zero, suc}
use native.Mathlib.Omega.{arith}
use lib.IntN.{ℤ}
use lib.Signed.{le_z}
use lib.ListN.{get_or}
use Rattle.std.specs.Prelude.{Err, Ok, Result}
use Rattle.numbers.specs.declared.refusal.Refusal.{Refusal}
use Rattle.numbers.proofs.Truths.{both_true}
use Rattle.clipping_predictor.specs.declared.settings.ClippingPredictorConfig.{ClippingPredictorConfig}
use Rattle.mono_input_volume_controller.specs.declared.config.Config.{Config}
use Rattle.mono_input_volume_controller.specs.declared.profile.Profile.{Profile}
use Rattle.mono_input_volume_controller.specs.declared.profile.Profile.TheVariants.{Classroom}
use Rattle.mono_input_volume_controller.specs.Config.{defaults, in_unit, settings_from}
use Rattle.mono_input_volume_controller.specs.Profile.{classroom_conditions, all_hold, takes}
use Rattle.input_volume_controller.specs.Controller.{Controller, fresh, Making, making_with}
use Rattle.input_volume_controller.specs.Profile.{refused_outside, within_profile, making_in}

-- ---- accepted

-- the plain controller's making, and the profile takes the settings
record Plainly (taken : Bool) (plain within : Making) : Type 0 where
  same : within ≡ plain
  takes_all : taken ≡ true

outside_plainly : (o : Result (Unit {0}) Refusal) (plain : Making) → plain.answer ≡ o → (refused_outside o plain).answer ≡ Ok tt → Plainly false plain (refused_outside o plain)
outside_plainly (Ok tt) plain e h = let z : ◌≡◌ {A = ℕ} 0 1 = cc in absurd (omega arith)
outside_plainly (Err cause) plain e h = let z : ◌≡◌ {A = ℕ} 0 1 = cc in absurd (omega arith)

plainly : (taken : Bool) (plain : Making) → (within_profile taken plain).answer ≡ Ok tt → Plainly taken plain (within_profile taken plain)
plainly true plain h = record { same = refl; takes_all = refl }
plainly false plain h = outside_plainly plain.answer plain refl h

module _ (profile : Profile) (channels : ℤ) (config : Config) (predictor : ClippingPredictorConfig) where
  module _ (h : (making_in profile channels config predictor).answer ≡ Ok tt) where
    pub in_profile_taken : takes profile config ≡ true
    in_profile_taken = (plainly (takes profile config) (making_with channels config predictor) h).takes_all

    pub in_profile_same : making_in profile channels config predictor ≡ making_with channels config predictor
    in_profile_same = (plainly (takes profile config) (making_with channels config predictor) h).same

    -- what is true of accepted plain makings
    pub by_plain : (P : Making → Type 0) → ((making_with channels config predictor).answer ≡ Ok tt → P (making_with channels config predictor)) → P (making_in profile channels config predictor)
    by_plain P f = subst P (sym in_profile_same) (f (sym (ap (λ (m : Making). m.answer) in_profile_same) ∙ h))

  -- what is true of every plain making's controller, and so of the one beside a refusal
  module _ (P : Controller → Type 0) (made : P (making_with channels config predictor).controller) (unmade : P (fresh (settings_from defaults) 1)) where
    outside_any : (o : Result (Unit {0}) Refusal) → P (refused_outside o (making_with channels config predictor)).controller
    outside_any (Ok tt) = unmade
    outside_any (Err cause) = made

    within_any : (taken : Bool) → P (within_profile taken (making_with channels config predictor)).controller
    within_any true = made
    within_any false = outside_any (making_with channels config predictor).answer

    pub any_in_profile : P (making_in profile channels config predictor).controller
    any_in_profile = within_any (takes profile config)

-- ---- the classroom's conditions, those that claims rest on

pub record InClassroom (c : Config) : Type 0 where
  pub level : le_z c.min_input_volume c.clipped_level_min ≡ true
  pub ratio : in_unit c.clipped_ratio_threshold ≡ true

-- a condition of a list, by its place
holds_at : (conditions : List Bool) (place : ℕ) → all_hold conditions ≡ true → get_or conditions place true ≡ true
unfolding all_hold
holds_at [] place e = refl
holds_at (condition ∷ conditions) zero e = (both_true condition (all_hold conditions) e).0
holds_at (condition ∷ conditions) (suc place) e = holds_at conditions place (both_true condition (all_hold conditions) e).1

pub in_classroom : (c : Config) → takes Classroom c ≡ true → InClassroom c
unfolding classroom_conditions
in_classroom c e = record { level = holds_at (classroom_conditions c) 2 e; ratio = holds_at (classroom_conditions c) 5 e }
