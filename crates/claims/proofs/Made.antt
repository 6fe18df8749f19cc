-- An accepted making hands back a fresh controller with settings and a predictor that passed their tests, so its volumes are sound. Assumes nothing.
use mathlib.Core.Path.{◌≡◌, refl, sym, ap, subst, ◌∙◌}
use mathlib.Core.Bool.{Bool, true, false}
use Prim.Native.Nat.{ℕ, ◌≤◌}
use native.Mathlib.Omega.{arith}
use lib.IntN.{ℤ, pos, negsuc, nat_abs}
use Rattle.std.specs.Prelude.{Err, None, Ok, Option, Result, Some}
use Rattle.numbers.specs.declared.refusal.Refusal.{Refusal}
use Rattle.numbers.specs.Natural.{within_of}
use Rattle.numbers.proofs.Signs.{clash}
use Rattle.numbers.proofs.Ranges.{told}
use Rattle.numbers.proofs.Truths.{both_true}
use Rattle.clipping_predictor.specs.declared.settings.ClippingPredictorConfig.{ClippingPredictorConfig}
use Rattle.clipping_predictor.specs.declared.settings.Settings as Predictor
use Rattle.clipping_predictor.specs.Settings as Predictors
use Rattle.clipping_predictor.specs.Predictor.{max_channels}
use Rattle.clipping_predictor.proofs.Rings as PredictorRings
use Rattle.mono_input_volume_controller.specs.declared.config.Config.{Config}
use Rattle.mono_input_volume_controller.specs.declared.config.Settings.{Settings}
use Rattle.mono_input_volume_controller.specs.MonoState.{max_input_volume, max_wait}
use Rattle.mono_input_volume_controller.specs.Config.{in_range, both_in_range, volumes_in_range, step_in_range, waits_in_range, targets_in_range, thresholds_in_range, settings_from, checked_if, settings_of}
use Rattle.input_volume_controller.specs.Controller.{Controller, base_predictor, switched, fresh_with, fresh, made_with, made_of, making_with, making_of}
use Rattle.input_volume_controller.proofs.Built.{base_checked}
use Rattle.mono_input_volume_controller.proofs.Settings.{both_most}
use Rattle.claims.proofs.Sound.{Sound, sound_fresh}

-- ---- the predictor

-- with the channel count and the settings in order: the predictor is the one that its check hands back
pub record Chosen (config : ClippingPredictorConfig) (s : Settings) (n : ℕ) (c : Controller) : Type 0 where
  pub predictor : Predictor.Settings
  pub checked : Predictors.settings_of config ≡ Ok predictor
  pub is : c ≡ fresh_with predictor s n

chosen : (config : ClippingPredictorConfig) (s : Settings) (n : ℕ) (k : Result Predictor.Settings Refusal) → Predictors.settings_of config ≡ k → (made_with n s k).answer ≡ Ok tt → Chosen config s n (made_with n s k).controller
unfolding made_with
chosen config s n (Err cause) e h = let z : ◌≡◌ {A = ℕ} 0 1 = cc in absurd (omega arith)
chosen config s n (Ok p) e h = record { predictor = p; checked = e; is = refl }

-- ---- the whole

-- the controller is a fresh one with the settings of the configuration, which pass their tests
pub record MadeWith (channels : Option ℕ) (config : Config) (s : Settings) (predictor : ClippingPredictorConfig) (c : Controller) : Type 0 where
  pub count : ℕ
  pub number : channels ≡ Some count
  pub choice : Chosen (switched s.predicts predictor) s count c
  pub volumes : volumes_in_range config ≡ true
  pub waits : waits_in_range config ≡ true

module _ (predictor : ClippingPredictorConfig) where
  made_with_lem : (v : Option ℕ) (a b c d e : Bool) (config : Config) (s : Settings) → volumes_in_range config ≡ a → waits_in_range config ≡ c
      → (made_of v (checked_if a b c d e s) predictor).answer ≡ Ok tt → MadeWith v config s predictor (made_of v (checked_if a b c d e s) predictor).controller
  unfolding made_of
  made_with_lem None a b c d e config s p q h = let z : ◌≡◌ {A = ℕ} 0 1 = cc in absurd (omega arith)
  made_with_lem (Some n) false b c d e config s p q h = let z : ◌≡◌ {A = ℕ} 0 1 = cc in absurd (omega arith)
  made_with_lem (Some n) true false c d e config s p q h = let z : ◌≡◌ {A = ℕ} 0 1 = cc in absurd (omega arith)
  made_with_lem (Some n) true true false d e config s p q h = let z : ◌≡◌ {A = ℕ} 0 1 = cc in absurd (omega arith)
  made_with_lem (Some n) true true true false e config s p q h = let z : ◌≡◌ {A = ℕ} 0 1 = cc in absurd (omega arith)
  made_with_lem (Some n) true true true true false config s p q h = let z : ◌≡◌ {A = ℕ} 0 1 = cc in absurd (omega arith)
  made_with_lem (Some n) true true true true true config s p q h = record { count = n; number = refl; choice = chosen (switched s.predicts predictor) s n _ refl h; volumes = p; waits = q }

pub accepted_making : (channels : ℤ) (config : Config) (predictor : ClippingPredictorConfig) → (making_with channels config predictor).answer ≡ Ok tt
    → MadeWith (within_of 1 max_channels channels) config (settings_from config) predictor (making_with channels config predictor).controller
unfolding making_with settings_of
accepted_making channels config predictor h =
    made_with_lem predictor (within_of 1 max_channels channels) (volumes_in_range config) (step_in_range config) (waits_in_range config) (targets_in_range config) (thresholds_in_range config) config (settings_from config) refl refl h

-- a number from 0 on is a natural one
natural : (high x : ℤ) → in_range (pos 0) high x ≡ true → x ≡ pos (nat_abs x)
unfolding in_range
natural high (pos n) h = refl
natural high (negsuc n) h = clash (sym h)

-- volumes that pass their tests
volumes_are : (config : Config) → volumes_in_range config ≡ true
    → (config.min_input_volume ≡ pos (nat_abs config.min_input_volume)) × (config.clipped_level_min ≡ pos (nat_abs config.clipped_level_min))
unfolding both_in_range
volumes_are config h =
    let t = both_true _ _ h in
    (natural (pos max_input_volume) config.min_input_volume t.0, natural (pos max_input_volume) config.clipped_level_min t.1)

-- so its volumes are sound
pub made_sound : {v : Option ℕ} {predictor : ClippingPredictorConfig} (config : Config) (c : Controller) → (m : MadeWith v config (settings_from config) predictor c) → Sound (settings_from config) c.control
unfolding settings_from
made_sound config c m =
    let v = both_most 255 config.min_input_volume config.clipped_level_min m.volumes in
    let w = both_most max_wait config.clipped_wait_frames config.update_input_volume_wait_frames m.waits in
    subst (λ (d : Controller). Sound (settings_from config) d.control) (sym m.choice.is)
    (sound_fresh m.choice.predictor (settings_from config) m.count v.0 v.1 (omega arith) (omega (arith, w.1)))

pub minimum_most : {v : Option ℕ} {predictor : ClippingPredictorConfig} (config : Config) (c : Controller) → MadeWith v config (settings_from config) predictor c → (settings_from config).least ≤ 255
unfolding settings_from
minimum_most config c m = (both_most 255 config.min_input_volume config.clipped_level_min m.volumes).0

pub minimum_kept : {v : Option ℕ} {predictor : ClippingPredictorConfig} (config : Config) (c : Controller) → MadeWith v config (settings_from config) predictor c → pos (settings_from config).least ≡ config.min_input_volume
unfolding settings_from
minimum_kept config c m = sym (volumes_are config m.volumes).0

pub level_kept : {v : Option ℕ} {predictor : ClippingPredictorConfig} (config : Config) (c : Controller) → MadeWith v config (settings_from config) predictor c → pos (settings_from config).floor ≡ config.clipped_level_min
unfolding settings_from
level_kept config c m = sym (volumes_are config m.volumes).1

-- ---- with the count that was asked for

pub made_fresh : (channels : ℕ) (config : Config) (predictor : ClippingPredictorConfig) → (making_with (pos channels) config predictor).answer ≡ Ok tt
    → Chosen (switched (settings_from config).predicts predictor) (settings_from config) channels (making_with (pos channels) config predictor).controller
made_fresh channels config predictor h =
    let m = accepted_making (pos channels) config predictor h in
    let e = (told 1 max_channels (pos channels) m.count m.number).is in
    let same : m.count ≡ channels = cc in
    subst (λ (n : ℕ). Chosen (switched (settings_from config).predicts predictor) (settings_from config) n (making_with (pos channels) config predictor).controller) same m.choice

-- its predictor is in good order
pub chosen_good : {s : Settings} {n : ℕ} {c : Controller} (config : ClippingPredictorConfig) (h : Chosen config s n c) → Predictors.Good h.predictor
chosen_good config h = PredictorRings.good_settings config h.predictor h.checked

-- the base's predictor is its own
injected : {p q : Predictor.Settings} → ◌≡◌ {A = Result Predictor.Settings Refusal} (Ok p) (Ok q) → p ≡ q
injected e = cc

pub made_fresh_by_default : (channels : ℕ) (config : Config) → (making_of (pos channels) config).answer ≡ Ok tt → (making_of (pos channels) config).controller ≡ fresh (settings_from config) channels
made_fresh_by_default channels config h =
    let m = made_fresh channels config base_predictor h in
    m.is ∙ ap (λ (p : Predictor.Settings). fresh_with p (settings_from config) channels) (injected (sym m.checked ∙ base_checked (settings_from config).predicts))

-- ---- a making whose tests pass

pub taken_of : (n : ℕ) (config : Config) (predictor : ClippingPredictorConfig) (s : Settings) (p : Predictor.Settings) → within_of 1 max_channels (pos n) ≡ Some n → settings_of config ≡ Ok s
    → Predictors.settings_of (switched s.predicts predictor) ≡ Ok p → making_with (pos n) config predictor ≡ record { answer = Ok tt; controller = fresh_with p s n }
unfolding making_with made_of made_with
taken_of n config predictor s p h e f = (λ i. made_of (h i) (e i) predictor) ∙ ap (made_with n s) f

-- of one channel
pub taken : (config : Config) (predictor : ClippingPredictorConfig) (s : Settings) (p : Predictor.Settings) → settings_of config ≡ Ok s → Predictors.settings_of (switched s.predicts predictor) ≡ Ok p
    → making_with (pos 1) config predictor ≡ record { answer = Ok tt; controller = fresh_with p s 1 }
unfolding within_of
taken config predictor s p e f = taken_of 1 config predictor s p refl e f
