-- Beside every answer of a making, a refusal too, stands a fresh controller whose settings and predictor are in good order. Assumes nothing.
use mathlib.Core.Path.{◌≡◌, refl}
use mathlib.Core.Bool.{Bool}
use Prim.Native.Nat.{ℕ, ◌≤◌}
use lib.Dec.{lit≤, lit<}
use lib.IntN.{ℤ}
use Rattle.std.specs.Prelude.{Err, None, Ok, Option, Result, Some}
use Rattle.numbers.specs.declared.refusal.Refusal.{Refusal}
use Rattle.numbers.specs.Natural.{within_of}
use Rattle.numbers.proofs.Ranges.{told}
use Rattle.clipping_predictor.specs.declared.settings.ClippingPredictorConfig.{ClippingPredictorConfig}
use Rattle.clipping_predictor.specs.declared.settings.Settings as Predictor
use Rattle.clipping_predictor.specs.Settings as Predictors
use Rattle.clipping_predictor.specs.Predictor.{max_channels}
use Rattle.clipping_predictor.proofs.Rings as PredictorRings
use Rattle.mono_input_volume_controller.specs.declared.config.Config.{Config}
use Rattle.mono_input_volume_controller.specs.declared.profile.Profile.{Profile}
use Rattle.mono_input_volume_controller.specs.declared.config.Settings.{Settings}
use Rattle.mono_input_volume_controller.specs.Config.{defaults, settings_from, settings_of}
use Rattle.mono_input_volume_controller.specs.Config as Configs
use Rattle.mono_input_volume_controller.proofs.Checked.{defaults_in_order, good_settings, checked_good}
use Rattle.input_volume_controller.specs.Controller.{Controller, predictor_settings, switched, fresh_with, fresh, made_with, made_of, making_with}
use Rattle.input_volume_controller.specs.Profile.{making_in}
use Rattle.claims.proofs.InProfile.{any_in_profile}

pub record IsFresh (c : Controller) : Type 0 where
  pub predictor : Predictor.Settings
  pub settings : Settings
  pub count : ℕ
  pub is : c ≡ fresh_with predictor settings count
  pub predictor_good : Predictors.Good predictor
  pub settings_good : Configs.Good settings
  pub low : 1 ≤ count
  pub high : count ≤ max_channels

-- the base's predictor, on or off
pub own_good : (on : Bool) → Predictors.Good (predictor_settings on)
own_good on = record { window_low = lit≤ tt; reference_low = lit≤ tt; window_high = lit< tt; room = lit≤ tt; threshold_bound = lit≤ tt; margin_bound = lit≤ tt }

unmade_fresh : IsFresh (fresh (settings_from defaults) 1)
unmade_fresh = record {
  predictor = _;
  settings = settings_from defaults;
  count = 1;
  is = refl;
  predictor_good = own_good (settings_from defaults).predicts;
  settings_good = good_settings defaults defaults_in_order;
  low = lit≤ tt;
  high = lit≤ tt;
}

with_fresh : (predictor : ClippingPredictorConfig) (n : ℕ) (s : Settings) (k : Result Predictor.Settings Refusal) → Predictors.settings_of predictor ≡ k → Configs.Good s → 1 ≤ n → n ≤ max_channels → IsFresh (made_with n s k).controller
unfolding made_with
with_fresh predictor n s (Err cause) e g low high = unmade_fresh
with_fresh predictor n s (Ok p) e g low high = record {
  predictor = p;
  settings = s;
  count = n;
  is = refl;
  predictor_good = PredictorRings.good_settings predictor p e;
  settings_good = g;
  low = low;
  high = high;
}

made_fresh : (channels : ℤ) (config : Config) (predictor : ClippingPredictorConfig) (v : Option ℕ) (checked : Result Settings Refusal) → within_of 1 max_channels channels ≡ v → settings_of config ≡ checked
    → IsFresh (made_of v checked predictor).controller
unfolding made_of
made_fresh channels config predictor None checked e f = unmade_fresh
made_fresh channels config predictor (Some n) (Err cause) e f = unmade_fresh
made_fresh channels config predictor (Some n) (Ok s) e f =
    let t = told 1 max_channels channels n e in
    with_fresh (switched s.predicts predictor) n s _ refl (checked_good config s f) t.least t.most

plain_fresh : (channels : ℤ) (config : Config) (predictor : ClippingPredictorConfig) → IsFresh (making_with channels config predictor).controller
unfolding making_with
plain_fresh channels config predictor = made_fresh channels config predictor (within_of 1 max_channels channels) (settings_of config) refl refl

-- within any profile
pub making_fresh : (profile : Profile) (channels : ℤ) (config : Config) (predictor : ClippingPredictorConfig) → IsFresh (making_in profile channels config predictor).controller
making_fresh profile channels config predictor = any_in_profile profile channels config predictor IsFresh (plain_fresh channels config predictor) unmade_fresh
