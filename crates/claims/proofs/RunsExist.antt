-- Runs exist: the value that a call leads to is the value of a controller in good order, and so is the value that a making hands back. Assumes nothing.
use mathlib.Core.Path.{refl, sym, subst}
use mathlib.Core.List.{List, [], ◌∷◌}
use Prim.Native.Nat.{ℕ, ◌≤◌, zero-le}
use native.Mathlib.Omega.{arith}
use lib.IntN.{ℤ}
use lib.ListN.{length-replicate}
use Rattle.clipping_predictor.specs.declared.settings.ClippingPredictorConfig.{ClippingPredictorConfig}
use Rattle.clipping_predictor.specs.declared.settings.Settings as Predictor
use Rattle.clipping_predictor.specs.Predictor.{max_channels}
use Rattle.clipping_predictor.specs.Settings as Predictors
use Rattle.mono_input_volume_controller.specs.declared.config.Config.{Config}
use Rattle.mono_input_volume_controller.specs.declared.profile.Profile.{Profile}
use Rattle.mono_input_volume_controller.specs.declared.config.Settings.{Settings}
use Rattle.mono_input_volume_controller.specs.MonoState as Mono
use Rattle.mono_input_volume_controller.specs.Config as Configs
use Rattle.input_volume_controller.specs.declared.InputVolumeController.{InputVolumeController}
use Rattle.mono_input_volume_controller.specs.Mono.{created}
use Rattle.input_volume_controller.specs.Controller.{view_of, Good, fresh_with}
use Rattle.input_volume_controller.specs.Profile.{making_in}
use Rattle.input_volume_controller.specs.Calls.{Call, Typed, step}
use Rattle.claims.specs.Run.{none, next}
use Rattle.claims.specs.Every.{Every}
use Rattle.claims.specs.RunsExist.{HasRun, HasMaking, RunsExist}
use Rattle.claims.proofs.Every.{every_replicate}
use Rattle.claims.proofs.Fresh.{making_fresh}
use Rattle.claims.proofs.Sane.{Holds, holds_nothing, Sane, step_sane}
use Rattle.claims.proofs.Inverse.{inverse, good_sane}

-- ---- runs

runs : (c : InputVolumeController) (calls : List Call) → Good c → Every Typed calls → HasRun c calls
runs c [] g t = record { heard = []; last = c; run = none }
runs c (call ∷ calls) g t =
    let d = inverse c.control.channels.count (step (view_of c) call).state (step_sane c.control.channels.count call (view_of c) (good_sane c g)) in
    let rest = runs d.controller calls d.becomes.good t.1 in
    record { heard = _; last = rest.last; run = next (record { good = d.becomes.good; typed = t.0; reply = refl; view = d.becomes.is }) rest.run }

-- ---- makings

fresh_sane : (p : Predictor.Settings) (s : Settings) (count : ℕ) → Predictors.Good p → Configs.Good s → 1 ≤ count → count ≤ max_channels → Sane count (fresh_with p s count)
fresh_sane p s count k g low high = record {
  low = low;
  high = high;
  control = record {
    settings = g;
    count = length-replicate count (created s);
    each = every_replicate Mono.Good count (created s) (omega (arith, g.least_le, g.floor_le, g.wait_low, g.wait_le));
    volume = zero-le;
  };
  predictor = record {
    settings = k;
    count = length-replicate count [];
    each = every_replicate (Holds p) count [] (holds_nothing p);
  };
}

makings : (profile : Profile) (channels : ℤ) (config : Config) (predictor : ClippingPredictorConfig) → HasMaking profile channels config predictor
makings profile channels config predictor =
    let m = making_in profile channels config predictor in
    let f = making_fresh profile channels config predictor in
    let s = fresh_sane f.predictor f.settings f.count f.predictor_good f.settings_good f.low f.high in
    let d = inverse f.count m.controller (subst (Sane f.count) (sym f.is) s) in
    record { made = record { answer = m.answer; controller = d.controller }; created = record { good = d.becomes.good; answer = refl; view = d.becomes.is } }

-- THE CLAIM
pub runs_exist : RunsExist
runs_exist = record { makings = makings; runs = runs }
