-- `making::unmade` meets its contract. Assumes nothing.
use mathlib.Core.Path.{sym, ap, subst, ◌∙◌}
use native.Mathlib.Omega.{arith}
use Rattle.clipping_predictor.specs.Settings.{settings_of}
use Rattle.mono_input_volume_controller.specs.declared.config.Settings.{Settings}
use Rattle.mono_input_volume_controller.specs.Config.{Good}
use Rattle.input_volume_controller.specs.Controller.{predictor_settings, switched, fresh}
use Rattle.mono_input_volume_controller.proofs.Checked.{defaults_in_order, good_settings}
use Rattle.input_volume_controller.proofs.Built.{base_checked}
use Rattle.input_volume_controller.proofs.making.unmade.Goals as goal

pub returns : goal.returns
returns c =
    record {
      low = omega arith;
      high = omega arith;
      settings = subst Good (sym c.default_settings-settings.ensures) (good_settings _ defaults_in_order);
      predictor = predictor_settings c.default_settings-settings.result.predicts;
      checked = ap settings_of (c.switched.ensures ∙ ap (switched c.default_settings-settings.result.predicts) c.default_predictor_config.ensures) ∙ base_checked c.default_settings-settings.result.predicts;
      is = ap (λ (s : Settings). fresh s 1) c.default_settings-settings.ensures;
    }
