-- `settings::agc2_default_predictor_config` meets its contract. Assumes nothing.
use mathlib.Core.Path.{ap, ◌∙◌}
use Rattle.agc2.specs.Settings.{predictor_in_numbers}
use Rattle.agc2.proofs.settings.agc2_default_predictor_config.Goals as goal

pub returns : goal.returns
returns c = c.from.ensures ∙ ap predictor_in_numbers c.default_predictor_config.ensures
