-- `settings::agc2_default_config` meets its contract. Assumes nothing.
use mathlib.Core.Path.{ap, ◌∙◌}
use Rattle.agc2.specs.Settings.{in_numbers}
use Rattle.agc2.proofs.settings.agc2_default_config.Goals as goal

pub returns : goal.returns
returns c = c.from.ensures ∙ ap in_numbers c.default.ensures
