-- `config::default_settings` meets its contract: the default settings pass their tests. Assumes nothing.
use mathlib.Core.Path.{sym, ap, subst, ◌∙◌}
use Rattle.mono_input_volume_controller.specs.Config.{settings_from, InOrder}
use Rattle.mono_input_volume_controller.proofs.Checked.{defaults_in_order}
use Rattle.mono_input_volume_controller.proofs.config.default_settings.Goals as goal

pub kept-requires : goal.kept-requires
kept-requires c = subst InOrder (sym c.default.ensures) defaults_in_order

pub returns : goal.returns
returns c = c.kept.ensures ∙ ap settings_from c.default.ensures
