-- `config::in_unit` meets its contract: the constants are the whole numbers 0 and 1. Assumes nothing.
use mathlib.Core.Path.{ap₂, ◌∙◌}
use mathlib.Core.Bool.{◌&&◌}
use lib.Ieee
use Rattle.mono_input_volume_controller.specs.Config.{in_unit}
use Rattle.mono_input_volume_controller.proofs.Settings.{partial_le_is}
use Rattle.mono_input_volume_controller.proofs.config.in_unit.Goals as goal

pub returns : goal.returns
unfolding in_unit Ieee.of_bits Ieee.of_int
returns c =
    c.contains.ensures.value
    ∙ rw (c.new.ensures.start, c.new.ensures.end, c.new.ensures.exhausted) (ap₂ ◌&&◌ (partial_le_is _ c.args.x) (partial_le_is c.args.x _))
