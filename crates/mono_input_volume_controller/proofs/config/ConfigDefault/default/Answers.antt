-- The default settings are the definition's. Assumes nothing.
use mathlib.Core.Path.{refl}
use lib.Ieee
use Rattle.mono_input_volume_controller.specs.Config.{defaults}
use Rattle.mono_input_volume_controller.proofs.config.ConfigDefault.default.Goals as goal

pub returns : goal.returns
unfolding defaults Ieee.of_bits
returns c = refl
