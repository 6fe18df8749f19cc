-- `hold` meets its contract: the constants are the whole numbers -90 and 30. Assumes nothing.
use mathlib.Core.Path.{◌∙◌}
use lib.Ieee
use Rattle.mono_input_volume_controller.proofs.Errors.{clamped_is_held}
use Rattle.mono_input_volume_controller.proofs.speech_level.hold.Goals as goal

pub returns : goal.returns
unfolding Ieee.of_bits Ieee.neg Ieee.of_int
returns c = c.clamp.ensures.value ∙ clamped_is_held c.args.level
