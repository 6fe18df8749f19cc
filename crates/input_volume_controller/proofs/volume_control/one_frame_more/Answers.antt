-- `one_frame_more` meets its contract. Assumes nothing.
use mathlib.Core.Path.{refl}
use Rattle.input_volume_controller.specs.Control.{control_of}
use Rattle.input_volume_controller.proofs.volume_control.one_frame_more.Goals as goal

pub returns : goal.returns
unfolding control_of
returns c = record { good = record { settings = c.requires.0.settings; channels = c.requires.0.channels; volume = c.requires.0.volume }; is = refl }
