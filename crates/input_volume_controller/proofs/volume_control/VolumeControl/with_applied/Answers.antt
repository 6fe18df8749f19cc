-- `VolumeControl::with_applied` meets its contract. Assumes nothing.
use mathlib.Core.Path.{refl}
use Rattle.input_volume_controller.specs.Control.{control_of}
use Rattle.input_volume_controller.proofs.volume_control.VolumeControl.with_applied.Goals as goal

pub returns : goal.returns
unfolding control_of
returns c = record { good = record { settings = c.requires.settings; channels = c.requires.channels; volume = c.requires.volume }; is = refl }
