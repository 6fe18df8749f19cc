-- `VolumeControl::set_applied_input_volumes` meets its contract. Assumes nothing.
use mathlib.Core.Path.{◌∙◌}
use Rattle.std.specs.Prelude.{Some}
use Rattle.input_volume_controller.specs.Control.{control_of, with_applied, with_channels}
use Rattle.input_volume_controller.specs.ControlCalls.{with_applied_input_volumes, aggregated}
use Rattle.input_volume_controller.proofs.volume_control.VolumeControl.set_applied_input_volumes.Goals as goal

pub lowest-applied-requires : goal.lowest-applied-requires
lowest-applied-requires c = (c.requires.channels.low, c.requires.channels.high)

pub with_channels-requires : goal.with_channels-requires
with_channels-requires c = (c.requires, c.given.ensures.good)

pub returns : goal.returns
unfolding with_applied_input_volumes aggregated control_of
returns c =
    record { good = c.with_channels.ensures.good; is = c.with_channels.ensures.is ∙ (λ i. with_applied (Some (c.lowest-applied.ensures i)) (aggregated (with_applied (Some (c.lowest-applied.ensures i)) (with_channels (c.given.ensures.is i) (control_of c.args.self))))) }
