-- `agc2_handle_capture_output_used_change_by_value` meets its contract. Assumes nothing.
use mathlib.Core.Path.{subst}
use mathlib.Core.Bool.{Bool}
use Rattle.input_volume_controller.specs.Reply.{done}
use Rattle.input_volume_controller.specs.Calls.{capture_switch, ControlDoes}
use Rattle.input_volume_controller.specs.Plain.{whole_control}
use Rattle.input_volume_controller.proofs.Flags.{set_is}
use Rattle.agc2.proofs.Handed.{control_in_order, does}
use Rattle.agc2.proofs.agc2_handle_capture_output_used_change_by_value.Goals as goal

pub handle_capture_output_used_change-requires : goal.handle_capture_output_used_change-requires
handle_capture_output_used_change-requires c = control_in_order c.whole_control.ensures c.requires

pub returns : goal.returns
returns c =
    subst (λ (on : Bool). ControlDoes (whole_control c.args.control) (capture_switch on) done (whole_control c.plain_control.result)) (set_is c.args.capture_output_used)
    (does _ c.whole_control.ensures c.plain_control.ensures c.handle_capture_output_used_change.ensures)
