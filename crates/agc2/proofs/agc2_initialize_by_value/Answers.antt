-- `agc2_initialize_by_value` meets its contract. Assumes nothing.
use Rattle.agc2.proofs.Handed.{control_in_order, does}
use Rattle.agc2.proofs.agc2_initialize_by_value.Goals as goal

pub initialize-requires : goal.initialize-requires
initialize-requires c = control_in_order c.whole_control.ensures c.requires

pub returns : goal.returns
returns c = does _ c.whole_control.ensures c.plain_control.ensures c.initialize.ensures
