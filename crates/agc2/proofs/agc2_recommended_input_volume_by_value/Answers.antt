-- `agc2_recommended_input_volume_by_value` meets its contract: a volume is a byte. Assumes nothing.
use Prim.Native.Nat.{◌<◌, ◌^◌}
use native.Mathlib.Omega.{arith}
use borrow.Author.Rules.{rules}
use Rattle.std.proofs.lemmas.Int.{ints}
use Rattle.input_volume_controller.specs.Control.{control_of}
use Rattle.input_volume_controller.specs.Plain.{whole_control}
use Rattle.agc2.proofs.agc2_recommended_input_volume_by_value.Goals as goal

pub returns : goal.returns
unfolding control_of whole_control
returns c = let fits : c.args.control.volume < 2 ^ 31 = search rules in omega (arith, ints, c.from.ensures)
