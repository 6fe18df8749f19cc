-- `clipped_ratio::compute_clipped_ratio` meets its contract: both numbers are small enough for an `f32` to hold. Assumes nothing.
use mathlib.Core.Path.{refl}
use Prim.Native.Nat.{◌^◌}
use native.Mathlib.Omega.{arith}
use lib.Dec.{le→leb}
use lib.Ieee.{in_float}
use Rattle.input_volume_controller.proofs.clipped_ratio.compute_clipped_ratio.Goals as goal

pub int_to_float-result : goal.int_to_float-result
unfolding in_float
int_to_float-result c = le→leb c.args.most (2 ^ 24) (omega (arith, c.requires.0, c.requires.1))

pub overflow_cast-result : goal.overflow_cast-result
overflow_cast-result c = omega (arith, c.requires.1)

pub int_to_float-result-2 : goal.int_to_float-result-2
unfolding in_float
int_to_float-result-2 c = le→leb c.args.samples (2 ^ 24) (omega (arith, c.requires.1))

pub returns : goal.returns
returns c = refl
