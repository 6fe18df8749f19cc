-- `clipping_predictor_level_buffer::ClippingPredictorLevelBuffer::capacity` meets its contract: a capacity fits an i32. Assumes nothing.
use native.Mathlib.Omega.{arith}
use mir.Syntax.{w32}
use mir.ValLaws.{to_z_pos}
use Rattle.clipping_predictor_level_buffer.proofs.ClippingPredictorLevelBuffer.capacity.Goals as goal

pub returns : goal.returns
returns c = to_z_pos w32 c.args.self.capacity (omega arith)
