-- `clipping_predictor_level_buffer::ClippingPredictorLevelBuffer::size` meets its contract: a count of stored records fits an i32. Assumes nothing.
use mathlib.Core.Path.{sym, ap, ◌∙◌}
use native.Mathlib.Omega.{arith}
use lib.IntN.{pos}
use mir.Syntax.{w32}
use mir.ValLaws.{to_z_pos}
use Rattle.clipping_predictor_level_buffer.proofs.Records.{length_stored}
use Rattle.clipping_predictor_level_buffer.proofs.ClippingPredictorLevelBuffer.size.Goals as goal

pub returns : goal.returns
returns c = to_z_pos w32 c.args.self.size (omega arith) ∙ ap pos (sym (length_stored c.args.self))
