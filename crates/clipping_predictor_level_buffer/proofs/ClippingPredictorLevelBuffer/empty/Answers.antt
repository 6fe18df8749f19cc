-- `clipping_predictor_level_buffer::ClippingPredictorLevelBuffer::empty` meets its contract. Assumes nothing.
use borrow.Author.Rules.{rules}
use Rattle.numbers.specs.Listed.{listed}
use Rattle.clipping_predictor_level_buffer.specs.Ring.{stored}
use Rattle.clipping_predictor_level_buffer.proofs.ClippingPredictorLevelBuffer.empty.Goals as goal

pub returns : goal.returns
unfolding stored listed
returns c = search rules
