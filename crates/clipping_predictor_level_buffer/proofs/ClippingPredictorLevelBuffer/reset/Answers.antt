-- `clipping_predictor_level_buffer::ClippingPredictorLevelBuffer::reset` meets its contract. Assumes nothing.
use mathlib.Core.Path.{refl}
use borrow.Author.Rules.{rules}
use Rattle.numbers.specs.Listed.{listed}
use Rattle.clipping_predictor_level_buffer.specs.Ring.{stored}
use Rattle.clipping_predictor_level_buffer.proofs.ClippingPredictorLevelBuffer.reset.Goals as goal

pub returns : goal.returns
unfolding stored listed
returns c = record { good = search rules; capacity_is = refl; stored_is = refl }
