-- `clipping_predictor_level_buffer::level::Peaks::largest` meets its contract. Assumes nothing.
use mathlib.Core.Path.{◌∙◌}
use Rattle.clipping_predictor_level_buffer.specs.Statistics.{larger}
use Rattle.clipping_predictor_level_buffer.proofs.level.Peaks.largest.Goals as goal

pub returns : goal.returns
returns c = c.larger-3.ensures ∙ (λ i. larger (c.larger.ensures i) (c.larger-2.ensures i))
