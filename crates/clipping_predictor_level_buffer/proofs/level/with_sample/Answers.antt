-- `clipping_predictor_level_buffer::level::with_sample` meets its contract. Assumes nothing.
use mathlib.Core.Path.{ap, ◌∙◌}
use Rattle.clipping_predictor_level_buffer.specs.Statistics.{larger}
use Rattle.clipping_predictor_level_buffer.proofs.level.with_sample.Goals as goal

pub returns : goal.returns
returns c = c.larger.ensures ∙ ap (larger c.args.peak) c.magnitude.ensures
