-- `clipping_predictor_level_buffer::level::count_of` meets its contract: the constants are the whole numbers 32767 and -32768. Assumes nothing.
use mathlib.Core.Path.{◌∙◌}
use lib.Ieee
use Rattle.clipping_predictor_level_buffer.proofs.Clipped.{count_high, count_low}
use Rattle.clipping_predictor_level_buffer.proofs.level.count_of.Goals as goal
use Rattle.clipping_predictor_level_buffer.proofs.level.count_of.Goals.{then-sample, else-sample}

pub returns : goal.returns
unfolding Ieee.of_bits Ieee.neg Ieee.of_int
returns c =
    c.from.ensures
    ∙ elim c.if-sample.branch [
      | then-sample w ↦ count_high c.args.sample c.if-sample.from (w.from-is ∙ w.if-sample.true) w.if-sample.true
      | else-sample w ↦ count_low c.args.sample c.if-sample.from w.if-sample.false w.from-is
    ]
