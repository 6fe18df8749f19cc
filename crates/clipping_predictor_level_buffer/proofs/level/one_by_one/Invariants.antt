-- `clipping_predictor_level_buffer::level::one_by_one` meets its contract: each turn takes one sample more. Assumes nothing.
use Rattle.clipping_predictor_level_buffer.proofs.Steps.{running, Coming}
use Rattle.clipping_predictor_level_buffer.proofs.level.one_by_one.Given as goal

abbrev pub invariant-loop-x : goal.invariant-loop-x
invariant-loop-x l = Coming l.fn.from l.rest l.x-index (running l.sum l.peak l.clipped)
