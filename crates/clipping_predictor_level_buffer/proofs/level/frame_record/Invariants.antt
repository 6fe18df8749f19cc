-- `clipping_predictor_level_buffer::level::frame_record` meets its contract: each turn takes four samples more. Assumes nothing.
use lib.ListN.{length}
use Rattle.clipping_predictor_level_buffer.proofs.Steps.{Left}
use Rattle.clipping_predictor_level_buffer.proofs.level.frame_record.Given as goal

abbrev pub invariant-loop-rest : goal.invariant-loop-rest
invariant-loop-rest l = Left l.samples l.rest l.t

abbrev pub decreases-loop-rest : goal.decreases-loop-rest
decreases-loop-rest l = length l.rest
