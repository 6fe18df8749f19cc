-- `clipping_predictor_level_buffer::level::two_records` meets its contract: each turn takes four samples more of both. Assumes nothing.
use lib.ListN.{length}
use Rattle.clipping_predictor_level_buffer.proofs.Steps.{Left}
use Rattle.clipping_predictor_level_buffer.proofs.level.two_records.Given as goal

abbrev pub invariant-loop-rest : goal.invariant-loop-rest
invariant-loop-rest l = Left l.first l.rest l.s × Left l.second l.others l.t

abbrev pub decreases-loop-rest : goal.decreases-loop-rest
decreases-loop-rest l = length l.rest
