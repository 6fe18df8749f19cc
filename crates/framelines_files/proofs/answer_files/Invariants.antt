use Rattle.std.proofs.Common.{length}
use Rattle.frame_answers.specs.Stream.{Good}
use Rattle.framelines_files.proofs.answer_files.Given as goal

abbrev pub invariant-loop-end : goal.invariant-loop-end
invariant-loop-end g l = Good l.stream

abbrev pub decreases-loop-end : goal.decreases-loop-end
decreases-loop-end g l = length l.rest
