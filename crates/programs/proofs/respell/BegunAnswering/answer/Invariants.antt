-- `answer` of `respell`: what was fed so far is kept, and of what was put so much is not written. Assumes nothing.
use lib.ListN.{length}
use Rattle.programs.proofs.Reached.{Reached}
use Rattle.programs.proofs.respell.BegunAnswering.answer.Given as goal

abbrev pub invariant-loop-rest : goal.invariant-loop-rest
invariant-loop-rest g l = Reached l.initial.self l.piece l.initial.out l.self l.rest l.written l.out

abbrev pub decreases-loop-rest : goal.decreases-loop-rest
decreases-loop-rest g l = length l.rest
