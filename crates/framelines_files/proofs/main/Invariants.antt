use Rattle.frame_answers.specs.Stream.{Good}
use Rattle.framelines_files.proofs.main.Given as goal

abbrev pub invariant-loop : goal.invariant-loop
invariant-loop l = Good l.stream
