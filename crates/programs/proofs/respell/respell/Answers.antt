-- `programs::respell::respell` begins with no beginning of a line, which is in good order. Assumes nothing.
use mathlib.Core.Path.{ap}
use mathlib.Core.List.{[]}
use Rattle.frame_lines.specs.declared.lines.Begun.{Begun}
use Rattle.frame_lines.specs.Stream.{ended}
use Rattle.frame_lines.specs.Feeds.{Keeps, GoodBeginning}
use Rattle.programs.proofs.respell.respell.Goals as goal

fresh : {p : Begun} → Keeps [] p → GoodBeginning p
unfolding ended
fresh k = record { good = k.good; unended = ap ended k.kept_is }

pub run-requires-clause-good : goal.run-requires-clause-good
run-requires-clause-good g c = fresh c.new-line.ensures
