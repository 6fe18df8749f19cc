-- `frame_answers::stream::ready` meets its contract: a malformed line, and one in order. Assumes nothing.
use mathlib.Core.Path.{sym, ap, ◌∙◌}
use Rattle.frame_answers.specs.Ready.{ready_of}
use Rattle.frame_answers.proofs.stream.ready.Goals as goal

pub returns-in-Some : goal.returns-in-Some
returns-in-Some c = c.sized.ensures ∙ sym (ap ready_of c.in-Some.is)

pub returns-in-None : goal.returns-in-None
returns-in-None c = sym (ap ready_of c.in-None.is)
