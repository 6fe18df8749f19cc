-- `frame_lines::answer::number_text` meets its contract. Assumes nothing.
use borrow.Author.Tests.{lt-ltb, le-ltb}
use Rattle.frame_lines.specs.Answer.{decimal, number_text}
use Rattle.frame_lines.proofs.answer.number_text.Goals as goal

pub returns-then-n-lt10 : goal.returns-then-n-lt10
unfolding number_text decimal
returns-then-n-lt10 c = simp (lt-ltb _ _ c.if-n-lt10.true)

pub returns : goal.returns
unfolding number_text decimal
returns c = simp (le-ltb _ _ c.if-n-lt10.false)
