-- `frame_lines::answer::digit_character` meets its contract. Assumes nothing.
use borrow.Author.Tests.{lt-ltb, le-ltb}
use Rattle.frame_lines.specs.Answer.{digit_character}
use Rattle.frame_lines.proofs.answer.digit_character.Goals as goal

pub returns-then-n-lt10 : goal.returns-then-n-lt10
unfolding digit_character
returns-then-n-lt10 c = simp (lt-ltb _ _ c.if-n-lt10.true)

pub returns-else-n-lt10 : goal.returns-else-n-lt10
unfolding digit_character
returns-else-n-lt10 c = simp (le-ltb _ _ c.if-n-lt10.false)
