-- `clipping_predictor_level_buffer::next` meets its contract. Assumes nothing.
use borrow.Author.Tests.{lt-ltb, le-ltb}
use Rattle.clipping_predictor_level_buffer.specs.Ring.{after}
use Rattle.clipping_predictor_level_buffer.proofs.next.Goals as goal

pub returns-then-tail-capacity : goal.returns-then-tail-capacity
unfolding after
returns-then-tail-capacity c = rw (lt-ltb _ _ c.if-tail-capacity.true)

pub returns-else-tail-capacity : goal.returns-else-tail-capacity
unfolding after
returns-else-tail-capacity c = rw (le-ltb _ _ c.if-tail-capacity.false)
