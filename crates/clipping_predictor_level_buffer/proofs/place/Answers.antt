-- `clipping_predictor_level_buffer::place` meets its contract. Assumes nothing.
use native.Mathlib.Omega.{arith}
use borrow.Author.Tests.{le-leb, lt-leb}
use Rattle.clipping_predictor_level_buffer.specs.Ring.{behind}
use Rattle.clipping_predictor_level_buffer.proofs.place.Goals as goal

pub returns-then-i-tail : goal.returns-then-i-tail
unfolding behind
returns-then-i-tail c = (simp (le-leb _ _ c.if-i-tail.true), omega arith)

pub returns-else-i-tail : goal.returns-else-i-tail
unfolding behind
returns-else-i-tail c = (simp (lt-leb _ _ c.if-i-tail.false), omega arith)
