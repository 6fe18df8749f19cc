-- `frame::question` meets its contract. Assumes nothing.
use borrow.Author.Tests.{lt-ltb, le-ltb}
use Rattle.input_volume_controller.specs.Control.{control_of}
use Rattle.input_volume_controller.proofs.frame.question.Goals as goal

pub returns-then-control : goal.returns-then-control
unfolding control_of
returns-then-control c = rw (lt-ltb _ _ c.if-control.true)

pub returns : goal.returns
unfolding control_of
returns c = rw (le-ltb _ _ c.if-control.false)
