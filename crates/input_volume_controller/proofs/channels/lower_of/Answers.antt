-- `channels::lower_of` meets its contract. Assumes nothing.
use borrow.Author.Tests.{lt-ltb, le-ltb}
use Rattle.input_volume_controller.specs.Channels.{lower_of}
use Rattle.input_volume_controller.proofs.channels.lower_of.Goals as goal

pub returns-then-volume-a : goal.returns-then-volume-a
unfolding lower_of
returns-then-volume-a c = rw (lt-ltb _ _ c.if-volume-a.true)

pub returns : goal.returns
unfolding lower_of
returns c = rw (le-ltb _ _ c.if-volume-a.false)
