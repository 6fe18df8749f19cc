-- `frame_answers::stream::Stream::new` meets its contract. Assumes nothing.
use mathlib.Core.Path.{refl}
use Rattle.frame_answers.proofs.Streams.{starts_fresh}
use Rattle.frame_answers.proofs.stream.Stream.new.Goals as goal

pub returns : goal.returns
returns c =
    starts_fresh _ _ _ _ c.new-made.ensures c.default.ensures c.new.ensures refl
