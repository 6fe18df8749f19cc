-- `frame_answers::stream::Stream::keeping` meets its contract. Assumes nothing.
use Rattle.frame_answers.proofs.Streams.{keeps_part}
use Rattle.frame_answers.proofs.stream.Stream.keeping.Goals as goal

pub returns : goal.returns
returns c =
    keeps_part c.args.self c.requires.0 _ c.requires.1 _ c.append.ensures
