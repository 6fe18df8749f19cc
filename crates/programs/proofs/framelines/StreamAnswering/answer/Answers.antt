-- There is room for the answers to the whole piece, so all of it is used.
use Rattle.frame_answers.proofs.Whole.{whole_piece}
use Rattle.programs.proofs.framelines.StreamAnswering.answer.Goals as goal

pub returns-clause-goes_on : goal.returns-clause-goes_on
returns-clause-goes_on g c = whole_piece _ _ _ _ _ c.feed-fed.ensures c.requires.1
