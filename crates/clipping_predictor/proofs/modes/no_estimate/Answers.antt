-- `modes::no_estimate` meets its contract. Assumes nothing.
use Rattle.clipping_predictor.specs.Turned.{estimated}
use Rattle.clipping_predictor.proofs.modes.no_estimate.Goals as goal

pub returns : goal.returns
unfolding estimated
returns c = c.sure.ensures
