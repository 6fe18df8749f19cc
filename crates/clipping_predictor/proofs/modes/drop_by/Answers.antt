-- `clipping_predictor::modes::drop_by` meets its contract: the four calls, one inside the other. Assumes nothing.
use native.Mathlib.Omega.{arith}
use Rattle.clipping_predictor.specs.Estimate.{drop_by}
use Rattle.clipping_predictor.proofs.modes.drop_by.Goals as goal

pub returns : goal.returns
unfolding drop_by
returns c = omega arith
