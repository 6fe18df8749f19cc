-- `clipping_predictor::modes::whole_db` meets its contract: cutting makes a number no larger. Assumes nothing.
use lib.Dec.{lit<}
use Rattle.clipping_predictor.proofs.Signed.{cut_fits, whole_fits, whole_read}
use Rattle.clipping_predictor.proofs.modes.whole_db.Goals as goal

pub nonzero_div-result : goal.nonzero_div-result
nonzero_div-result c = (lit< tt, cut_fits c.args.threshold c.ranges.threshold.sfits)

pub overflow_mul-result : goal.overflow_mul-result
overflow_mul-result c = whole_fits c.args.threshold c.ranges.threshold.sfits

pub returns : goal.returns
returns c = whole_read c.args.threshold c.ranges.threshold.sfits
