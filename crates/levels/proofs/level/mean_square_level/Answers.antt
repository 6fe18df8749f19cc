-- `levels::level::mean_square_level` meets its contract: h is the level of the power 10,000. Assumes nothing.
use Rattle.levels.proofs.level.mean_square_level.Goals as goal

pub returns : goal.returns
returns c = c.level.ensures
