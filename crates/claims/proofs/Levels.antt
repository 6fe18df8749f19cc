-- Levels within one thousandth, by the bounds of the crate `levels`. Assumes nothing.
use mathlib.Core.Path.{refl}
use Rattle.levels.specs.Level.{dbfs}
use Rattle.levels.proofs.Accuracy.{d_right, h_right}
use Rattle.claims.specs.Levels.{LevelsWithinOne}

pub levels_within_one : LevelsWithinOne
unfolding dbfs
levels_within_one = record { peak = d_right; offset = λ v. refl; mean_square = h_right }
