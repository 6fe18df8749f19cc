-- `levels::level::float_s16_to_dbfs` meets its contract: a level and the offset are bounded, so their sum is whole. Assumes nothing.
use mathlib.Core.Path.{ap, ◌∙◌}
use lib.Dec.{lit≤, lit<}
use Rattle.levels.specs.declared.decibels.Decibels.{Decibels}
use Rattle.levels.specs.Decibels.{plus, Bounded}
use Rattle.levels.specs.Level.{dbfs, min_level_dbfs, level_limit}
use Rattle.levels.proofs.level.float_s16_to_dbfs.Goals as goal

offset-bounded : Bounded 90310 min_level_dbfs
unfolding Bounded
offset-bounded = lit≤ tt

pub returns : goal.returns
unfolding dbfs
returns c =
    c.add.ensures.exact level_limit 90310 c.peak_level.ensures.bounded offset-bounded (lit< tt)
    ∙ ap (λ (l : Decibels). plus l min_level_dbfs) c.peak_level.ensures.is
