-- `clipping_predictor::modes::estimate_peak_value` meets its contract: all that is added is bounded, so the sums are whole. Assumes nothing.
use mathlib.Core.Path.{ap, ◌∙◌}
use Prim.Native.Nat.{◌+◌}
use lib.Dec.{lit≤, lit<}
use Rattle.levels.specs.declared.decibels.Decibels.{Decibels}
use Rattle.levels.specs.Decibels.{plus, Bounded}
use Rattle.levels.specs.Level.{level_limit, min_level_dbfs}
use Rattle.clipping_predictor.proofs.modes.estimate_peak_value.Goals as goal

offset : Bounded 90310 min_level_dbfs
unfolding Bounded
offset = lit≤ tt

pub returns : goal.returns
returns c =
    let b = c.add.ensures.bounded (level_limit + level_limit) level_limit c.compute_crest_factor.ensures.bounded c.mean_square_level.ensures.bounded (lit< tt) in
    let e = c.add.ensures.exact (level_limit + level_limit) level_limit c.compute_crest_factor.ensures.bounded c.mean_square_level.ensures.bounded (lit< tt) in
    record {
      is = c.add-2.ensures.exact (level_limit + level_limit + level_limit) 90310 b offset (lit< tt) ∙ ap (λ (d : Decibels). plus d min_level_dbfs) (e ∙ (λ i. plus (c.compute_crest_factor.ensures.is i) (c.mean_square_level.ensures.is i)));
      bounded = c.add-2.ensures.bounded (level_limit + level_limit + level_limit) 90310 b offset (lit< tt);
    }
