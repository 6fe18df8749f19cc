-- `clipping_predictor::modes::compute_crest_factor` meets its contract: two levels are bounded, so their difference is whole. Assumes nothing.
use mathlib.Core.Path.{◌∙◌}
use lib.Dec.{lit<}
use Rattle.levels.specs.Decibels.{minus}
use Rattle.levels.specs.Level.{level_limit}
use Rattle.clipping_predictor.proofs.modes.compute_crest_factor.Goals as goal

pub returns : goal.returns
returns c =
    record {
      is = c.sub.ensures.exact level_limit level_limit c.peak_level.ensures.bounded c.mean_square_level.ensures.bounded (lit< tt) ∙ (λ i. minus (c.peak_level.ensures.is i) (c.mean_square_level.ensures.is i));
      bounded = c.sub.ensures.bounded level_limit level_limit c.peak_level.ensures.bounded c.mean_square_level.ensures.bounded (lit< tt);
    }
