-- `modes::Prediction::event` meets its contract: its test as the machine makes it. Assumes nothing.
use mathlib.Core.Path.{◌≡◌, ap, ◌∙◌}
use native.Mathlib.Omega.{arith}
use lib.Dec.{lit<}
use lib.IntN.{nat_abs}
use Prim.Native.Nat.{◌+◌}
use Rattle.numbers.proofs.Signs.{read, again, mag_abs}
use Rattle.levels.specs.declared.decibels.Decibels.TheVariants.{Finite}
use Rattle.levels.specs.Decibels.{less, minus, near, Bounded}
use Rattle.levels.specs.Order.{less_by}
use Rattle.levels.specs.Level.{level_limit}
use Rattle.clipping_predictor.specs.declared.settings.Settings.{Settings}
use Rattle.clipping_predictor.specs.Settings.{max_level, Good}
use Rattle.clipping_predictor.specs.Turned.{only, tested, estimated}
use Rattle.clipping_predictor.proofs.modes.Prediction.event.Goals as goal

margin_read : (s : Settings) → Good s → read s.margin ≡ s.margin
margin_read s good = again _ (omega (arith, mag_abs s.margin, good.margin_bound))

margin_bounded : (s : Settings) → Good s → Bounded max_level (Finite (read s.margin))
unfolding Bounded
margin_bounded s good = omega (arith, ap nat_abs (margin_read s good), good.margin_bound)

pub returns : goal.returns
unfolding estimated
returns c =
    let margin = margin_read c.args.self.settings c.args.self.good in
    let wanted = c.sub-wanted.ensures.exact (level_limit + level_limit) max_level c.compute_crest_factor.ensures.bounded (margin_bounded c.args.self.settings c.args.self.good) (lit< tt)
    ∙ (λ i. minus (c.compute_crest_factor.ensures.is i) (Finite (margin i))) in
    c.after_test.ensures
    ∙ (λ i. tested ((c.lt.ensures ∙ less_by _ _ ∙ (λ j. less (c.compute_crest_factor-crest.ensures.is j) (wanted j))) i) ((c.are_near-near.ensures ∙ (λ j. near (c.compute_crest_factor-crest.ensures.is j) (wanted j))) i) ((c.sure-held.ensures ∙ ap only c.drop_by.ensures) i) (c.sure.ensures i))
