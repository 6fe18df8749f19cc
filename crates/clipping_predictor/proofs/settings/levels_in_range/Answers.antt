-- `clipping_predictor::settings::levels_in_range` meets its contract. Assumes nothing.
use mathlib.Core.Path.{sym, ap, ◌∙◌}
use mathlib.Core.Bool.{◌&&◌}
use lib.Dec.{leb}
use lib.IntN.{nat_abs}
use mir.Syntax.{w32}
use mir.ValLaws.{to_z-of_z}
use borrow.Author.Tests.{le-leb, lt-leb}
use Rattle.clipping_predictor.specs.Settings.{max_level, levels_in_range}
use Rattle.clipping_predictor.proofs.settings.levels_in_range.Goals as goal

pub returns-then-unsigned_abs-le-MAX_LEVEL : goal.returns-then-unsigned_abs-le-MAX_LEVEL
unfolding levels_in_range
returns-then-unsigned_abs-le-MAX_LEVEL c =
    let threshold = c.unsigned_abs.ensures.value ∙ ap nat_abs (to_z-of_z w32 c.args.threshold c.ranges.threshold) in
    let margin = c.unsigned_abs-then-unsigned_abs-le-MAX_LEVEL.ensures.value ∙ ap nat_abs (to_z-of_z w32 c.args.margin c.ranges.margin) in
    (λ i. sym (le-leb c.unsigned_abs.result max_level c.if-unsigned_abs-le-MAX_LEVEL.true) i && leb c.unsigned_abs-then-unsigned_abs-le-MAX_LEVEL.result max_level)
    ∙ (λ i. leb (threshold i) max_level && leb (margin i) max_level)

pub returns-else-unsigned_abs-le-MAX_LEVEL : goal.returns-else-unsigned_abs-le-MAX_LEVEL
unfolding levels_in_range
returns-else-unsigned_abs-le-MAX_LEVEL c =
    let threshold = c.unsigned_abs.ensures.value ∙ ap nat_abs (to_z-of_z w32 c.args.threshold c.ranges.threshold) in
    let above = lt-leb c.unsigned_abs.result max_level c.if-unsigned_abs-le-MAX_LEVEL.false in
    above ∙ (λ i. sym above i && leb (nat_abs c.args.margin) max_level) ∙ (λ i. leb (threshold i) max_level && leb (nat_abs c.args.margin) max_level)
