-- `clipping_predictor_level_buffer::ClippingPredictorLevelBuffer::compute_partial_metrics` meets its contract: each return by the ranges that lead there. Assumes nothing.
use mathlib.Core.Path.{ap, ◌∙◌}
use mir.Syntax.{w32}
use mir.ValLaws.{to_z-of_z}
use Rattle.numbers.proofs.Asked.{asked_some, asked_none, handed_on}
use Rattle.numbers.specs.Said.{said}
use Rattle.clipping_predictor_level_buffer.specs.Ring.{stored}
use Rattle.clipping_predictor_level_buffer.specs.Metrics.{compute_partial_metrics}
use Rattle.clipping_predictor_level_buffer.proofs.Answers.{no_delay, no_items, both_within}
use Rattle.clipping_predictor_level_buffer.proofs.ClippingPredictorLevelBuffer.compute_partial_metrics.Goals as goal

pub returns-in_err-d : goal.returns-in_err-d
returns-in_err-d c =
    ap said
    (handed_on _ _ _ _ c.from_residual.ensures.1 c.ok_or.ensures.value c.in_err-d.was
    ∙ no_delay _ _ _ _ (asked_none _ _ _ _ c.within.ensures c.ok_or.ensures.value c.in_err-d.was)
    ∙ (λ i. compute_partial_metrics c.args.self.capacity (stored c.args.self) (to_z-of_z w32 _ c.ranges.delay i) (to_z-of_z w32 _ c.ranges.num_items i)))

pub returns-in_err-n : goal.returns-in_err-n
returns-in_err-n c =
    ap said
    (handed_on _ _ _ _ c.from_residual-in_err-n.ensures.1 c.ok_or-2.ensures.value c.in_err-n.was
    ∙ no_items _ _ _ _ (asked_none _ _ _ _ c.within-2.ensures c.ok_or-2.ensures.value c.in_err-n.was)
    ∙ (λ i. compute_partial_metrics c.args.self.capacity (stored c.args.self) (to_z-of_z w32 _ c.ranges.delay i) (to_z-of_z w32 _ c.ranges.num_items i)))

pub returns : goal.returns
returns c =
    c.partial_metrics.ensures
    ∙ ap said
    (both_within _ _ _ _ _ _ (asked_some _ _ _ _ c.within.ensures c.ok_or.ensures.value c.in_ok-d.was) (asked_some _ _ _ _ c.within-2.ensures c.ok_or-2.ensures.value c.in_ok-n.was)
    ∙ (λ i. compute_partial_metrics c.args.self.capacity (stored c.args.self) (to_z-of_z w32 _ c.ranges.delay i) (to_z-of_z w32 _ c.ranges.num_items i)))
