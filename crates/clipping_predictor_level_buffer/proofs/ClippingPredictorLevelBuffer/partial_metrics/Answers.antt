-- `clipping_predictor_level_buffer::ClippingPredictorLevelBuffer::partial_metrics` meets its contract: each return by the tests that lead there. Assumes nothing.
use mathlib.Core.Path.{ap, ◌∙◌}
use native.Mathlib.Omega.{arith}
use Rattle.std.specs.Prelude.{Ok, Some}
use Rattle.numbers.specs.Said.{said}
use Rattle.clipping_predictor_level_buffer.proofs.Records.{length_stored}
use Rattle.clipping_predictor_level_buffer.proofs.Answers.{too_few, too_many, missing, found}
use Rattle.clipping_predictor_level_buffer.proofs.ClippingPredictorLevelBuffer.partial_metrics.Goals as goal
use Rattle.clipping_predictor_level_buffer.proofs.ClippingPredictorLevelBuffer.partial_metrics.Goals.{then-items-lt1-via-then-items-lt1, then-items-lt1-via-else-items-lt1+then-self-items, then-items-lt1-via-else-items-lt1+else-self-items+then-self-items-2}

pub returns-then-items-lt1 : goal.returns-then-items-lt1
returns-then-items-lt1 c =
    elim c.then-items-lt1.branch [
      | then-items-lt1-via-then-items-lt1 w ↦ ap said (too_few _ _ _ _ w.if-items-lt1.true)
      | then-items-lt1-via-else-items-lt1+then-self-items w ↦ ap said (too_many _ _ _ _ w.if-items-lt1.false (omega (arith, w.if-self-items.true)))
      | then-items-lt1-via-else-items-lt1+else-self-items+then-self-items-2 w ↦ ap said (too_many _ _ _ _ w.if-items-lt1.false (omega (arith, w.if-self-items.false, w.if-self-items-2.true)))
    ]

pub returns-then-self-delay : goal.returns-then-self-delay
returns-then-self-delay c =
    ap said (missing _ _ _ _ (omega arith) (omega arith) (rw (length_stored c.args.self) (omega arith)))

pub returns : goal.returns
returns c =
    ap said (ap (λ l. Ok (Some l)) c.summed.ensures ∙ found _ _ _ _ (omega arith) (omega arith) (rw (length_stored c.args.self) (omega arith)))
