-- `clipping_predictor_level_buffer::ClippingPredictorLevelBuffer::new` meets its contract: each return by the range that leads there. Assumes nothing.
use mathlib.Core.Path.{sym, subst, ◌∙◌}
use lib.IntN.{ℤ}
use mir.Syntax.{w32}
use mir.ValLaws.{to_z-of_z}
use Rattle.clipping_predictor_level_buffer.specs.declared.Made.{Made}
use Rattle.clipping_predictor_level_buffer.specs.Making.{MadeOf}
use Rattle.numbers.proofs.Signs.{read}
use Rattle.clipping_predictor_level_buffer.proofs.Answers.{made_least, made_none, made, within_capacity}
use Rattle.clipping_predictor_level_buffer.proofs.ClippingPredictorLevelBuffer.new.Goals as goal
use Rattle.clipping_predictor_level_buffer.proofs.ClippingPredictorLevelBuffer.new.Goals.{Start}

-- what holds of the capacity as the machine reads it back
back : (c : Start) (r : Made) → MadeOf (read c.args.capacity) r → MadeOf c.args.capacity r
back c r = subst (λ (x : ℤ). MadeOf x r) (to_z-of_z w32 c.args.capacity c.ranges.capacity)

pub returns-then-capacity-lt1 : goal.returns-then-capacity-lt1
returns-then-capacity-lt1 c = back c.before.before _ (made_least _ _ c.if-capacity-lt1.true c.empty.ensures)

pub returns-in_default : goal.returns-in_default
returns-in_default c =
    back c.before.before.before.before _ (made_none _ _ c.if-capacity-lt1.false (sym c.within.ensures ∙ c.in_default.is) c.empty-in_default.ensures)

pub empty-requires-2 : goal.empty-requires-2
empty-requires-2 c = within_capacity _ _ (sym c.within.ensures ∙ c.in-Some.is)

pub returns : goal.returns
returns c =
    back c.before.before.before.before _ (made _ _ _ (sym c.within.ensures ∙ c.in-Some.is) c.empty-2.ensures)
