-- `clipping_predictor_level_buffer::ClippingPredictorLevelBuffer::push` meets its contract: each return by the range that leads there. Assumes nothing.
use mathlib.Core.Path.{sym, subst, ◌∙◌}
use lib.IntN.{ℤ}
use native.Mathlib.Omega.{arith}
use mir.Syntax.{w32}
use mir.ValLaws.{to_z-of_z}
use Rattle.numbers.proofs.Signs.{read}
use Rattle.clipping_predictor_level_buffer.specs.declared.AfterPush.{AfterPush}
use Rattle.clipping_predictor_level_buffer.specs.Pushing.{offered, PushedOf}
use Rattle.clipping_predictor_level_buffer.proofs.Counts.{outside_count, inside_count, push_refused, push_offered}
use Rattle.clipping_predictor_level_buffer.proofs.ClippingPredictorLevelBuffer.push.Goals as goal
use Rattle.clipping_predictor_level_buffer.proofs.ClippingPredictorLevelBuffer.push.Goals.{Start}

-- what holds of the count as the machine reads it back
back : (c : Start) (r : AfterPush) → PushedOf (read c.args.clipped) c.args.self (offered c.args.average c.args.max (read c.args.clipped)) r → PushedOf c.args.clipped c.args.self (offered c.args.average c.args.max c.args.clipped) r
back c r = subst (λ (x : ℤ). PushedOf x c.args.self (offered c.args.average c.args.max x) r) (to_z-of_z w32 c.args.clipped c.ranges.clipped)

pub returns-in_default : goal.returns-in_default
returns-in_default c = back c.before.before _ (push_refused _ _ _ (outside_count _ (sym c.within.ensures ∙ c.in_default.is)) c.requires)

pub overflow_cast-n : goal.overflow_cast-n
overflow_cast-n c = omega (arith, (inside_count _ _ (sym c.within.ensures ∙ c.in-Some.is)).0)

pub push_level-requires : goal.push_level-requires
push_level-requires c = c.requires

pub returns : goal.returns
returns c =
    back c.before.before.before _ (push_offered _ _ _ _ _ _ (sym c.within.ensures ∙ c.in-Some.is) c.push_level.ensures)
