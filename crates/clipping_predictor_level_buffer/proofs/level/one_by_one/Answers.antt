-- `clipping_predictor_level_buffer::level::one_by_one` meets its contract: each turn takes one sample more. Assumes nothing.
use mathlib.Core.Path.{refl, ap}
use Prim.Native.Nat.{ℕ, ◌+◌}
use native.Mathlib.Omega.{arith}
use lib.Ieee.{nan}
use lib.ListN.{get_or}
use Rattle.clipping_predictor_level_buffer.proofs.Clipped.{count_most}
use Rattle.clipping_predictor_level_buffer.proofs.Steps.{comes, comes_on, has_passed}
use Rattle.clipping_predictor_level_buffer.proofs.level.one_by_one.Goals as goal

pub loop-x-init : goal.loop-x-init
loop-x-init c = comes _ _

pub overflow_add-clipped : goal.overflow_add-clipped
overflow_add-clipped c =
    omega (arith, c.loop-x.invariant.few, c.count_of-clipped.ensures, count_most (get_or c.args.rest.now c.loop-x.x-index nan), c.loop-x-test.true)

pub loop-x-preserved : goal.loop-x-preserved
loop-x-preserved c =
    comes_on c.args.from c.args.rest.now c.loop-x.x-index _ _ _ _ _ (get_or c.args.rest.now c.loop-x.x-index nan) (c.type_inv.rest c.loop-x.x-index) refl c.loop-x-test.true c.loop-x.invariant c.with_sample-peak.ensures (ap (λ (n : ℕ). c.loop-x.clipped + n) c.count_of-clipped.ensures)

pub returns : goal.returns
returns c = has_passed c.args.from c.args.rest.now c.loop-x.x-index _ c.loop-x.invariant c.loop-x-test.false
