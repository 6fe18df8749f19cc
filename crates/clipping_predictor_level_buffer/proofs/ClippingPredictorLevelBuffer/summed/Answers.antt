-- `clipping_predictor_level_buffer::ClippingPredictorLevelBuffer::summed` meets its contract: each turn takes one record more. Assumes nothing.
use mathlib.Core.Path.{◌≡◌, sym, ap, subst, ◌∙◌}
use Prim.Native.Nat.{ℕ}
use native.Mathlib.Omega.{arith}
use lib.Ieee.{Float, of_bits, div, binary32}
use lib.ListN.{get_or, drop, length-drop}
use Rattle.clipping_predictor_level_buffer.specs.declared.level.Level.{Level}
use Rattle.clipping_predictor_level_buffer.specs.Ring.{no_level, stored, Counted}
use Rattle.clipping_predictor_level_buffer.proofs.Records.{length_stored, later_is}
use Rattle.clipping_predictor_level_buffer.proofs.Sums.{Summed, later_counted, none_summed, few, one_few, one_more, metrics_are}
use Rattle.clipping_predictor_level_buffer.proofs.ClippingPredictorLevelBuffer.summed.Goals as goal
use Rattle.clipping_predictor_level_buffer.proofs.ClippingPredictorLevelBuffer.summed.Goals.{After-level-1, In-loop-i}

pub loop-i-init : goal.loop-i-init
unfolding of_bits
loop-i-init c = (omega arith, none_summed _)

pub overflow_add-delay : goal.overflow_add-delay
overflow_add-delay c = omega arith

pub offset_bounds-self-at : goal.offset_bounds-self-at
offset_bounds-self-at c = omega arith

pub bounds-self-at : goal.bounds-self-at
bounds-self-at c = omega arith

-- the record of this turn is the next of those that are not skipped
this : (c : After-level-1) → get_or c.args.self.data c.place-at.result no_level ≡ get_or (drop c.args.delay (stored c.args.self)) c.loop-i.i no_level
this c =
    ap (λ (k : ℕ). get_or c.args.self.data k no_level) c.place-at.ensures.0 ∙ sym (later_is c.args.self c.args.delay c.loop-i.i (omega arith))

-- and those have counts in range
counted : (c : In-loop-i) → Counted (drop c.args.delay (stored c.args.self))
counted c = later_counted c.args.delay (stored c.args.self) c.requires.0.counted

pub overflow_add-clipped : goal.overflow_add-clipped
overflow_add-clipped c =
    omega (arith, few _ _ _ _ _ (counted c.before.before.before.before.before) c.loop-i.invariant.1, one_few _ c.loop-i.i _ (counted c.before.before.before.before.before) (this c.before.before.before), c.requires.0.high)

pub overflow_step-i : goal.overflow_step-i
overflow_step-i c = omega arith

pub loop-i-smaller : goal.loop-i-smaller
loop-i-smaller c = omega arith

pub loop-i-preserved : goal.loop-i-preserved
loop-i-preserved c =
    (omega arith, one_more _ c.loop-i.i c.loop-i.sum c.loop-i.max _ _ _ c.loop-i.invariant.1 (simp (length-drop, length_stored) (omega arith)) (this c.before.before.before) c.larger-max.ensures)

pub overflow_cast-items : goal.overflow_cast-items
overflow_cast-items c = omega arith

pub returns : goal.returns
returns c =
    let same : c.loop-i.i ≡ c.args.items = omega arith in
    ap (λ (n : Float). let l : Level = record { average = div binary32 c.loop-i.sum n; max = c.loop-i.max; clipped = c.loop-i.clipped } in l) c.from.ensures
    ∙ metrics_are _ c.args.items c.loop-i.sum c.loop-i.max c.loop-i.clipped (subst (λ (n : ℕ). Summed (drop c.args.delay (stored c.args.self)) n c.loop-i.sum c.loop-i.max c.loop-i.clipped) same c.loop-i.invariant.1) (simp (length-drop, length_stored) (omega arith))
