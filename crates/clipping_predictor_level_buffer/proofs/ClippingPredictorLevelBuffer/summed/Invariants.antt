-- `clipping_predictor_level_buffer::ClippingPredictorLevelBuffer::summed` meets its contract: each turn takes one record more. Assumes nothing.
use Prim.Native.Nat.{◌-◌, ◌≤◌}
use lib.ListN.{drop}
use Rattle.clipping_predictor_level_buffer.specs.Ring.{stored}
use Rattle.clipping_predictor_level_buffer.proofs.Sums.{Summed}
use Rattle.clipping_predictor_level_buffer.proofs.ClippingPredictorLevelBuffer.summed.Given as goal

abbrev pub invariant-loop-i : goal.invariant-loop-i
invariant-loop-i l = (l.i ≤ l.items) × Summed (drop l.delay (stored l.self)) l.i l.sum l.max l.clipped

abbrev pub decreases-loop-i : goal.decreases-loop-i
decreases-loop-i l = l.items - l.i
