-- `ClippingPredictor::reset` meets its contract: ring by ring. Assumes nothing.
use Prim.Native.Nat.{◌-◌, ◌≤◌}
use Rattle.numbers.proofs.Arrays.{Replaced}
use Rattle.clipping_predictor.specs.Predictor.{no_ring}
use Rattle.clipping_predictor.proofs.Frames.{Kept, EmptiedAt}
use Rattle.clipping_predictor.proofs.ClippingPredictor.reset.Given as goal

abbrev pub invariant-loop-c : goal.invariant-loop-c
invariant-loop-c l = (l.c ≤ l.channels) × Kept l.initial.p l.p × Replaced no_ring EmptiedAt l.c l.initial.p.rings l.p.rings

abbrev pub decreases-loop-c : goal.decreases-loop-c
decreases-loop-c l = l.channels - l.c
