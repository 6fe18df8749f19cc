-- `clipping_predictor::measuring::levels_of` meets its contract: two channels a turn, and the one that is left. Assumes nothing.
use Prim.Native.Nat.{◌*◌}
use Rattle.numbers.proofs.Arrays.{Replaced}
use Rattle.clipping_predictor_level_buffer.specs.Ring.{no_level}
use Rattle.clipping_predictor.specs.FrameLevels.{silent}
use Rattle.clipping_predictor.proofs.FrameLevels.{MeasuredAt}
use Rattle.clipping_predictor.proofs.measuring.levels_of.Given as goal

abbrev pub invariant-loop-pair : goal.invariant-loop-pair
invariant-loop-pair l = Replaced no_level (MeasuredAt l.samples l.frame) (2 * l.pair) silent l.r.items
