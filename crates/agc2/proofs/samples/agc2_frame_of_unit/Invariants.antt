-- `agc2::samples::agc2_frame_of_unit` meets its contract: each turn writes one sample more. Assumes nothing.
use Rattle.agc2.specs.Samples.{unit_frame}
use Rattle.agc2.proofs.Interleaved.{Written}
use Rattle.agc2.proofs.samples.agc2_frame_of_unit.Given as goal

abbrev pub invariant-loop-k : goal.invariant-loop-k
invariant-loop-k l = Written l.initial.frame (unit_frame l.samples) l.frame l.k
