-- `frame_lines::respelling::whole_lines` meets its contract: at each turn one line is answered. Assumes nothing.
use Prim.Native.Nat.{◌-◌}
use lib.ListN.{length}
use Rattle.frame_lines.proofs.Wholes.{SoFar}
use Rattle.frame_lines.proofs.respelling.whole_lines.Given as goal

abbrev pub invariant-loop-out : goal.invariant-loop-out
invariant-loop-out l = SoFar l.piece l.initial.out l.out l.used l.written

abbrev pub decreases-loop-out : goal.decreases-loop-out
decreases-loop-out l = length l.piece - l.used
