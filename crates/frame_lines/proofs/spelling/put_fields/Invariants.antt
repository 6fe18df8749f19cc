-- `frame_lines::spelling::put_fields` meets its contract: each turn puts one field. Assumes nothing.
use Prim.Native.Nat.{◌-◌}
use lib.ListN.{length}
use Rattle.frame_lines.proofs.Walking.{Walking}
use Rattle.frame_lines.proofs.spelling.put_fields.Given as goal

abbrev pub invariant-loop-from : goal.invariant-loop-from
invariant-loop-from l = Walking l.line l.initial.out l.out l.count l.length l.from

abbrev pub decreases-loop-from : goal.decreases-loop-from
decreases-loop-from l = length l.line - l.from
