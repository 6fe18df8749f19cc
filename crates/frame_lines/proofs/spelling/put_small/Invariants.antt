-- `frame_lines::spelling::put_small` meets its contract: each turn puts one character more. Assumes nothing.
use mathlib.Core.Path.{◌≡◌}
use mathlib.Core.List.{map}
use lib.Seq.{paste}
use Rattle.frame_lines.specs.Forgiven.{lowered}
use Rattle.frame_lines.proofs.spelling.put_small.Given as goal

abbrev pub invariant-loop-i : goal.invariant-loop-i
invariant-loop-i l = l.out ≡ paste l.initial.out l.at (map lowered l.text) l.i
