-- `frame_lines::spelling::behind_blanks` meets its contract: each turn passes over one blank. Assumes nothing.
use mathlib.Core.Path.{◌≡◌}
use lib.ListN.{drop}
use Rattle.frame_lines.specs.Forgiven.{fields_in}
use Rattle.frame_lines.proofs.spelling.behind_blanks.Given as goal

abbrev pub invariant-loop-i : goal.invariant-loop-i
invariant-loop-i l = fields_in (drop l.i l.line) ≡ fields_in (drop l.at l.line)
