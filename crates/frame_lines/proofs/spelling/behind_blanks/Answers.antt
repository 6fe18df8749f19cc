-- `frame_lines::spelling::behind_blanks` meets its contract: each turn passes over one blank. Assumes nothing.
use mathlib.Core.Path.{◌∙◌}
use native.Mathlib.Omega.{arith}
use Rattle.frame_lines.proofs.Walking.{blank_on}
use Rattle.frame_lines.proofs.spelling.behind_blanks.Goals as goal

pub loop-i-preserved : goal.loop-i-preserved
loop-i-preserved c = blank_on _ c.loop-i.i (omega arith) c.if-line-i-ne32.false ∙ c.loop-i.invariant
