-- `frame_lines::digits::all_digits` meets its contract: each turn tells of one character more. Assumes nothing.
use mathlib.Core.Path.{refl, ◌∙◌}
use mathlib.Core.Bool.{◌&&◌}
use native.Mathlib.Omega.{arith}
use Rattle.frame_lines.specs.Digits.{are_digits}
use Rattle.frame_lines.proofs.Parts.{digits_more}
use Rattle.frame_lines.proofs.digits.all_digits.Goals as goal

pub loop-c-init : goal.loop-c-init
unfolding are_digits
loop-c-init c = refl

pub loop-c-preserved : goal.loop-c-preserved
loop-c-preserved c = (λ j. c.loop-c.invariant j && c.is_digit-so_far.ensures j) ∙ digits_more _ c.loop-c.c-index (omega arith)
