-- `frame_lines::digits::number_of_two` meets its contract. Assumes nothing.
use mathlib.Core.Path.{◌≡◌, sym, ◌∙◌}
use Prim.Native.Nat.{◌+◌, ◌*◌, ◌<◌}
use native.Mathlib.Omega.{arith}
use Rattle.frame_lines.specs.Digits.{number}
use Rattle.frame_lines.specs.Line.{part}
use Rattle.frame_lines.proofs.Parts.{part_two}
use Rattle.frame_lines.proofs.Counted.{two_digits, number_two, two_below}
use Rattle.frame_lines.proofs.digits.number_of_two.Goals as goal
use Rattle.frame_lines.proofs.digits.number_of_two.Goals.{After-digit_of-2}

module _ (c : After-digit_of-2) where
  made : c.digit_of.result * 16 + c.digit_of-2.result ≡ number (part c.args.text.now c.args.at 2)
  made = (λ i. c.digit_of.ensures i * 16 + c.digit_of-2.ensures i) ∙ sym (number_two (part_two _ _ c.requires.0) c.requires.1)

  below : c.digit_of.result * 16 + c.digit_of-2.result < 256
  below = omega (arith, made, two_below (part_two _ _ c.requires.0) c.requires.1)

pub digit_of-requires : goal.digit_of-requires
digit_of-requires c = (two_digits (part_two _ _ c.requires.0) c.requires.1).0

pub overflow_mul-result : goal.overflow_mul-result
overflow_mul-result c = omega (arith, number_two (part_two _ _ c.requires.0) c.requires.1, two_below (part_two _ _ c.requires.0) c.requires.1, c.digit_of.ensures)

pub digit_of-requires-2 : goal.digit_of-requires-2
digit_of-requires-2 c = (two_digits (part_two _ _ c.requires.0) c.requires.1).1

pub overflow_add-result : goal.overflow_add-result
overflow_add-result c = omega (arith, below c)

pub returns : goal.returns
returns c = made c
