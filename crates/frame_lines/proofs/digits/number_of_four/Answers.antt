-- `frame_lines::digits::number_of_four` meets its contract: its masks and joins make the number. Assumes nothing.
use Prim.Native.Nat.{◌+◌, ◌*◌, ◌/◌, ◌≤◌}
use native.Mathlib.Omega.{arith}
use lib.Bits.{bit_and}
use Rattle.frame_lines.proofs.Parts.{part_four}
use Rattle.frame_lines.proofs.Masks.{values_most, joined}
use Rattle.frame_lines.proofs.digits.number_of_four.Goals as goal
use Rattle.frame_lines.proofs.digits.number_of_four.Goals.{After-word_of-word}

most : (c : After-word_of-word) → bit_and c.word_of-word.result 0x0f0f0f0f + bit_and c.word_of-word.result 0x40404040 / 64 * 9 ≤ 0x0f0f0f0f
most c = values_most (part_four _ _ c.requires.0) c.requires.1 _ c.word_of-word.ensures

pub overflow_mul-pairs : goal.overflow_mul-pairs
overflow_mul-pairs c = omega (arith, most c)

pub overflow_add-pairs : goal.overflow_add-pairs
overflow_add-pairs c = omega (arith, most c)

pub returns : goal.returns
returns c = joined (part_four _ _ c.requires.0) c.requires.1 _ c.word_of-word.ensures
