-- `frame_lines::digits::all_digits` meets its contract: each turn tells of one character more. Assumes nothing.
use mathlib.Core.Path.{◌≡◌}
use lib.ListN.{take}
use Rattle.frame_lines.specs.Digits.{are_digits}
use Rattle.frame_lines.proofs.digits.all_digits.Given as goal

abbrev pub invariant-loop-c : goal.invariant-loop-c
invariant-loop-c l = l.so_far ≡ are_digits (take l.c-index l.text)
