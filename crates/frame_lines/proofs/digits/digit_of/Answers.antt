-- `frame_lines::digits::digit_of` meets its contract. Assumes nothing.
use mathlib.Core.Path.{sym}
use Rattle.frame_lines.proofs.Counted.{counts}
use Rattle.frame_lines.proofs.digits.digit_of.Goals as goal

pub returns : goal.returns
returns c = sym (counts c.args.c c.requires).is
