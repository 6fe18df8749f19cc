-- `frame_lines::digits::word_of` meets its contract. Assumes nothing.
use mathlib.Core.Path.{sym, ap, ◌∙◌}
use native.Mathlib.Omega.{arith}
use Rattle.frame_lines.specs.Words.{word_of}
use Rattle.frame_lines.proofs.Parts.{part_four}
use Rattle.frame_lines.proofs.digits.word_of.Goals as goal

pub returns : goal.returns
unfolding word_of
returns c = let p = part_four _ _ c.requires in c.from_le_bytes.ensures ∙ sym (ap word_of p ∙ omega arith)
