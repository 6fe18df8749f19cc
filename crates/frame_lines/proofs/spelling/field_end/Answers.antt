-- `frame_lines::spelling::field_end` meets its contract: a field ends before a blank, or with the line. Assumes nothing.
use mathlib.Core.Path.{sym}
use Rattle.frame_lines.proofs.Walking.{ends_at, ends_line}
use Rattle.frame_lines.proofs.spelling.field_end.Goals as goal

pub returns-in-Some : goal.returns-in-Some
returns-in-Some c =
    ends_at _ _ c.requires _ (sym c.in-Some.ensures)

pub returns-in-None : goal.returns-in-None
returns-in-None c =
    ends_line _ _ c.requires (sym c.in-None.ensures)
