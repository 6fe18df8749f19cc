-- `frame_lines::lines::Begun::append` meets its contract: the part is copied as far as there is room. Assumes nothing.
use native.Mathlib.Omega.{arith}
use Rattle.frame_lines.proofs.Keeping.{keeps}
use Rattle.frame_lines.proofs.lines.Begun.append.Goals as goal

pub returns : goal.returns
returns c = keeps c.args.self c.requires c.args.part.now c.room-count.result c.room-count.ensures _ c.copy_from_slice.new.self c.copy_from_slice.ensures.after (omega arith)
