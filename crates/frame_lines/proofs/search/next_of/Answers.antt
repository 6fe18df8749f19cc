-- `frame_lines::search::next_of` meets its contract: behind the end there is nothing, and the first place in a part is counted from its start. Assumes nothing.
use native.Mathlib.Omega.{arith}
use Rattle.frame_lines.proofs.Parts.{lent_rest}
use Rattle.frame_lines.proofs.Searching.{place_found, place_lost, place_behind}
use Rattle.frame_lines.proofs.search.next_of.Goals as goal

pub returns-then-bytes-start : goal.returns-then-bytes-start
returns-then-bytes-start c = place_behind _ _ _ (omega (arith, c.if-bytes-start.true))

pub returns-in_err-n : goal.returns-in_err-n
returns-in_err-n c = rw c.from_residual.ensures (place_lost _ _ _ _ (lent_rest c.args.bytes.now c.args.start) c.in_err-n.ensures)

pub returns : goal.returns
returns c = place_found _ _ _ _ (lent_rest c.args.bytes.now c.args.start) _ c.in_ok-n.ensures
