-- `frame_lines::respelling::whole_lines` meets its contract: at each turn one line is answered. Assumes nothing.
use mathlib.Core.Path.{sym}
use native.Mathlib.Omega.{arith}
use borrow.Author.Rules.{rules}
use Rattle.frame_lines.proofs.Wholes.{starts, found_at, none_ends, one_more}
use Rattle.frame_lines.proofs.respelling.whole_lines.Goals as goal

pub loop-out-init : goal.loop-out-init
loop-out-init c = starts _ _

pub returns-in_default : goal.returns-in_default
returns-in_default c = none_ends _ _ _ _ _ c.loop-out.invariant (sym c.in_default.ensures)

pub slice_bounds-answer_line-count : goal.slice_bounds-answer_line-count
slice_bounds-answer_line-count c = (found_at _ _ _ (sym c.in-Some.ensures)).0

pub slice_bounds-answer_line-start : goal.slice_bounds-answer_line-start
slice_bounds-answer_line-start c = (found_at _ _ _ (sym c.in-Some.ensures)).0

pub slice_bounds-answer_line-end : goal.slice_bounds-answer_line-end
slice_bounds-answer_line-end c = omega (arith, (found_at c.args.piece.now c.loop-out.used c.in-Some.end (sym c.in-Some.ensures)).1)

pub loop-out-smaller : goal.loop-out-smaller
loop-out-smaller c = omega (arith, found_at c.args.piece.now c.loop-out.used c.in-Some.end (sym c.in-Some.ensures))

pub loop-out-preserved : goal.loop-out-preserved
loop-out-preserved c =
    one_more _ _ _ _ _ c.loop-out.invariant _ (sym c.in-Some.ensures) (omega (arith, c.loop-out-test.true)) _ _ (search rules) c.answer_line-written.ensures
