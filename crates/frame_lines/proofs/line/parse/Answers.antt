-- `frame_lines::line::parse` meets its contract, way by way. Assumes nothing.
use mathlib.Core.Path.{sym}
use native.Mathlib.Omega.{arith}
use Rattle.frame_lines.proofs.Parts.{lent_rest}
use Rattle.frame_lines.proofs.Heads.{told_fields, told_no_fields}
use Rattle.frame_lines.proofs.Parses.{over_long, headless, starts_within, room, cut_short, complete}
use Rattle.frame_lines.proofs.line.parse.Goals as goal

pub returns-then-line-gt-MOST_CHARACTERS : goal.returns-then-line-gt-MOST_CHARACTERS
returns-then-line-gt-MOST_CHARACTERS c = over_long _ _ c.if-line-gt-MOST_CHARACTERS.true

pub returns-in_err-head : goal.returns-in_err-head
returns-in_err-head c = rw c.from_residual.ensures (headless _ _ (told_no_fields _ (sym c.in_err-head.ensures)))

pub slice_bounds-text-count : goal.slice_bounds-text-count
slice_bounds-text-count c = starts_within _ _ (told_fields _ _ (sym c.in_ok-head.ensures))

pub slice_bounds-text-start : goal.slice_bounds-text-start
slice_bounds-text-start c = starts_within _ _ (told_fields _ _ (sym c.in_ok-head.ensures))

pub overflow_mul-count : goal.overflow_mul-count
overflow_mul-count c = omega (arith, room _ _ (told_fields _ _ (sym c.in_ok-head.ensures)) (omega arith) _ (lent_rest c.args.line.now c.in_ok-head.head.start) _ _ _ c.read_samples-count.ensures)

pub returns-then-count-text : goal.returns-then-count-text
returns-then-count-text c = cut_short _ _ (told_fields _ _ (sym c.in_ok-head.ensures)) (omega arith) _ (lent_rest c.args.line.now c.in_ok-head.head.start) _ _ _ c.read_samples-count.ensures c.if-count-text.true

pub returns : goal.returns
returns c = complete _ _ (told_fields _ _ (sym c.in_ok-head.ensures)) (omega arith) _ (lent_rest c.args.line.now c.in_ok-head.head.start) _ _ _ c.read_samples-count.ensures c.if-count-text.false
