-- `frame_lines::respelling::feed` meets its contract, way by way. Assumes nothing.
use mathlib.Core.Path.{sym, ap, subst}
use mathlib.Core.List.{List, ◌++◌}
use Prim.Native.Nat.{ℕ}
use native.Mathlib.Omega.{arith}
use lib.ListN.{take}
use lib.Seq.{length-take-le}
use Rattle.frame_lines.specs.Stream.{cut}
use Rattle.frame_lines.specs.Feeds.{kept, Keeps}
use Rattle.frame_lines.specs.Respelled.{text_of_line, AnswersIn}
use Rattle.frame_lines.proofs.Parts.{lent_rest}
use Rattle.frame_lines.proofs.Fedways.{nothing_used, goes_on, end_within, line_ends, room_used, rest_kept}
use Rattle.frame_lines.proofs.respelling.feed.Goals as goal

pub returns-then-room-lt-LONGEST_RESPELLING : goal.returns-then-room-lt-LONGEST_RESPELLING
returns-then-room-lt-LONGEST_RESPELLING c = nothing_used c.args.begun c.requires _ _ c.if-room-lt-LONGEST_RESPELLING.true

pub returns-then-room-written-lt-LONGEST_RESPELLING : goal.returns-then-room-written-lt-LONGEST_RESPELLING
returns-then-room-written-lt-LONGEST_RESPELLING c =
    room_used _ _ _ _ c.whole_lines-used.ensures c.args.begun c.requires (ap (λ (n : ℕ). take n c.args.begun.bytes) c.if-begun-eq0.true) c.if-room-written-lt-LONGEST_RESPELLING.true

pub returns-then-begun-eq0 : goal.returns-then-begun-eq0
returns-then-begun-eq0 c =
    rest_kept _ _ _ _ c.whole_lines-used.ensures c.args.begun c.requires (ap (λ (n : ℕ). take n c.args.begun.bytes) c.if-begun-eq0.true) (omega (arith, c.if-room-written-lt-LONGEST_RESPELLING.false)) _
    (subst (λ (t : List ℕ). Keeps (cut (kept c.args.begun ++ t)) c.append.result) (lent_rest c.args.piece.now c.whole_lines-used.result.used) c.append.ensures)

pub returns-in_default : goal.returns-in_default
returns-in_default c =
    goes_on c.args.begun c.requires _ _ (omega (arith, c.if-begun-eq0.false)) (omega (arith, c.if-room-lt-LONGEST_RESPELLING.false)) (sym c.in_default.ensures) _ c.append-in_default.ensures

pub slice_bounds-append-end-2 : goal.slice_bounds-append-end-2
slice_bounds-append-end-2 c =
    sym (length-take-le c.in-Some.end c.args.piece.now (omega (arith, end_within c.args.begun c.requires _ c.args.out.now (omega (arith, c.if-begun-eq0.false)) (omega (arith, c.if-room-lt-LONGEST_RESPELLING.false)) _ (sym c.in-Some.ensures))))

pub overflow_add-result : goal.overflow_add-result
overflow_add-result c = omega (arith, end_within c.args.begun c.requires _ c.args.out.now (omega (arith, c.if-begun-eq0.false)) (omega (arith, c.if-room-lt-LONGEST_RESPELLING.false)) _ (sym c.in-Some.ensures))

pub returns : goal.returns
returns c =
    line_ends c.args.begun c.requires _ _ (omega (arith, c.if-begun-eq0.false)) (omega (arith, c.if-room-lt-LONGEST_RESPELLING.false)) _ (sym c.in-Some.ensures) _ c.append-line.ensures _ _
    (subst (λ (t : List ℕ). AnswersIn (text_of_line t) c.args.out.now c.answer_line-written.new.out c.answer_line-written.result) c.text.ensures c.answer_line-written.ensures) _ c.cleared.ensures
