-- `frame_answers::stream::Stream::feed` meets its contract: a line that has begun is ended, and then come those that lie within the piece. Assumes nothing.
use mathlib.Core.Path.{sym, ap}
use Prim.Native.Nat.{ℕ}
use native.Mathlib.Omega.{arith}
use lib.ListN.{take}
use lib.Seq.{length-take-le}
use Rattle.frame_answers.proofs.Turns.{starts, no_room}
use Rattle.frame_answers.proofs.Rest.{no_end, all_kept, end_within, others_fit, both_fed}
use Rattle.frame_answers.proofs.Whole.{used_within}
use borrow.Author.Rules.{rules}
use Rattle.frame_answers.proofs.stream.Stream.feed.Goals as goal

pub whole_lines-requires : goal.whole_lines-requires
whole_lines-requires c = (c.requires, ap (λ (n : ℕ). take n c.args.self.begun.bytes) c.if-self-eq0.true)

pub returns-then-room-lt-LONGEST : goal.returns-then-room-lt-LONGEST
returns-then-room-lt-LONGEST c = no_room _ _ _ _ _ _ _ _ (starts _ _ c.args.self c.requires) (omega (arith, c.if-room-lt-LONGEST.true))

pub keeping-requires : goal.keeping-requires
keeping-requires c = (c.requires, no_end c.args.self c.requires _ c.args.out.now (omega (arith, c.if-room-lt-LONGEST.false)) (sym c.in_default.ensures))

pub returns-in_default : goal.returns-in_default
returns-in_default c = all_kept c.args.self c.requires _ _ (omega (arith, c.if-room-lt-LONGEST.false)) (sym c.in_default.ensures) _ c.keeping.ensures

pub slice_bounds-ended-end : goal.slice_bounds-ended-end
slice_bounds-ended-end c =
    sym (length-take-le c.in-Some.end c.args.piece.now (omega (arith, end_within c.args.self c.requires _ c.args.out.now (omega (arith, c.if-room-lt-LONGEST.false)) _ (sym c.in-Some.ensures))))

pub overflow_add-from : goal.overflow_add-from
overflow_add-from c = omega (arith, end_within c.args.self c.requires _ c.args.out.now (omega (arith, c.if-room-lt-LONGEST.false)) _ (sym c.in-Some.ensures))

pub slice_bounds-whole_lines-count : goal.slice_bounds-whole_lines-count
slice_bounds-whole_lines-count c = omega (arith, end_within c.args.self c.requires _ c.args.out.now (omega (arith, c.if-room-lt-LONGEST.false)) _ (sym c.in-Some.ensures))

pub slice_bounds-whole_lines-start : goal.slice_bounds-whole_lines-start
slice_bounds-whole_lines-start c = omega (arith, end_within c.args.self c.requires _ c.args.out.now (omega (arith, c.if-room-lt-LONGEST.false)) _ (sym c.in-Some.ensures))

pub slice_bounds-whole_lines-end-2 : goal.slice_bounds-whole_lines-end-2
slice_bounds-whole_lines-end-2 c =
    omega (arith, others_fit c.args.self c.requires _ _ (omega (arith, c.if-room-lt-LONGEST.false)) _ (sym c.in-Some.ensures) _ c.ended-first.ensures _ _ c.put_reply-start.ensures)

pub overflow_add-rest : goal.overflow_add-rest
overflow_add-rest c = omega (arith, used_within _ _ _ _ _ (both_fed c.args.self c.requires _ _ (omega (arith, c.if-room-lt-LONGEST.false)) _ (sym c.in-Some.ensures) _ c.ended-first.ensures _ _ c.put_reply-start.ensures _ (search rules) _ c.whole_lines-rest.ensures))

pub returns : goal.returns
returns c = both_fed c.args.self c.requires _ _ (omega (arith, c.if-room-lt-LONGEST.false)) _ (sym c.in-Some.ensures) _ c.ended-first.ensures _ _ c.put_reply-start.ensures _ (search rules) _ c.whole_lines-rest.ensures
