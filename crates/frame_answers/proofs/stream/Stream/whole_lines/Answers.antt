-- `frame_answers::stream::Stream::whole_lines` meets its contract: at each turn the stream is fed a line. Assumes nothing.
use mathlib.Core.Path.{sym, ap, subst, ◌∙◌}
use mathlib.Core.List.{List, ◌++◌}
use Prim.Native.Nat.{ℕ}
use native.Mathlib.Omega.{arith}
use lib.Ieee.{binary32, of_bits}
use lib.ListN.{length-replicate}
use Rattle.frame_lines.specs.Stream.{ended}
use Rattle.frame_lines.specs.Feeds.{kept}
use Rattle.frame_lines.proofs.Parts.{lent_rest}
use Rattle.frame_lines.proofs.Meanings.{told_frame}
use Rattle.frame_answers.specs.Stream.{view_of, Becomes, after_piece}
use Rattle.frame_answers.proofs.Lines.{refused_early, was_parsed, makes_calls}
use Rattle.frame_answers.proofs.Turns.{starts, found_at, goes_on, no_room, none_ends, ends_piece}
use Rattle.frame_answers.proofs.Streams.{ends_within}
use borrow.Author.Rules.{rules}
use Rattle.frame_answers.proofs.stream.Stream.whole_lines.Goals as goal

pub loop-room-init : goal.loop-room-init
loop-room-init c = (length-replicate 496 (of_bits binary32 0), starts _ _ c.args.self c.requires.0)

pub keeping-requires : goal.keeping-requires
keeping-requires c = (
  c.loop-room.invariant.1.becomes.good,
  ap (λ (t : List ℕ). ended (kept c.args.self.begun ++ t)) (lent_rest c.args.piece.now c.loop-room.at)
      ∙ none_ends _ _ _ _ _ _ _ _ c.loop-room.invariant.1 (sym c.in_default.ensures) c.loop-room-test.true,
)

pub returns-in_default : goal.returns-in_default
returns-in_default c =
    ends_piece _ _ _ _ _ _ _ _ c.loop-room.invariant.1 (sym c.in_default.ensures) c.loop-room-test.true c.keeping.result
    (subst (λ (t : List ℕ). Becomes (after_piece (view_of (record { controller = c.loop-room.controller; begun = c.args.self.begun })) t) c.keeping.result) (lent_rest c.args.piece.now c.loop-room.at) c.keeping.ensures)

pub slice_bounds-parse-count : goal.slice_bounds-parse-count
slice_bounds-parse-count c = (found_at _ _ _ _ _ _ _ _ c.loop-room.invariant.1 _ (sym c.in-Some.ensures) c.loop-room-test.true).0

pub slice_bounds-parse-start : goal.slice_bounds-parse-start
slice_bounds-parse-start c = (found_at _ _ _ _ _ _ _ _ c.loop-room.invariant.1 _ (sym c.in-Some.ensures) c.loop-room-test.true).0

pub slice_bounds-parse-end : goal.slice_bounds-parse-end
slice_bounds-parse-end c = omega (arith, found_at _ _ _ _ _ _ _ _ c.loop-room.invariant.1 _ (sym c.in-Some.ensures) c.loop-room-test.true)

pub loop-room-preserved-in-Err : goal.loop-room-preserved-in-Err
loop-room-preserved-in-Err c =
    let g = c.loop-room.invariant.1.becomes.good in (
      search rules,
      goes_on _ _ _ _ _ _ _ _ c.loop-room.invariant.1 _ (sym c.in-Some.ensures) c.loop-room-test.true _
          (ends_within (record { controller = c.loop-room.controller; begun = c.args.self.begun }) g c.requires.1 _ _ (refused_early _ _ _ _ _ _ g.controller c.parse.ensures (sym c.in-Err.ensures)))
          _ _ c.put_reply-written.ensures,
    )

pub loop-room-preserved : goal.loop-room-preserved
loop-room-preserved c = (
  search rules,
  goes_on _ _ _ _ _ _ _ _ c.loop-room.invariant.1 _ (sym c.in-Some.ensures) c.loop-room-test.true _
      (ends_within (record { controller = c.loop-room.controller; begun = c.args.self.begun }) c.loop-room.invariant.1.becomes.good c.requires.1 _ _
      (c.answer_frame-reply.ensures _ (makes_calls _ _ _ _ (told_frame _ _ _ _ _ (omega (arith, c.loop-room.invariant.0)) c.parse.ensures (was_parsed _ _ (sym c.in-Ok.ensures))))))
      _ _ c.put_reply-written-in-Ok.ensures,
)

pub returns : goal.returns
returns c = no_room _ _ _ _ _ _ _ _ c.loop-room.invariant.1 (omega arith)
