-- What was used lies within the piece, and is not nothing, since there is room for an answer.
use Rattle.std.proofs.Common.{◌≡◌, ℕ, ◌+◌, ◌-◌, ◌<◌, ◌≤◌, List, length, take, drop, arith, length-drop}
use Rattle.std.proofs.Math.Seq.{length-take-le}
use Rattle.frame_answers.specs.declared.stream.Fed.{Fed}
use Rattle.frame_answers.specs.Stream.{State, FedAs}
use Rattle.frame_answers.proofs.Whole.{used_within, some_used}
use Rattle.framelines_files.proofs.answer_part.Goals as goal

moves : (self : State) (text before after : List ℕ) (at end : ℕ) (r : Fed) → FedAs self (take (end - at) (drop at text)) before after r → at < end → end ≤ length text → 5 ≤ length before
    → (at < at + r.used) × (at + r.used ≤ length text)
moves self text before after at end r f starts ends room =
    let piece : length (take (end - at) (drop at text)) ≡ end - at = length-take-le (end - at) (drop at text) (omega (arith, length-drop at text)) in
    (omega (arith, some_used self _ before after r f (omega arith) room), omega (arith, used_within self _ before after r f))

pub overflow_add-at : goal.overflow_add-at
overflow_add-at g c = omega (arith, moves _ _ _ _ _ _ _ c.feed-fed.ensures c.piece_end-end.ensures.0 c.piece_end-end.ensures.1 (omega arith))

pub loop-at-smaller : goal.loop-at-smaller
loop-at-smaller g c = omega (arith, moves _ _ _ _ _ _ _ c.feed-fed.ensures c.piece_end-end.ensures.0 c.piece_end-end.ensures.1 (omega arith))

pub loop-at-preserved : goal.loop-at-preserved
loop-at-preserved g c =
    let m = moves _ _ _ _ _ _ _ c.feed-fed.ensures c.piece_end-end.ensures.0 c.piece_end-end.ensures.1 (omega arith) in
    (m.1, omega arith, c.feed-fed.ensures.stream.good)
