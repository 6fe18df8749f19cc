-- `frame_answers::stream::Stream::ended` meets its contract. Assumes nothing.
use mathlib.Core.Path.{subst}
use mathlib.Core.List.{List}
use Prim.Native.Nat.{ℕ}
use Rattle.frame_answers.specs.Answered.{AnsweredAs}
use Rattle.frame_answers.proofs.Streams.{ends_begun}
use Rattle.frame_answers.proofs.stream.Stream.ended.Goals as goal

pub returns : goal.returns
returns c =
    ends_begun c.args.self c.requires _ _ c.append-whole.ensures _
    (subst (λ (t : List ℕ). AnsweredAs c.args.self.controller t c.answer_line-answered.result) c.text.ensures c.answer_line-answered.ensures)
    _ c.cleared.ensures
