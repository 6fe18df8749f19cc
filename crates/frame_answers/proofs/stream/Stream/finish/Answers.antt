-- `frame_answers::stream::Stream::finish` meets its contract. Assumes nothing.
use mathlib.Core.Path.{subst}
use mathlib.Core.List.{List}
use Prim.Native.Nat.{ℕ}
use Rattle.frame_answers.specs.Answered.{AnsweredAs}
use Rattle.frame_answers.proofs.Streams.{nothing_left, line_left}
use Rattle.frame_answers.proofs.stream.Stream.finish.Goals as goal

pub returns-then-self-eq0 : goal.returns-then-self-eq0
returns-then-self-eq0 c = nothing_left c.args.self c.if-self-eq0.true

pub returns : goal.returns
returns c =
    line_left c.args.self c.requires c.if-self-eq0.false _
    (subst (λ (t : List ℕ). AnsweredAs c.args.self.controller t c.answer_line-answered.result) c.text.ensures c.answer_line-answered.ensures)
    _ c.answer.ensures
