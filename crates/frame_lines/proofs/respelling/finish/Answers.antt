-- `frame_lines::respelling::finish` meets its contract, way by way. Assumes nothing.
use mathlib.Core.Path.{subst}
use mathlib.Core.List.{List}
use Prim.Native.Nat.{ℕ}
use native.Mathlib.Omega.{arith}
use Rattle.frame_lines.specs.Respelled.{text_of_line, AnswersIn}
use Rattle.frame_lines.proofs.Fedways.{nothing_left, unanswered, last_answered}
use Rattle.frame_lines.proofs.respelling.finish.Goals as goal

pub returns-then-begun-eq0 : goal.returns-then-begun-eq0
returns-then-begun-eq0 c = nothing_left c.args.begun c.requires _ c.if-begun-eq0.true

pub returns-then-out-lt-LONGEST_RESPELLING : goal.returns-then-out-lt-LONGEST_RESPELLING
returns-then-out-lt-LONGEST_RESPELLING c = unanswered c.args.begun c.requires _ c.if-out-lt-LONGEST_RESPELLING.true

pub returns : goal.returns
returns c =
    last_answered c.args.begun c.requires _ (omega (arith, c.if-begun-eq0.false)) (omega (arith, c.if-out-lt-LONGEST_RESPELLING.false)) _ _
    (subst (λ (t : List ℕ). AnswersIn (text_of_line t) c.args.out.now c.answer_line.new.out c.answer_line.result) c.text.ensures c.answer_line.ensures)
