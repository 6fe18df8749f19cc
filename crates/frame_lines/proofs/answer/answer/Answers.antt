-- `frame_lines::answer::answer` meets its contract: the number of a refusal has at most two digits. Assumes nothing.
use mathlib.Core.Path.{sym, ap, ◌∙◌}
use Prim.Native.Nat.{ℕ}
use Rattle.frame_lines.specs.Answer.{Reply, number_text, answer_of, held}
use Rattle.frame_lines.proofs.answer.answer.Goals as goal

pub returns-in-Ok : goal.returns-in-Ok
unfolding answer_of
returns-in-Ok c = c.volume_text.ensures ∙ sym (ap (λ (r : Reply). held (answer_of r)) c.in-Ok.is)

pub returns-in-Err : goal.returns-in-Err
unfolding answer_of
returns-in-Err c =
    c.number_text.ensures
    ∙ ap (λ (n : ℕ). held (number_text n)) c.number.ensures
    ∙ sym (ap (λ (r : Reply). held (answer_of r)) c.in-Err.is)
