-- `FrameNumbersFromResultBoolRefusal`: `from` gives what `frame_numbers` says. Assumes nothing.
use mathlib.Core.Path.{sym, ap, ◌∙◌}
use Rattle.std.specs.Prelude.{Bool, Result}
use Rattle.numbers.specs.declared.refusal.Refusal.{Refusal}
use Rattle.input_volume_controller.specs.Reply.{analysis_says}
use Rattle.input_volume_controller.proofs.Flags.{flag_is}
use Rattle.agc2.specs.Answers.{frame_numbers}
use Rattle.agc2.proofs.answers.FrameNumbersFromResultBoolRefusal.from.Goals as goal

pub returns-in-Ok : goal.returns-in-Ok
returns-in-Ok c = (λ i. record { refusal = 0; near = (c.from.ensures ∙ flag_is c.in-Ok.near) i }) ∙ sym (ap (λ (a : Result Bool Refusal). frame_numbers (analysis_says a)) c.in-Ok.is)

pub returns-in-Err : goal.returns-in-Err
returns-in-Err c = (λ i. record { refusal = c.number.ensures i; near = 0 }) ∙ sym (ap (λ (a : Result Bool Refusal). frame_numbers (analysis_says a)) c.in-Err.is)
