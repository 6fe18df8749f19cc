-- `VolumeNumbersFromOptionI32`: `from` gives what `volume_numbers` says. Assumes nothing.
use mathlib.Core.Path.{sym, ap, ◌∙◌}
use Rattle.std.specs.Prelude.{ℤ, Option}
use Rattle.numbers.proofs.Signs.{again}
use Rattle.input_volume_controller.specs.Reply.{recommendation_says}
use Rattle.agc2.specs.Answers.{volume_numbers}
use Rattle.agc2.proofs.answers.VolumeNumbersFromOptionI32.from.Goals as goal

pub returns-in-Some : goal.returns-in-Some
returns-in-Some c = (λ i. record { present = 1; volume = again c.in-Some.volume c.in-Some.known_told-1-own.given.0.1 i }) ∙ sym (ap (λ (a : Option ℤ). volume_numbers (recommendation_says a)) c.in-Some.is)

pub returns-in-None : goal.returns-in-None
returns-in-None c = sym (ap (λ (a : Option ℤ). volume_numbers (recommendation_says a)) c.in-None.is)
