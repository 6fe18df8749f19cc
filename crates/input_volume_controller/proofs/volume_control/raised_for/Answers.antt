-- `volume_control::raised_for` meets its contract. Assumes nothing.
use mathlib.Core.Path.{sym, ap, ◌∙◌}
use Rattle.std.specs.Prelude.{ℕ, Option}
use Rattle.input_volume_controller.specs.ControlCalls.{raised_for}
use Rattle.input_volume_controller.proofs.Volumes.{raised_zero, raised_above}
use Rattle.input_volume_controller.proofs.volume_control.raised_for.Goals as goal

pub returns-in-None : goal.returns-in-None
unfolding raised_for
returns-in-None c = sym (ap (λ (a : Option ℕ). raised_for a c.args.least c.args.volume) c.in-None.is)

pub returns-in-Some-eq0 : goal.returns-in-Some-eq0
returns-in-Some-eq0 c =
    raised_zero _ _ _ (sym c.in-Some-eq0.field-0-is ∙ c.in-Some-eq0.field-0-test) ∙ sym (ap (λ (a : Option ℕ). raised_for a c.args.least c.args.volume) c.in-Some-eq0.is)

pub returns-in-Some : goal.returns-in-Some
returns-in-Some c =
    c.max.ensures ∙ raised_above _ _ _ (λ e. c.in-Some.field-0-test.1 (c.in-Some.field-0-is ∙ e)) ∙ sym (ap (λ (a : Option ℕ). raised_for a c.args.least c.args.volume) c.in-Some.is)
