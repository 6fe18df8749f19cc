-- `making::with_settings` meets its contract: the predictor's check decides. Assumes nothing.
use mathlib.Core.Path.{sym, ap, subst, ◌∙◌}
use Rattle.std.specs.Prelude.{Result}
use Rattle.numbers.specs.declared.refusal.Refusal.{Refusal}
use Rattle.numbers.proofs.Said.{said_fixed}
use Rattle.numbers.proofs.Asked.{passed_on}
use Rattle.clipping_predictor.specs.Settings.{settings_of}
use Rattle.input_volume_controller.specs.declared.making.Decided.{Decided}
use Rattle.input_volume_controller.specs.Controller.{switched, Making, made_with, DecidedAs}
use Rattle.input_volume_controller.proofs.making.with_settings.Goals as goal

pub returns-in_err-check : goal.returns-in_err-check
unfolding made_with
returns-in_err-check c =
    let chosen = said_fixed c.check.result (settings_of c.switched-chosen.result) c.check.ensures in
    subst (λ (r : Result Decided Refusal). DecidedAs (made_with c.args.channels c.args.s (settings_of (switched c.args.s.predicts c.args.predictor))) r)
    (sym (passed_on _ _ c.from_residual.ensures.1))
    (ap (made_with c.args.channels c.args.s) (sym (chosen ∙ ap settings_of c.switched-chosen.ensures) ∙ c.in_err-check.was))

pub returns : goal.returns
unfolding made_with
returns c =
    let chosen = said_fixed c.check.result (settings_of c.switched-chosen.result) c.check.ensures in
    let e = ap (made_with c.args.channels c.args.s) (sym (chosen ∙ ap settings_of c.switched-chosen.ensures) ∙ c.in_ok-check.was) in (
      ap (λ (m : Making). m.answer) e,
      record {
        low = c.requires.0;
        high = c.requires.1;
        settings = c.requires.2;
        predictor = c.in_ok-check.field-0;
        checked = sym chosen ∙ c.in_ok-check.was;
        is = sym (ap (λ (m : Making). m.controller) e);
      },
    )
