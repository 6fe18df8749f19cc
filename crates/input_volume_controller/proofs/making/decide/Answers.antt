-- `making::decide` meets its contract: the channel count is tested first, then the settings, and then the predictor. Assumes nothing.
use mathlib.Core.Path.{◌≡◌, refl, sym, ap, ap₂, subst, ◌∙◌}
use Rattle.std.specs.Prelude.{ℕ, ℤ, Option, Result}
use Rattle.numbers.specs.declared.refusal.Refusal.{Refusal}
use Rattle.mono_input_volume_controller.specs.declared.config.Settings.{Settings}
use Rattle.numbers.specs.Natural.{within_of}
use lib.Signed.{mag}
use Prim.Native.Nat.{◌<◌, ◌^◌}
use Rattle.numbers.proofs.Signs.{read, again}
use Rattle.numbers.proofs.Asked.{asked_some, asked_none, handed_on, passed_on}
use Rattle.numbers.proofs.Ranges.{told}
use Rattle.numbers.proofs.Said.{said_fixed}
use Rattle.clipping_predictor.specs.Predictor.{max_channels}
use Rattle.mono_input_volume_controller.specs.Config.{settings_of}
use Rattle.mono_input_volume_controller.specs.declared.config.Config.{Config}
use Rattle.clipping_predictor.specs.declared.settings.ClippingPredictorConfig.{ClippingPredictorConfig}
use Rattle.input_volume_controller.specs.declared.making.Decided.{Decided}
use Rattle.input_volume_controller.specs.Controller.{Making, made_of, making_with, DecidedAs}
use Rattle.mono_input_volume_controller.proofs.Checked.{checked_good}
use Rattle.input_volume_controller.proofs.making.decide.Goals as goal

-- the making, from what the two tests say; the channel count is the one that the machine reads back
of_parts : (z : ℤ) (config : Config) (predictor : ClippingPredictorConfig) (a : Option ℕ) (b : Result Settings Refusal) → mag z < 2 ^ 31 → within_of 1 max_channels (read z) ≡ a → settings_of config ≡ b
    → making_with z config predictor ≡ made_of a b predictor
unfolding making_with
of_parts z config predictor a b h p q = ap₂ (λ (x : Option ℕ) (y : Result Settings Refusal). made_of x y predictor) (sym (ap (within_of 1 max_channels) (again z h)) ∙ p) q

pub returns-in_err-channels : goal.returns-in_err-channels
unfolding made_of
returns-in_err-channels c =
    subst (λ (r : Result Decided Refusal). DecidedAs (making_with c.args.num_capture_channels c.args.config c.args.predictor) r)
    (sym (handed_on _ _ _ _ c.from_residual.ensures.1 c.ok_or.ensures.value c.in_err-channels.was))
    (of_parts _ _ _ _ (settings_of c.args.config) c.ranges.num_capture_channels.sfits (asked_none _ _ _ _ c.within.ensures c.ok_or.ensures.value c.in_err-channels.was) refl)

pub returns-in_err-settings : goal.returns-in_err-settings
unfolding made_of
returns-in_err-settings c =
    subst (λ (r : Result Decided Refusal). DecidedAs (making_with c.args.num_capture_channels c.args.config c.args.predictor) r)
    (sym (passed_on _ _ c.from_residual-in_err-settings.ensures.1))
    (of_parts _ _ _ _ _ c.ranges.num_capture_channels.sfits (asked_some _ _ _ _ c.within.ensures c.ok_or.ensures.value c.in_ok-channels.was) (sym (said_fixed c.check.result (settings_of c.args.config) c.check.ensures) ∙ c.in_err-settings.was))

pub with_settings-requires : goal.with_settings-requires
with_settings-requires c =
    let t = told 1 max_channels _ _ (asked_some _ _ _ _ c.within.ensures c.ok_or.ensures.value c.in_ok-channels.was) in
    (t.least, t.most, checked_good _ _ (sym (said_fixed c.check.result (settings_of c.args.config) c.check.ensures) ∙ c.in_ok-settings.was))

pub returns : goal.returns
unfolding made_of
returns c =
    let e = of_parts _ _ _ _ _ c.ranges.num_capture_channels.sfits (asked_some _ _ _ _ c.within.ensures c.ok_or.ensures.value c.in_ok-channels.was) (sym (said_fixed c.check.result (settings_of c.args.config) c.check.ensures) ∙ c.in_ok-settings.was) in
    subst (λ (m : Making). DecidedAs m c.with_settings.result) (sym e) c.with_settings.ensures
