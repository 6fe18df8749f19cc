-- `clipping_predictor::making::decide` meets its contract: the channel count is tested first, and then the settings. Assumes nothing.
use mathlib.Core.Path.{◌≡◌, refl, sym, ap, ap₂, subst, ◌∙◌}
use Rattle.std.specs.Prelude.{ℕ, ℤ, Option, Result}
use Rattle.numbers.specs.declared.refusal.Refusal.{Refusal}
use Rattle.clipping_predictor.specs.declared.settings.Settings.{Settings}
use Rattle.clipping_predictor.specs.declared.settings.ClippingPredictorConfig.{ClippingPredictorConfig}
use Rattle.clipping_predictor.specs.declared.making.Decided.{Decided}
use Rattle.numbers.specs.Natural.{within_of}
use lib.Signed.{mag}
use Prim.Native.Nat.{◌<◌, ◌^◌}
use Rattle.numbers.proofs.Signs.{read, again}
use Rattle.numbers.proofs.Asked.{asked_some, asked_none, handed_on, passed_on}
use Rattle.numbers.proofs.Ranges.{told}
use Rattle.numbers.proofs.Said.{said_fixed}
use Rattle.clipping_predictor.specs.Settings.{settings_of}
use Rattle.clipping_predictor.specs.Predictor.{max_channels, Making, made_of, making_of, DecidedAs}
use Rattle.clipping_predictor.proofs.Rings.{good_settings}
use Rattle.clipping_predictor.proofs.making.decide.Goals as goal

-- the making, from what the two tests say; the channel count is the one that the machine reads back
of_parts : (z : ℤ) (config : ClippingPredictorConfig) (a : Option ℕ) (b : Result Settings Refusal) → mag z < 2 ^ 31 → within_of 1 max_channels (read z) ≡ a → settings_of config ≡ b → making_of z config ≡ made_of a b
unfolding making_of
of_parts z config a b h p q = ap₂ made_of (sym (ap (within_of 1 max_channels) (again z h)) ∙ p) q

pub returns-in_err-channels : goal.returns-in_err-channels
unfolding made_of
returns-in_err-channels c =
    subst (λ (r : Result Decided Refusal). DecidedAs (making_of c.args.num_channels c.args.config) r)
    (sym (handed_on _ _ _ _ c.from_residual.ensures.1 c.ok_or.ensures.value c.in_err-channels.was))
    (of_parts _ _ _ (settings_of c.args.config) c.ranges.num_channels.sfits (asked_none _ _ _ _ c.within.ensures c.ok_or.ensures.value c.in_err-channels.was) refl)

pub returns-in_err-settings : goal.returns-in_err-settings
unfolding made_of
returns-in_err-settings c =
    subst (λ (r : Result Decided Refusal). DecidedAs (making_of c.args.num_channels c.args.config) r)
    (sym (passed_on _ _ c.from_residual-in_err-settings.ensures.1))
    (of_parts _ _ _ _ c.ranges.num_channels.sfits (asked_some _ _ _ _ c.within.ensures c.ok_or.ensures.value c.in_ok-channels.was) (sym (said_fixed c.check.result (settings_of c.args.config) c.check.ensures) ∙ c.in_err-settings.was))

pub returns : goal.returns
unfolding made_of
returns c =
    let counted = asked_some _ _ _ _ c.within.ensures c.ok_or.ensures.value c.in_ok-channels.was in
    let checked = sym (said_fixed c.check.result (settings_of c.args.config) c.check.ensures) ∙ c.in_ok-settings.was in
    let t = told 1 max_channels _ _ counted in
    let e = of_parts _ _ _ _ c.ranges.num_channels.sfits counted checked in
    (ap (λ (m : Making). m.answer) e, record { low = t.least; high = t.most; settings = good_settings _ _ checked; is = sym (ap (λ (m : Making). m.predictor) e) })
