-- `clipping_predictor::modes::Prediction::by_mode` meets its contract, mode by mode. Assumes nothing.
use mathlib.Core.Path.{sym, ap, ◌∙◌}
use borrow.Author.Rules.{rules}
use Rattle.clipping_predictor.specs.declared.settings.ClippingPredictorMode.{ClippingPredictorMode}
use Rattle.clipping_predictor.specs.Tree.{leaf}
use Rattle.clipping_predictor.specs.Turned.{estimated}
use Rattle.clipping_predictor.specs.Estimate.{drop_by, mode_tree}
use Rattle.clipping_predictor.proofs.modes.Prediction.by_mode.Goals as goal

pub returns-in-FixedStepClippingPeakPrediction : goal.returns-in-FixedStepClippingPeakPrediction
unfolding estimated
returns-in-FixedStepClippingPeakPrediction c =
    let a = c.args.self.asked in
    c.predict_clipping_peak-in-FixedStepClippingPeakPrediction.ensures (leaf (drop_by a a.step)) (λ r p. search rules)
    ∙ sym (ap (λ (m : ClippingPredictorMode). estimated (mode_tree m c.args.self.settings c.args.self.window c.args.self.reference a)) c.in-FixedStepClippingPeakPrediction.is)
