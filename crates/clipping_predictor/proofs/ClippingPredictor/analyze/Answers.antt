-- `ClippingPredictor::analyze` meets its contract. Assumes nothing.
use mathlib.Core.Path.{◌≡◌, refl, ap, ◌∙◌}
use mathlib.Core.Bool.{Bool, true, false}
use native.Mathlib.Omega.{arith}
use Rattle.std.specs.Bool.{then_some}
use Rattle.std.specs.Prelude.{Option, ok_or}
use Rattle.numbers.specs.Said.{said}
use Rattle.numbers.specs.declared.refusal.Refusal.TheVariants.{FrameSize}
use Rattle.clipping_predictor.specs.Predictor.{outcome_if}
use Rattle.clipping_predictor.proofs.ClippingPredictor.analyze.Goals as goal

pub overflow_cast-self : goal.overflow_cast-self
overflow_cast-self c = omega (arith, c.requires.channels_high)

told : (fits : Bool) → ok_or (then_some fits tt) FrameSize ≡ outcome_if fits
told true = refl
told false = refl

pub returns : goal.returns
returns c = record {
  answer = ap said (c.ok_or.ensures.value ∙ ap (λ (o : Option (Unit {0})). ok_or o FrameSize) (c.then_some.ensures ∙ ap (λ (fits : Bool). then_some fits tt) c.frame_fits-fits.ensures) ∙ told _);
  entered = c.heard.ensures.entered;
}
