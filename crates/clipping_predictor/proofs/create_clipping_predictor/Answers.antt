-- `clipping_predictor::create_clipping_predictor` meets its contract: what was decided is built. Assumes nothing.
use mathlib.Core.Path.{ap, subst, ◌∙◌}
use lib.IntN.{ℤ}
use Rattle.numbers.proofs.Signs.{again}
use Rattle.numbers.specs.Said.{said}
use Rattle.clipping_predictor.specs.Predictor.{making_of, AnsweredAs}
use Rattle.clipping_predictor.proofs.create_clipping_predictor.Goals as goal

pub returns : goal.returns
returns c =
    let h = subst (λ (z : ℤ). AnsweredAs (making_of z c.args.config) c.answered-answer.result.0 c.answered-answer.result.1) (again c.args.num_channels c.ranges.num_channels.sfits) c.answered-answer.ensures in
    record { good = c.fresh.ensures.good; answer = ap said h.0; view = c.fresh.ensures.view ∙ h.1.is }
