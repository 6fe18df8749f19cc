-- `clipping_predictor::making::answered` meets its contract: what was decided, or what stands beside a refusal. Assumes nothing.
use mathlib.Core.Path.{sym, ap, subst}
use lib.IntN.{ℤ}
use Rattle.numbers.proofs.Signs.{again}
use Rattle.clipping_predictor.specs.Predictor.{Making, making_of, BuildsAs, DecidedAs}
use Rattle.clipping_predictor.proofs.making.answered.Goals as goal

pub returns-in-Ok : goal.returns-in-Ok
returns-in-Ok c =
    let told = subst (λ (z : ℤ). DecidedAs (making_of z c.args.config) c.decide.result) (again c.args.num_channels c.ranges.num_channels.sfits) c.decide.ensures in
    let h = subst (DecidedAs (making_of c.args.num_channels c.args.config)) c.in-Ok.is told in
    (sym h.0, h.1)

pub returns-in-Err : goal.returns-in-Err
returns-in-Err c =
    let told = subst (λ (z : ℤ). DecidedAs (making_of z c.args.config) c.decide.result) (again c.args.num_channels c.ranges.num_channels.sfits) c.decide.ensures in
    let h = subst (DecidedAs (making_of c.args.num_channels c.args.config)) c.in-Err.is told in
    (ap (λ (m : Making). m.answer) (sym h), subst (λ (m : Making). BuildsAs m.predictor c.unmade.result) (sym h) c.unmade.ensures)
