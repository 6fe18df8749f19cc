-- `modes::after_test` meets its contract. Assumes nothing.
use mathlib.Core.Path.{◌∙◌}
use Rattle.clipping_predictor.proofs.Paths.{held_near, failed_near}
use Rattle.clipping_predictor.proofs.modes.after_test.Goals as goal

pub returns-then-outcome : goal.returns-then-outcome
returns-then-outcome c = c.both_ways.ensures ∙ held_near c.args.outcome c.args.near c.args.held c.args.failed c.if-near.true c.if-outcome.true

pub returns-then-near : goal.returns-then-near
returns-then-near c = c.both_ways-then-near.ensures ∙ failed_near c.args.outcome c.args.near c.args.held c.args.failed c.if-near.true c.if-outcome.false
