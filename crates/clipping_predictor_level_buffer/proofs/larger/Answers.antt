-- `clipping_predictor_level_buffer::larger` meets its contract: each arm goes by its test. Assumes nothing.
use mathlib.Core.Path.{sym, ap}
use mathlib.Core.Bool.{Bool}
use Rattle.clipping_predictor_level_buffer.specs.Statistics.{second_if}
use Rattle.clipping_predictor_level_buffer.proofs.larger.Goals as goal

pub returns-then-a-b : goal.returns-then-a-b
returns-then-a-b c = ap (λ (t : Bool). second_if t c.args.a c.args.b) (sym c.if-a-b.true)

pub returns-else-a-b : goal.returns-else-a-b
returns-else-a-b c = ap (λ (t : Bool). second_if t c.args.a c.args.b) (sym c.if-a-b.false)
