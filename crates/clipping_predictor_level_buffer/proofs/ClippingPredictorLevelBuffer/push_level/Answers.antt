-- `clipping_predictor_level_buffer::ClippingPredictorLevelBuffer::push_level` meets its contract: each return by the test of its count. Assumes nothing.
use native.Mathlib.Omega.{arith}
use Rattle.clipping_predictor_level_buffer.proofs.Counts.{is_count_lem, no_count, push_refused, push_accepted}
use Rattle.clipping_predictor_level_buffer.proofs.ClippingPredictorLevelBuffer.push_level.Goals as goal

pub returns-then-level : goal.returns-then-level
returns-then-level c = push_refused _ _ _ (no_count _ (omega arith)) c.requires

pub returns : goal.returns
returns c = push_accepted _ _ _ _ (is_count_lem _ (omega arith)) c.pushed.ensures
