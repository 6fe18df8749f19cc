-- `clipping_predictor_level_buffer::level::Peaks::with` meets its contract: each part takes one sample more. Assumes nothing.
use Rattle.clipping_predictor_level_buffer.proofs.level.Peaks.with.Goals as goal

pub returns : goal.returns
returns c = λ i. record { w = c.with_sample.ensures i; x = c.with_sample-2.ensures i; y = c.with_sample-3.ensures i; z = c.with_sample-4.ensures i }
