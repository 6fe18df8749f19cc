-- `clipping_predictor_level_buffer::level::measure` meets its contract: each return by the test of the sample count that leads there. Assumes nothing.
use mathlib.Core.Path.{ap, ◌∙◌}
use mathlib.Core.Bool.{Bool}
use Rattle.numbers.specs.Said.{accepted, said}
use Rattle.clipping_predictor_level_buffer.specs.Level.{frame_record, measured_if, measure_of}
use Rattle.clipping_predictor_level_buffer.proofs.level.measure.Goals as goal

pub returns-then-not-is_frame_size : goal.returns-then-not-is_frame_size
unfolding measure_of
returns-then-not-is_frame_size c =
    ap (λ (t : Bool). said (measured_if t (frame_record c.args.samples.now))) c.if-not-is_frame_size.ensures

pub returns : goal.returns
unfolding measure_of
returns c =
    ap accepted c.frame_record.ensures ∙ ap (λ (t : Bool). said (measured_if t (frame_record c.args.samples.now))) c.if-not-is_frame_size.ensures
