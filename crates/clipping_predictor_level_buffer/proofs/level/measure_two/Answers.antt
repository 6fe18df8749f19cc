-- `clipping_predictor_level_buffer::level::measure_two` meets its contract: each return by the tests of the sample counts that lead there. Assumes nothing.
use mathlib.Core.Path.{sym, ap, ◌∙◌}
use mathlib.Core.Bool.{◌&&◌}
use lib.Dec.{eqb}
use lib.ListN.{length}
use borrow.Author.Tests.{eq-eqb, ne_eqb}
use Rattle.numbers.specs.Said.{accepted, said}
use Rattle.clipping_predictor_level_buffer.specs.Level.{measured_if, two_records, measure_two_of}
use Rattle.clipping_predictor_level_buffer.proofs.level.measure_two.Goals as goal
use Rattle.clipping_predictor_level_buffer.proofs.level.measure_two.Goals.{then-not-is_frame_size-via-then-not-is_frame_size, then-not-is_frame_size-via-else-not-is_frame_size+then-first-second}

pub returns-then-not-is_frame_size : goal.returns-then-not-is_frame_size
unfolding measure_two_of
returns-then-not-is_frame_size c =
    let s = c.args.first.now in
    let t = c.args.second.now in
    elim c.then-not-is_frame_size.branch [
      | then-not-is_frame_size-via-then-not-is_frame_size w ↦ λ i. said (measured_if (w.if-not-is_frame_size.ensures i && eqb (length s) (length t)) (two_records s t))
      | then-not-is_frame_size-via-else-not-is_frame_size+then-first-second w ↦ λ i. said (measured_if (w.if-not-is_frame_size.ensures i && sym (ne_eqb _ _ w.if-first-second.true) i) (two_records s t))
    ]

pub returns : goal.returns
unfolding measure_two_of
returns c =
    ap accepted c.two_records.ensures
    ∙ (λ i. said (measured_if (c.if-not-is_frame_size.ensures i && sym (eq-eqb _ _ c.if-first-second.false) i) (two_records c.args.first.now c.args.second.now)))
