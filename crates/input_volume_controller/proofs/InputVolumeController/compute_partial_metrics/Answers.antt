-- `InputVolumeController::compute_partial_metrics` meets its contract: every ring has the same capacity, and an emptied one stands for that of a channel that is not there. Assumes nothing.
use mathlib.Core.Path.{◌≡◌, ◌∙◌}
use mathlib.Core.List.{List}
use Prim.Native.Nat.{ℕ}
use native.Mathlib.Omega.{arith}
use lib.IntN.{ℤ}
use Rattle.numbers.proofs.Signs.{again}
use Rattle.numbers.specs.Said.{said}
use Rattle.clipping_predictor_level_buffer.specs.declared.level.Level.{Level}
use Rattle.clipping_predictor_level_buffer.specs.Metrics.{compute_partial_metrics}
use Rattle.clipping_predictor.specs.Predictor as PredictorOf
use Rattle.input_volume_controller.specs.Controller.{view_of}
use Rattle.input_volume_controller.specs.ChannelMetrics.{channel_metrics}
use Rattle.input_volume_controller.proofs.Whole.{records_none, records_some}
use Rattle.input_volume_controller.proofs.InputVolumeController.compute_partial_metrics.Goals as goal

same : {capacity capacity' : ℕ} {records records' : List Level} {delay delay' n n' : ℤ} → capacity ≡ capacity' → records ≡ records' → delay ≡ delay' → n ≡ n'
    → said (compute_partial_metrics capacity records delay n) ≡ said (compute_partial_metrics capacity' records' delay' n')
same e f g h = λ i. said (compute_partial_metrics (e i) (f i) (g i) (h i))

pub reset-requires : goal.reset-requires
reset-requires c = (c.requires.predictor.each 0 c.requires.predictor.channels_low).ring

pub returns-then-predictor-channel : goal.returns-then-predictor-channel
unfolding view_of PredictorOf.view_of channel_metrics
returns-then-predictor-channel c =
    c.compute_partial_metrics.ensures ∙ same (c.reset.ensures.capacity_is ∙ (c.requires.predictor.each 0 c.requires.predictor.channels_low).capacity) (c.reset.ensures.stored_is ∙ records_none c.args.self.predictor c.args.channel c.if-predictor-channel.true)
    (again c.args.delay c.ranges.delay.sfits) (again c.args.num_items c.ranges.num_items.sfits)

pub offset_bounds-predictor-channel : goal.offset_bounds-predictor-channel
offset_bounds-predictor-channel c = omega (arith, c.requires.predictor.channels_high, c.if-predictor-channel.false)

pub bounds-predictor-channel : goal.bounds-predictor-channel
bounds-predictor-channel c = omega (arith, c.requires.predictor.channels_high, c.if-predictor-channel.false)

pub compute_partial_metrics-requires-2 : goal.compute_partial_metrics-requires-2
compute_partial_metrics-requires-2 c = (c.requires.predictor.each c.args.channel c.if-predictor-channel.false).ring

pub returns : goal.returns
unfolding view_of PredictorOf.view_of channel_metrics
returns c =
    c.compute_partial_metrics-2.ensures ∙ same (c.requires.predictor.each c.args.channel c.if-predictor-channel.false).capacity (records_some c.args.self.predictor c.args.channel c.if-predictor-channel.false)
    (again c.args.delay c.ranges.delay.sfits) (again c.args.num_items c.ranges.num_items.sfits)
