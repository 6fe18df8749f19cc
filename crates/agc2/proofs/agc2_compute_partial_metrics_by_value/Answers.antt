-- `agc2_compute_partial_metrics_by_value` meets its contract. Assumes nothing.
use mathlib.Core.Path.{ap, ◌∙◌}
use Rattle.numbers.proofs.Signs.{again}
use Rattle.numbers.specs.Said.{said}
use Rattle.input_volume_controller.specs.Controller.{view_of}
use Rattle.input_volume_controller.specs.ChannelMetrics.{channel_metrics}
use Rattle.agc2.specs.Answers.{metrics_of}
use Rattle.agc2.proofs.Handed.{in_order}
use Rattle.agc2.proofs.agc2_compute_partial_metrics_by_value.Goals as goal

pub compute_partial_metrics-requires : goal.compute_partial_metrics-requires
compute_partial_metrics-requires c = in_order c.whole.ensures c.requires

pub returns : goal.returns
returns c =
    c.from.ensures ∙ ap metrics_of (c.compute_partial_metrics.ensures
    ∙ (λ i. said (channel_metrics (view_of (c.whole.ensures i)).predictor c.args.channel (again c.args.delay c.ranges.delay.sfits i) (again c.args.num_items c.ranges.num_items.sfits i))))
