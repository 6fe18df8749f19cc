-- `lower_channels` meets its contract. Assumes nothing.
use borrow.Author.Rules.{rules}
use Rattle.input_volume_controller.specs.Channels.{Clipping, called}
use Rattle.input_volume_controller.specs.Control.{with_since}
use Rattle.input_volume_controller.specs.ControlCalls.{lower_channels, aggregated}
use Rattle.input_volume_controller.proofs.Volumes.{then, each_channel_lem, with_since_lem}
use Rattle.input_volume_controller.proofs.volume_control.lower_channels.Goals as goal

pub aggregate_channel_levels-requires : goal.aggregate_channel_levels-requires
unfolding called
aggregate_channel_levels-requires c =
    let b = each_channel_lem c.args.control c.requires c.each-c.result c.each-c.ensures (Clipping c.args.step) (λ i m n h good post. search rules) in
    (with_since_lem _ b.good 0).good

pub returns : goal.returns
unfolding lower_channels called
returns c =
    let b = each_channel_lem c.args.control c.requires c.each-c.result c.each-c.ensures (Clipping c.args.step) (λ i m n h good post. search rules) in
    then aggregated (then (with_since 0) b (with_since_lem _ b.good 0)) c.aggregate_channel_levels.ensures
