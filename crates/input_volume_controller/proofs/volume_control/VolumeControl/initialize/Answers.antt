-- `VolumeControl::initialize` meets its contract. Assumes nothing.
use mathlib.Core.Path.{refl}
use mathlib.Core.Bool.{true}
use borrow.Author.Rules.{rules}
use Rattle.input_volume_controller.specs.Channels.{Initialize, called}
use Rattle.input_volume_controller.specs.Control.{control_of, with_used, with_applied}
use Rattle.input_volume_controller.specs.ControlCalls.{initialize, aggregated}
use Rattle.input_volume_controller.proofs.Volumes.{then, each_channel_lem, with_used_lem, initialize_count}
use Rattle.input_volume_controller.proofs.Whole.{same_count, beside}
use Rattle.input_volume_controller.proofs.volume_control.VolumeControl.initialize.Goals as goal

pub aggregate_channel_levels-requires : goal.aggregate_channel_levels-requires
unfolding called
aggregate_channel_levels-requires c =
    let each = each_channel_lem c.args.self c.requires c.each-c.result c.each-c.ensures Initialize (λ i m n h good post. search rules) in
    (with_used_lem _ each.good true).good

pub returns : goal.returns
unfolding initialize called
returns c =
    let each = each_channel_lem c.args.self c.requires c.each-c.result c.each-c.ensures Initialize (λ i m n h good post. search rules) in
    let b = then (with_applied _) (then aggregated (then (with_used true) each (with_used_lem _ each.good true)) c.aggregate_channel_levels.ensures) c.with_applied.ensures in
    record { good = b.good; count = same_count c.args.self _ b (initialize_count (control_of c.args.self)); does = λ p. beside p refl b }
