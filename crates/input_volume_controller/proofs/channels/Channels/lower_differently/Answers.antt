-- `Channels::lower_differently` meets its contract. Assumes nothing.
use mathlib.Core.Path.{sym, ap₂, ◌∙◌}
use borrow.Author.Rules.{rules}
use Rattle.input_volume_controller.specs.Channels.{Clipping, called}
use Rattle.input_volume_controller.specs.Differ.{other_volumes, lower_differently}
use Rattle.input_volume_controller.proofs.ChannelLists.{all_called}
use Rattle.input_volume_controller.proofs.channels.Channels.lower_differently.Goals as goal

pub differ_from-requires : goal.differ_from-requires
differ_from-requires c = (c.each-one.ensures.good, c.each.ensures.count ∙ sym c.each-one.ensures.count)

pub returns : goal.returns
unfolding lower_differently called
returns c =
    c.differ_from.ensures
    ∙ ap₂ other_volumes
    (all_called _ _ c.requires c.each-one.ensures (Clipping c.args.step) (λ i m n h good post. search rules)).is
    (all_called _ _ c.requires c.each.ensures (Clipping c.args.other) (λ i m n h good post. search rules)).is
