-- `Channels::given` meets its contract. Assumes nothing.
use borrow.Author.Rules.{rules}
use Rattle.input_volume_controller.specs.Channels.{called}
use Rattle.input_volume_controller.proofs.ChannelLists.{all_given}
use Rattle.input_volume_controller.proofs.channels.Channels.given.Goals as goal

pub returns : goal.returns
unfolding called
returns c = all_given c.args.levels _ _ c.requires c.each.ensures (λ i m n h good post. search rules)
