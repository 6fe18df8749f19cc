-- `Channels::new` meets its contract. Assumes nothing.
use Rattle.input_volume_controller.proofs.ChannelLists.{all_fresh}
use Rattle.input_volume_controller.proofs.channels.Channels.new.Goals as goal

pub returns : goal.returns
returns c = all_fresh c.args.count c.fresh_channel.result _ c.requires.0 c.requires.1 c.fresh_channel.ensures
