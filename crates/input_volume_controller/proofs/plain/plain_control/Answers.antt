-- `plain::plain_control` meets its contract. Assumes nothing.
use mathlib.Core.Path.{◌∙◌}
use Rattle.input_volume_controller.specs.Plain.{plain_control}
use Rattle.input_volume_controller.proofs.Flags.{pending_is, volume_is}
use Rattle.input_volume_controller.proofs.plain.plain_control.Goals as goal

pub returns : goal.returns
unfolding plain_control
returns c =
    λ i. record {
      settings = c.args.c.settings;
      channels = c.args.c.channels;
      since = c.args.c.since;
      used = c.args.c.used;
      pending = (c.is_some.ensures ∙ pending_is c.args.c.applied) i;
      applied = (c.unwrap_or.ensures ∙ volume_is c.args.c.applied) i;
      volume = c.args.c.volume;
      controlling = c.args.c.controlling;
    }
