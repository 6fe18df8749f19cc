-- `plain::whole_control` meets its contract. Assumes nothing.
use mathlib.Core.Path.{◌∙◌}
use Rattle.input_volume_controller.specs.Plain.{whole_control}
use Rattle.input_volume_controller.proofs.Flags.{applied_is}
use Rattle.input_volume_controller.proofs.plain.whole_control.Goals as goal

pub returns : goal.returns
unfolding whole_control
returns c =
    λ i. record {
      settings = c.args.p.settings;
      channels = c.args.p.channels;
      since = c.args.p.since;
      used = c.args.p.used;
      applied = (c.then_some.ensures ∙ applied_is _ _) i;
      volume = c.args.p.volume;
      controlling = c.args.p.controlling;
    }
