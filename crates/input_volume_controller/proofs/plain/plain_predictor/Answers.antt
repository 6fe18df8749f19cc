-- `plain::plain_predictor` meets its contract. Assumes nothing.
use mathlib.Core.Path.{◌∙◌}
use Rattle.numbers.proofs.Signs.{again}
use Rattle.input_volume_controller.specs.Plain.{plain_predictor}
use Rattle.input_volume_controller.proofs.Flags.{flag_is}
use Rattle.input_volume_controller.proofs.plain.plain_predictor.Goals as goal

pub returns : goal.returns
unfolding plain_predictor
returns c =
    λ i. record {
      rings = c.args.p.rings;
      channels = c.args.p.channels;
      enabled = (c.from.ensures ∙ flag_is c.args.p.settings.enabled) i;
      mode = c.mode_number.ensures i;
      window = c.args.p.settings.window;
      reference = c.args.p.settings.reference;
      delay = c.args.p.settings.delay;
      threshold = again c.args.p.settings.threshold c.struct_told-1.given.1.1.1.1.1.0.1 i;
      margin = again c.args.p.settings.margin c.struct_told-1.given.1.1.1.1.1.1.0.1 i;
    }
