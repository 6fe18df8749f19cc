-- `plain::whole_predictor` meets its contract. Assumes nothing.
use Rattle.numbers.proofs.Signs.{again}
use Rattle.input_volume_controller.specs.Plain.{whole_predictor}
use Rattle.input_volume_controller.proofs.Flags.{set_is}
use Rattle.input_volume_controller.proofs.plain.whole_predictor.Goals as goal

pub returns : goal.returns
unfolding whole_predictor
returns c =
    λ i. record {
      rings = c.args.p.rings;
      channels = c.args.p.channels;
      settings = record {
        enabled = set_is c.args.p.enabled i;
        mode = c.mode_of.ensures i;
        window = c.args.p.window;
        reference = c.args.p.reference;
        delay = c.args.p.delay;
        threshold = again c.args.p.threshold c.struct_told-1.given.1.1.1.1.1.0.1 i;
        margin = again c.args.p.margin c.struct_told-1.given.1.1.1.1.1.1.0.1 i;
      };
    }
