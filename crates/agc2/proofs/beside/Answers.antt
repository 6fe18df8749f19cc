-- `beside` meets its contract. Assumes nothing.
use lib.IntN.{pos}
use Rattle.agc2.proofs.beside.Goals as goal

pub returns : goal.returns
returns c =
    λ i. record {
      refusal = c.args.refusal;
      near = c.args.near;
      control = record { present = 0; volume = pos 0; control = c.plain_control.ensures i };
      predictor = c.plain_predictor.ensures i;
    }
