-- `whole` meets its contract. Assumes nothing.
use Rattle.agc2.proofs.whole.Goals as goal

pub returns : goal.returns
returns c = λ i. record { control = c.whole_control.ensures i; predictor = c.whole_predictor.ensures i }
