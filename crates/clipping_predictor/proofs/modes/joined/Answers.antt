-- `modes::joined` meets its contract. Assumes nothing.
use Rattle.clipping_predictor.proofs.modes.joined.Goals as goal

pub returns : goal.returns
returns c = λ i. record { drop = c.max.ensures i; low = c.max-2.ensures i; high = c.max-3.ensures i }
