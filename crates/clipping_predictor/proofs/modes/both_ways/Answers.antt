-- `modes::both_ways` meets its contract. Assumes nothing.
use Rattle.clipping_predictor.proofs.modes.both_ways.Goals as goal

pub returns : goal.returns
returns c = λ i. record { drop = c.args.a.drop; low = c.min.ensures i; high = c.max.ensures i }
