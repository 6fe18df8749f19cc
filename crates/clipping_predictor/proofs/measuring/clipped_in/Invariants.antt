-- `measuring::clipped_in` meets its contract: each turn takes one sample more. Assumes nothing.
use Rattle.clipping_predictor.proofs.MostClipped.{Counted}
use Rattle.clipping_predictor.proofs.measuring.clipped_in.Given as goal

abbrev pub invariant-loop-sample : goal.invariant-loop-sample
invariant-loop-sample l = Counted l.samples l.count l.sample-index
