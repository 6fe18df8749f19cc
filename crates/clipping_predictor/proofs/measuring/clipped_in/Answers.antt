-- `measuring::clipped_in` meets its contract: each turn takes one sample more. Assumes nothing.
use mathlib.Core.Path.{refl}
use native.Mathlib.Omega.{arith}
use lib.Ieee.{nan}
use lib.ListN.{get_or}
use Rattle.clipping_predictor_level_buffer.proofs.Clipped.{count_most}
use Rattle.clipping_predictor.proofs.MostClipped.{starts, goes_on, ends}
use Rattle.clipping_predictor.proofs.measuring.clipped_in.Goals as goal

pub loop-sample-init : goal.loop-sample-init
loop-sample-init c = starts _

pub overflow_add-count : goal.overflow_add-count
overflow_add-count c =
    omega (arith, c.loop-sample.invariant.most, c.count_of-count.ensures, count_most (get_or c.args.samples.now c.loop-sample.sample-index nan), c.requires)

pub loop-sample-preserved : goal.loop-sample-preserved
loop-sample-preserved c = goes_on _ _ _ _ _ c.loop-sample.invariant c.loop-sample-test.true c.count_of-count.ensures refl

pub returns : goal.returns
returns c = ends _ _ _ c.loop-sample.invariant c.loop-sample-test.false
