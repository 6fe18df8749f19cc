-- `clipping_predictor_level_buffer::level::frame_record` meets its contract: four samples more a turn, and then those that are left. Assumes nothing.
use mathlib.Core.Path.{sym, ap, subst}
use native.Mathlib.Omega.{arith}
use Rattle.clipping_predictor_level_buffer.specs.declared.level.Running.{Running}
use Rattle.clipping_predictor_level_buffer.specs.Running.{Reached}
use Rattle.clipping_predictor_level_buffer.proofs.Steps.{taken_default, none_taken, few_left, four_left, whole, is_level}
use Rattle.clipping_predictor_level_buffer.proofs.level.frame_record.Goals as goal

pub loop-rest-init : goal.loop-rest-init
loop-rest-init c = none_taken _ _ (taken_default _ c.default-t.ensures)

pub with-t-requires : goal.with-t-requires
with-t-requires c = omega (arith, few_left _ _ _ c.loop-rest.invariant, c.requires)

pub loop-rest-preserved : goal.loop-rest-preserved
loop-rest-preserved c = four_left c.args.samples.now c.loop-rest.rest.now c.loop-rest.t _ c.type_inv.samples c.loop-rest.invariant c.in-len4-up.len_at_least c.with-t.ensures

pub one_by_one-requires : goal.one_by_one-requires
one_by_one-requires c = omega (arith, few_left _ _ _ c.loop-rest.invariant, c.requires, ap (λ (r : Running). r.clipped) c.running.ensures)

pub returns : goal.returns
returns c =
    let l = c.loop-rest.invariant in
    is_level _ c.type_inv.samples _ (c.one_by_one.ensures c.args.samples.now l.at l.within l.rest_is (subst (Reached c.args.samples.now l.at) (sym c.running.ensures) (whole _ l.at c.loop-rest.t l.parts))) _ c.level_from.ensures
