-- `clipping_predictor_level_buffer::level::two_records` meets its contract: four samples more of both a turn, and then those that are left. Assumes nothing.
use mathlib.Core.Path.{sym, ap, subst, ◌∙◌}
use Prim.Native.Nat.{ℕ}
use native.Mathlib.Omega.{arith}
use Rattle.clipping_predictor_level_buffer.specs.declared.level.Running.{Running}
use Rattle.clipping_predictor_level_buffer.specs.Running.{level_from, Reached}
use Rattle.clipping_predictor_level_buffer.proofs.Steps.{taken_default, none_taken, few_left, four_left, whole, is_level}
use Rattle.clipping_predictor_level_buffer.proofs.level.two_records.Goals as goal

pub loop-rest-init : goal.loop-rest-init
loop-rest-init c = (none_taken _ _ (taken_default _ c.default-s.ensures), none_taken _ _ (taken_default _ c.default-t.ensures))

pub with-s-requires : goal.with-s-requires
with-s-requires c = omega (arith, few_left _ _ _ c.loop-rest.invariant.0, c.requires.1)

pub with-t-requires : goal.with-t-requires
with-t-requires c = omega (arith, few_left _ _ _ c.loop-rest.invariant.1, c.requires.0, c.requires.1)

pub loop-rest-preserved : goal.loop-rest-preserved
loop-rest-preserved c = (
  four_left c.args.first.now c.loop-rest.rest.now c.loop-rest.s _ c.type_inv.first c.loop-rest.invariant.0 c.in-len4-up.len_at_least c.with-s.ensures,
  four_left c.args.second.now c.loop-rest.others.now c.loop-rest.t _ c.type_inv.second c.loop-rest.invariant.1 c.in-len4-up-others.len_at_least c.with-t.ensures,
)

pub one_by_one-requires : goal.one_by_one-requires
one_by_one-requires c = omega (arith, few_left _ _ _ c.loop-rest.invariant.0, c.requires.1, ap (λ (r : Running). r.clipped) c.running.ensures)

pub one_by_one-requires-2 : goal.one_by_one-requires-2
one_by_one-requires-2 c = omega (arith, few_left _ _ _ c.loop-rest.invariant.1, c.requires.0, c.requires.1, ap (λ (r : Running). r.clipped) c.running-2.ensures)

pub returns : goal.returns
returns c =
    let l = c.loop-rest.invariant.0 in
    let k = c.loop-rest.invariant.1 in
    let first = c.one_by_one.ensures c.args.first.now l.at l.within l.rest_is (subst (Reached c.args.first.now l.at) (sym c.running.ensures) (whole _ l.at c.loop-rest.s l.parts)) in
    let second = c.one_by_one-2.ensures c.args.second.now k.at k.within k.rest_is (subst (Reached c.args.second.now k.at) (sym c.running-2.ensures) (whole _ k.at c.loop-rest.t k.parts)) in
    λ i. (
      is_level _ c.type_inv.first _ first _ c.level_from.ensures i,
      is_level _ c.type_inv.second _ second _ (c.level_from-2.ensures ∙ ap (λ (n : ℕ). level_from c.one_by_one-2.result n) c.requires.0) i,
    )
