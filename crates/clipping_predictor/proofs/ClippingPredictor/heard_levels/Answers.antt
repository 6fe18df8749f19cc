-- `ClippingPredictor::heard_levels` meets its contract: channel by channel, each with its level; where nothing is heard, the very predictor. Assumes nothing.
use mathlib.Core.Path.{◌≡◌, refl, sym, ap, subst, ◌∙◌}
use mathlib.Core.Bool.{Bool}
use Prim.Native.Nat.{ℕ}
use native.Mathlib.Omega.{arith}
use lib.ListN.{get_or, set}
use lib.Seq.{get_or-set_same}
use Rattle.numbers.proofs.Signs.{clash}
use Rattle.numbers.proofs.Arrays.{Replaced, replaced_none, replaced_more}
use Rattle.clipping_predictor_level_buffer.specs.declared.ClippingPredictorLevelBuffer.{ClippingPredictorLevelBuffer}
use Rattle.clipping_predictor_level_buffer.specs.Ring.{Counted, stored}
use Rattle.clipping_predictor_level_buffer.proofs.Counts.{level_pushed}
use Rattle.clipping_predictor.specs.Predictor.{no_ring, ring_at, view_of, levels_in}
use Rattle.clipping_predictor.specs.AllRings.{hears, items_in, joined, estimated_for, predicted_for, predicted_if, with_levels_if}
use Rattle.clipping_predictor.proofs.Frames.{PushedAt, pushed_good, entering, entered_length, entered_at, all_pushed}
use Rattle.clipping_predictor.proofs.Joins.{none_before, one_more, all}
use Rattle.clipping_predictor.proofs.ClippingPredictor.heard_levels.Invariants.{level}
use Rattle.clipping_predictor.proofs.ClippingPredictor.heard_levels.Goals as goal

-- nothing is heard
pub returns-in_default : goal.returns-in_default
returns-in_default c =
    let not = ap hears c.in_default.is in
    record {
      good = c.requires.0;
      view = ap (λ (b : Bool). with_levels_if b (levels_in (items_in c.args.brought.levels) c.args.self.channels) (view_of c.args.self)) (sym not);
      same = λ _. refl;
      answer = c.no_estimate.ensures ∙ ap (λ (b : Bool). predicted_if b c.args.question (view_of c.args.self)) (sym not);
      clipped_is = refl;
    }

-- ---- levels are heard, by a predictor that is on

pub loop-c-init : goal.loop-c-init
loop-c-init c = (
  record { settings = refl; channels = refl },
  replaced_none no_ring (PushedAt c.in-Some.levels.items) c.args.self.rings,
  c.no_estimate-e.ensures ∙ none_before c.args.question c.args.self.settings (entering c.args.self (level c.in-Some.levels.items)).rings,
)

-- the ring that is pushed to is still the one that was handed in
pub push_level-after-requires : goal.push_level-after-requires
push_level-after-requires c =
    let untouched : get_or c.loop-c.p.rings c.loop-c.c no_ring ≡ ring_at c.args.self c.loop-c.c = c.loop-c.invariant.1.rest c.loop-c.c (omega arith) in
    rw untouched (c.requires.0.each c.loop-c.c c.loop-c-test.true).ring

-- what is pushed to it is its own level, whose count is in range, and what is asked is the ring that came of it
pub answered-requires : goal.answered-requires
answered-requires c =
    let items = c.in-Some.levels.items in
    let on = c.requires.1.on (ap hears c.in-Some.is) in
    let counted : Counted items = subst Counted (ap items_in c.in-Some.is) c.requires.1.counted in
    let untouched : get_or c.loop-c.p.rings c.loop-c.c no_ring ≡ ring_at c.args.self c.loop-c.c = c.loop-c.invariant.1.rest c.loop-c.c (omega arith) in
    let pushed : PushedAt items c.loop-c.c (get_or c.loop-c.p.rings c.loop-c.c no_ring) c.push_level-after.result.ring = level_pushed _ _ _ (counted.each c.loop-c.c) c.push_level-after.ensures in
    let own : PushedAt items c.loop-c.c (ring_at c.args.self c.loop-c.c) c.push_level-after.result.ring = subst (λ (old : ClippingPredictorLevelBuffer). PushedAt items c.loop-c.c old c.push_level-after.result.ring) untouched pushed in
    let asked : get_or (set c.loop-c.p.rings c.loop-c.c c.push_level-after.result.ring) c.loop-c.c no_ring ≡ c.push_level-after.result.ring = get_or-set_same c.loop-c.p.rings c.loop-c.c c.push_level-after.result.ring no_ring (omega (arith, c.loop-c-test.true, c.requires.0.channels_high, c.loop-c.invariant.1.same_length, c.requires.0.places)) in
    rw asked (pushed_good c.args.self.settings _ _ _ on (c.requires.0.each c.loop-c.c c.loop-c-test.true) own)

pub loop-c-preserved : goal.loop-c-preserved
loop-c-preserved c =
    let items = c.in-Some.levels.items in
    let on = c.requires.1.on (ap hears c.in-Some.is) in
    let counted : Counted items = subst Counted (ap items_in c.in-Some.is) c.requires.1.counted in
    let untouched : get_or c.loop-c.p.rings c.loop-c.c no_ring ≡ ring_at c.args.self c.loop-c.c = c.loop-c.invariant.1.rest c.loop-c.c (omega arith) in
    let pushed : PushedAt items c.loop-c.c (get_or c.loop-c.p.rings c.loop-c.c no_ring) c.push_level-after.result.ring = level_pushed _ _ _ (counted.each c.loop-c.c) c.push_level-after.ensures in
    let own : PushedAt items c.loop-c.c (ring_at c.args.self c.loop-c.c) c.push_level-after.result.ring = subst (λ (old : ClippingPredictorLevelBuffer). PushedAt items c.loop-c.c old c.push_level-after.result.ring) untouched pushed in
    let asked : get_or (set c.loop-c.p.rings c.loop-c.c c.push_level-after.result.ring) c.loop-c.c no_ring ≡ c.push_level-after.result.ring = get_or-set_same c.loop-c.p.rings c.loop-c.c c.push_level-after.result.ring no_ring (omega (arith, c.loop-c-test.true, c.requires.0.channels_high, c.loop-c.invariant.1.same_length, c.requires.0.places)) in
    let rings = (entering c.args.self (level items)).rings in
    let at = ap stored asked ∙ entered_at c.args.self (level items) c.loop-c.c c.push_level-after.result.ring c.requires.0 on c.loop-c-test.true own in (
      record { settings = c.loop-c.invariant.0.settings; channels = c.loop-c.invariant.0.channels },
      replaced_more no_ring (PushedAt items) c.args.self.rings c.loop-c.c c.loop-c.p.rings c.push_level-after.result.ring c.loop-c.invariant.1 (omega (arith, c.loop-c-test.true, c.requires.0.channels_high, c.requires.0.places)) pushed,
      c.joined-e.ensures ∙ (λ j. joined (c.loop-c.invariant.2 j) ((c.answered.ensures ∙ ap (estimated_for c.args.question c.args.self.settings) at) j))
          ∙ sym (one_more c.args.question c.args.self.settings rings c.loop-c.c (omega (arith, c.loop-c-test.true, entered_length c.args.self (level items)))),
    )

-- all rings were pushed to
pub returns : goal.returns
unfolding view_of
returns c =
    let self = c.args.self in
    let items = c.in-Some.levels.items in
    let heard = ap hears c.in-Some.is in
    let so : c.loop-c.c ≡ self.channels = omega arith in
    let entered = all_pushed self c.loop-c.p c.requires.0 c.loop-c.invariant.0 items (c.requires.1.on heard) (subst (λ (k : ℕ). Replaced no_ring (PushedAt items) k self.rings c.loop-c.p.rings) so c.loop-c.invariant.1) in
    record {
      good = entered.good;
      view = entered.view ∙ sym (λ i. with_levels_if (heard i) (levels_in (items_in (c.in-Some.is i)) self.channels) (view_of self));
      same = λ not. clash (sym heard ∙ not);
      answer =
          c.loop-c.invariant.2 ∙ all c.args.question (entering self (level items)) c.loop-c.c (omega (arith, so, entered_length self (level items))) ∙ sym (ap (predicted_for c.args.question) entered.view)
          ∙ sym (ap (λ (b : Bool). predicted_if b c.args.question (view_of c.loop-c.p)) heard);
      clipped_is = refl;
    }
