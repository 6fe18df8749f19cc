-- `modes::Prediction::predict_clipping_event` meets its contract: its first test as the machine makes it. Assumes nothing.
use mathlib.Core.Path.{◌≡◌, sym, ◌∙◌}
use native.Mathlib.Omega.{arith}
use Rattle.numbers.proofs.Signs.{read, again, mag_abs}
use Rattle.levels.specs.declared.decibels.Decibels.TheVariants.{Finite}
use Rattle.levels.specs.Decibels.{at_most, near}
use Rattle.levels.specs.Order.{at_most_by}
use Rattle.levels.specs.Level.{dbfs}
use Rattle.clipping_predictor.specs.Turned.{only, tested, estimated}
use Rattle.clipping_predictor.specs.Estimate.{crest_tree}
use Rattle.clipping_predictor.proofs.Paths.{held_sure}
use Rattle.clipping_predictor.proofs.modes.Prediction.predict_clipping_event.Goals as goal

pub returns-then-not-near : goal.returns-then-not-near
unfolding estimated
returns-then-not-near c =
    let s = c.args.self.settings in
    let threshold : read s.threshold ≡ s.threshold = again _ (omega (arith, mag_abs s.threshold, c.args.self.good.threshold_bound)) in
    let peak-near : c.are_near-near.result ≡ (near (dbfs c.args.self.window.max) (Finite s.threshold)) = c.are_near-near.ensures ∙ (λ i. near (c.float_s16_to_dbfs-peak.ensures i) (Finite (threshold i))) in
    let peak-test : c.le-quiet.result ≡ (at_most (dbfs c.args.self.window.max) (Finite s.threshold)) = c.le-quiet.ensures ∙ at_most_by _ _ ∙ (λ i. at_most (c.float_s16_to_dbfs-peak.ensures i) (Finite (threshold i))) in
    c.sure.ensures
    ∙ held_sure (at_most (dbfs c.args.self.window.max) (Finite s.threshold)) (near (dbfs c.args.self.window.max) (Finite s.threshold)) (only 0) (estimated (crest_tree s.margin c.args.self.window c.args.self.reference c.args.self.asked)) (sym peak-near ∙ c.if-not-near.true) (sym peak-test ∙ c.if-quiet.true)

pub returns : goal.returns
unfolding estimated
returns c =
    let s = c.args.self.settings in
    let threshold : read s.threshold ≡ s.threshold = again _ (omega (arith, mag_abs s.threshold, c.args.self.good.threshold_bound)) in
    let peak-near : c.are_near-near.result ≡ (near (dbfs c.args.self.window.max) (Finite s.threshold)) = c.are_near-near.ensures ∙ (λ i. near (c.float_s16_to_dbfs-peak.ensures i) (Finite (threshold i))) in
    let peak-test : c.le-quiet.result ≡ (at_most (dbfs c.args.self.window.max) (Finite s.threshold)) = c.le-quiet.ensures ∙ at_most_by _ _ ∙ (λ i. at_most (c.float_s16_to_dbfs-peak.ensures i) (Finite (threshold i))) in
    c.after_test.ensures ∙ (λ i. tested (peak-test i) (peak-near i) (c.sure-2.ensures i) (c.event.ensures i))
