-- `modes::Prediction::predict_clipping_peak` meets its contract: its first test as the machine makes it. Assumes nothing.
use mathlib.Core.Path.{◌≡◌, sym, ap, ◌∙◌}
use native.Mathlib.Omega.{arith}
use lib.IntN.{ℤ}
use mir.Syntax.{w32}
use mir.ValLaws.{to_z-of_z}
use Rattle.numbers.proofs.Signs.{read, again, mag_abs}
use Rattle.levels.specs.declared.decibels.Decibels.TheVariants.{Finite}
use Rattle.levels.specs.Decibels.{at_most, near}
use Rattle.levels.specs.Order.{at_most_by}
use Rattle.levels.specs.Level.{dbfs}
use Rattle.clipping_predictor.specs.Turned.{only, tested, estimated}
use Rattle.clipping_predictor.specs.Estimate.{whole_db, projected_peak, projected_tree}
use Rattle.clipping_predictor.proofs.Paths.{held_sure}
use Rattle.clipping_predictor.proofs.modes.Prediction.predict_clipping_peak.Goals as goal

pub returns-then-not-near : goal.returns-then-not-near
unfolding estimated
returns-then-not-near g c =
    λ t h. let s = c.args.self.settings in
    let p = projected_peak c.args.self.window c.args.self.reference in
    let threshold : read c.whole_db-edge.result ≡ whole_db s.threshold = to_z-of_z w32 c.whole_db-edge.result (record { sfits = c.whole_db-edge.type_inv }) ∙ c.whole_db-edge.ensures ∙ ap whole_db (again s.threshold (omega (arith, mag_abs s.threshold, c.args.self.good.threshold_bound))) in
    let peak-near : c.are_near-near.result ≡ near (dbfs c.args.self.window.max) (Finite (whole_db s.threshold)) = c.are_near-near.ensures ∙ (λ i. near (c.float_s16_to_dbfs-level.ensures i) (Finite (threshold i))) in
    let peak-test : c.le-quiet.result ≡ at_most (dbfs c.args.self.window.max) (Finite (whole_db s.threshold)) = c.le-quiet.ensures ∙ at_most_by _ _ ∙ (λ i. at_most (c.float_s16_to_dbfs-level.ensures i) (Finite (threshold i))) in
    c.sure.ensures
    ∙ held_sure (at_most (dbfs c.args.self.window.max) (Finite (whole_db s.threshold))) (near (dbfs c.args.self.window.max) (Finite (whole_db s.threshold))) (only 0) (estimated (projected_tree (whole_db s.threshold) p t)) (sym peak-near ∙ c.if-not-near.true) (sym peak-test ∙ c.if-quiet.true)

pub returns : goal.returns
unfolding estimated
returns g c =
    λ t h. let s = c.args.self.settings in
    let p = projected_peak c.args.self.window c.args.self.reference in
    let threshold : read c.whole_db-edge.result ≡ whole_db s.threshold = to_z-of_z w32 c.whole_db-edge.result (record { sfits = c.whole_db-edge.type_inv }) ∙ c.whole_db-edge.ensures ∙ ap whole_db (again s.threshold (omega (arith, mag_abs s.threshold, c.args.self.good.threshold_bound))) in
    let peak-near : c.are_near-near.result ≡ near (dbfs c.args.self.window.max) (Finite (whole_db s.threshold)) = c.are_near-near.ensures ∙ (λ i. near (c.float_s16_to_dbfs-level.ensures i) (Finite (threshold i))) in
    let peak-test : c.le-quiet.result ≡ at_most (dbfs c.args.self.window.max) (Finite (whole_db s.threshold)) = c.le-quiet.ensures ∙ at_most_by _ _ ∙ (λ i. at_most (c.float_s16_to_dbfs-level.ensures i) (Finite (threshold i))) in
    c.after_test.ensures
    ∙ (λ i. tested (peak-test i) (peak-near i) (c.sure-2.ensures i) ((c.peak.ensures t h ∙ ap (λ (z : ℤ). estimated (projected_tree z p t)) threshold) i))
