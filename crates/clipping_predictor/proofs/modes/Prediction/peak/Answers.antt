-- `modes::Prediction::peak` meets its contract: its test as the machine makes it. Assumes nothing.
use mathlib.Core.Path.{◌≡◌, sym, subst, ◌∙◌}
use mir.Syntax.{w32}
use mir.ValLaws.{to_z-of_z}
use Rattle.levels.specs.declared.decibels.Decibels.{Decibels}
use Rattle.levels.specs.declared.decibels.Decibels.TheVariants.{Finite}
use Rattle.levels.specs.Decibels.{less, near}
use Rattle.levels.specs.Order.{less_by}
use Rattle.clipping_predictor.specs.Turned.{only, tested, estimated}
use Rattle.clipping_predictor.specs.Estimate.{projected_peak}
use Rattle.clipping_predictor.proofs.Paths.{failed_sure}
use Rattle.clipping_predictor.proofs.modes.Prediction.peak.Goals as goal

pub returns-then-not-near : goal.returns-then-not-near
unfolding estimated
returns-then-not-near g c =
    λ t h. let p = projected_peak c.args.self.window c.args.self.reference in
    let edge = to_z-of_z w32 c.args.edge c.ranges.edge in
    let above-near : c.are_near-near.result ≡ near (Finite c.args.edge) p = c.are_near-near.ensures ∙ (λ i. near (Finite (edge i)) (c.estimate_peak_value-projected.ensures.is i)) in
    let above-test : c.lt-is_above.result ≡ less (Finite c.args.edge) p = c.lt-is_above.ensures ∙ less_by _ _ ∙ (λ i. less (Finite (edge i)) (c.estimate_peak_value-projected.ensures.is i)) in
    c.sure.ensures
    ∙ failed_sure (less (Finite c.args.edge) p) (near (Finite c.args.edge) p) (estimated t) (only 0) (sym above-near ∙ c.if-not-near.true) (sym above-test ∙ c.if-not-is_above.true)

pub returns : goal.returns
unfolding estimated
returns g c =
    λ t h. let p = projected_peak c.args.self.window c.args.self.reference in
    let edge = to_z-of_z w32 c.args.edge c.ranges.edge in
    let above-near : c.are_near-near.result ≡ near (Finite c.args.edge) p = c.are_near-near.ensures ∙ (λ i. near (Finite (edge i)) (c.estimate_peak_value-projected.ensures.is i)) in
    let above-test : c.lt-is_above.result ≡ less (Finite c.args.edge) p = c.lt-is_above.ensures ∙ less_by _ _ ∙ (λ i. less (Finite (edge i)) (c.estimate_peak_value-projected.ensures.is i)) in
    let above = h c.above.result (subst (λ (d : Decibels). goal.F-post g c.args.above d c.above.result) c.estimate_peak_value-projected.ensures.is c.above.ensures) in
    c.after_test.ensures ∙ (λ i. tested (above-test i) (above-near i) (above i) (c.sure-2.ensures i))
