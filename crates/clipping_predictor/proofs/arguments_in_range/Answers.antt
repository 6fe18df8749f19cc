-- `clipping_predictor::arguments_in_range` meets its contract: each return by the answers that lead there. Assumes nothing.
use mathlib.Core.Path.{◌≡◌, sym, ap, ◌∙◌}
use Prim.Native.Nat.{◌-◌}
use native.Mathlib.Omega.{arith}
use mir.Syntax.{w32}
use mir.ValLaws.{to_z-of_z}
use Rattle.std.specs.Prelude.{None, Some}
use Rattle.numbers.specs.Natural.{within_of}
use Rattle.numbers.proofs.Asked.{asked_some, asked_none, handed_on}
use Rattle.numbers.proofs.Ranges.{told}
use Rattle.clipping_predictor.specs.EstimateCall.{arguments_of, given}
use Rattle.clipping_predictor.proofs.Given.{ends_crossed, level_above, in_range}
use Rattle.clipping_predictor.proofs.arguments_in_range.Goals as goal
use Rattle.clipping_predictor.proofs.arguments_in_range.Goals.{then-most-least-via-then-most-least, then-most-least-via-else-most-least+then-most-here}

-- ---- the five numbers, where they lie in their range, and what was known before each

pub returns-in_err-here : goal.returns-in_err-here
unfolding arguments_of given
returns-in_err-here c =
    let e : within_of 0 255 c.args.level ≡ None = sym (ap (within_of 0 255) (to_z-of_z w32 c.args.level c.ranges.level)) ∙ asked_none _ _ _ _ c.within.ensures c.ok_or.ensures.value c.in_err-here.was in
    handed_on _ _ _ _ c.from_residual.ensures.1 c.ok_or.ensures.value c.in_err-here.was ∙ sym (λ i. given (e i) (within_of 0 (c.args.channels - 1) c.args.channel) (within_of 1 255 c.args.default_step) (within_of 0 255 c.args.min_mic_level) (within_of 0 255 c.args.max_mic_level))

pub returns-in_err-place : goal.returns-in_err-place
unfolding arguments_of given
returns-in_err-place c =
    let first_is : within_of 0 255 c.args.level ≡ Some c.in_ok-here.here = sym (ap (within_of 0 255) (to_z-of_z w32 c.args.level c.ranges.level)) ∙ asked_some _ _ _ _ c.within.ensures c.ok_or.ensures.value c.in_ok-here.was in
    let e : within_of 0 (c.args.channels - 1) c.args.channel ≡ None = sym (ap (within_of 0 (c.args.channels - 1)) (to_z-of_z w32 c.args.channel c.ranges.channel)) ∙ asked_none _ _ _ _ c.within-2.ensures c.ok_or-2.ensures.value c.in_err-place.was in
    handed_on _ _ _ _ c.from_residual-in_err-place.ensures.1 c.ok_or-2.ensures.value c.in_err-place.was ∙ sym (λ i. given (first_is i) (e i) (within_of 1 255 c.args.default_step) (within_of 0 255 c.args.min_mic_level) (within_of 0 255 c.args.max_mic_level))

pub returns-in_err-step : goal.returns-in_err-step
unfolding arguments_of given
returns-in_err-step c =
    let first_is : within_of 0 255 c.args.level ≡ Some c.in_ok-here.here = sym (ap (within_of 0 255) (to_z-of_z w32 c.args.level c.ranges.level)) ∙ asked_some _ _ _ _ c.within.ensures c.ok_or.ensures.value c.in_ok-here.was in
    let second_is : within_of 0 (c.args.channels - 1) c.args.channel ≡ Some c.in_ok-place.place = sym (ap (within_of 0 (c.args.channels - 1)) (to_z-of_z w32 c.args.channel c.ranges.channel)) ∙ asked_some _ _ _ _ c.within-2.ensures c.ok_or-2.ensures.value c.in_ok-place.was in
    let e : within_of 1 255 c.args.default_step ≡ None = sym (ap (within_of 1 255) (to_z-of_z w32 c.args.default_step c.ranges.default_step)) ∙ asked_none _ _ _ _ c.within-3.ensures c.ok_or-3.ensures.value c.in_err-step.was in
    handed_on _ _ _ _ c.from_residual-in_err-step.ensures.1 c.ok_or-3.ensures.value c.in_err-step.was ∙ sym (λ i. given (first_is i) (second_is i) (e i) (within_of 0 255 c.args.min_mic_level) (within_of 0 255 c.args.max_mic_level))

pub returns-in_err-least : goal.returns-in_err-least
unfolding arguments_of given
returns-in_err-least c =
    let first_is : within_of 0 255 c.args.level ≡ Some c.in_ok-here.here = sym (ap (within_of 0 255) (to_z-of_z w32 c.args.level c.ranges.level)) ∙ asked_some _ _ _ _ c.within.ensures c.ok_or.ensures.value c.in_ok-here.was in
    let second_is : within_of 0 (c.args.channels - 1) c.args.channel ≡ Some c.in_ok-place.place = sym (ap (within_of 0 (c.args.channels - 1)) (to_z-of_z w32 c.args.channel c.ranges.channel)) ∙ asked_some _ _ _ _ c.within-2.ensures c.ok_or-2.ensures.value c.in_ok-place.was in
    let third-is : within_of 1 255 c.args.default_step ≡ Some c.in_ok-step.step = sym (ap (within_of 1 255) (to_z-of_z w32 c.args.default_step c.ranges.default_step)) ∙ asked_some _ _ _ _ c.within-3.ensures c.ok_or-3.ensures.value c.in_ok-step.was in
    let e : within_of 0 255 c.args.min_mic_level ≡ None = sym (ap (within_of 0 255) (to_z-of_z w32 c.args.min_mic_level c.ranges.min_mic_level)) ∙ asked_none _ _ _ _ c.within-4.ensures c.ok_or-4.ensures.value c.in_err-least.was in
    handed_on _ _ _ _ c.from_residual-in_err-least.ensures.1 c.ok_or-4.ensures.value c.in_err-least.was ∙ sym (λ i. given (first_is i) (second_is i) (third-is i) (e i) (within_of 0 255 c.args.max_mic_level))

pub returns-in_err-most : goal.returns-in_err-most
unfolding arguments_of given
returns-in_err-most c =
    let first_is : within_of 0 255 c.args.level ≡ Some c.in_ok-here.here = sym (ap (within_of 0 255) (to_z-of_z w32 c.args.level c.ranges.level)) ∙ asked_some _ _ _ _ c.within.ensures c.ok_or.ensures.value c.in_ok-here.was in
    let second_is : within_of 0 (c.args.channels - 1) c.args.channel ≡ Some c.in_ok-place.place = sym (ap (within_of 0 (c.args.channels - 1)) (to_z-of_z w32 c.args.channel c.ranges.channel)) ∙ asked_some _ _ _ _ c.within-2.ensures c.ok_or-2.ensures.value c.in_ok-place.was in
    let third-is : within_of 1 255 c.args.default_step ≡ Some c.in_ok-step.step = sym (ap (within_of 1 255) (to_z-of_z w32 c.args.default_step c.ranges.default_step)) ∙ asked_some _ _ _ _ c.within-3.ensures c.ok_or-3.ensures.value c.in_ok-step.was in
    let fourth-is : within_of 0 255 c.args.min_mic_level ≡ Some c.in_ok-least.least = sym (ap (within_of 0 255) (to_z-of_z w32 c.args.min_mic_level c.ranges.min_mic_level)) ∙ asked_some _ _ _ _ c.within-4.ensures c.ok_or-4.ensures.value c.in_ok-least.was in
    let e : within_of 0 255 c.args.max_mic_level ≡ None = sym (ap (within_of 0 255) (to_z-of_z w32 c.args.max_mic_level c.ranges.max_mic_level)) ∙ asked_none _ _ _ _ c.within-5.ensures c.ok_or-5.ensures.value c.in_err-most.was in
    handed_on _ _ _ _ c.from_residual-in_err-most.ensures.1 c.ok_or-5.ensures.value c.in_err-most.was ∙ sym (λ i. given (first_is i) (second_is i) (third-is i) (fourth-is i) (e i))

pub returns-then-most-least : goal.returns-then-most-least
unfolding arguments_of given
returns-then-most-least c =
    let first_is : within_of 0 255 c.args.level ≡ Some c.in_ok-here.here = sym (ap (within_of 0 255) (to_z-of_z w32 c.args.level c.ranges.level)) ∙ asked_some _ _ _ _ c.within.ensures c.ok_or.ensures.value c.in_ok-here.was in
    let second_is : within_of 0 (c.args.channels - 1) c.args.channel ≡ Some c.in_ok-place.place = sym (ap (within_of 0 (c.args.channels - 1)) (to_z-of_z w32 c.args.channel c.ranges.channel)) ∙ asked_some _ _ _ _ c.within-2.ensures c.ok_or-2.ensures.value c.in_ok-place.was in
    let third-is : within_of 1 255 c.args.default_step ≡ Some c.in_ok-step.step = sym (ap (within_of 1 255) (to_z-of_z w32 c.args.default_step c.ranges.default_step)) ∙ asked_some _ _ _ _ c.within-3.ensures c.ok_or-3.ensures.value c.in_ok-step.was in
    let fourth-is : within_of 0 255 c.args.min_mic_level ≡ Some c.in_ok-least.least = sym (ap (within_of 0 255) (to_z-of_z w32 c.args.min_mic_level c.ranges.min_mic_level)) ∙ asked_some _ _ _ _ c.within-4.ensures c.ok_or-4.ensures.value c.in_ok-least.was in
    let fifth-is : within_of 0 255 c.args.max_mic_level ≡ Some c.in_ok-most.most = sym (ap (within_of 0 255) (to_z-of_z w32 c.args.max_mic_level c.ranges.max_mic_level)) ∙ asked_some _ _ _ _ c.within-5.ensures c.ok_or-5.ensures.value c.in_ok-most.was in
    elim c.then-most-least.branch [
      | then-most-least-via-then-most-least w ↦ ends_crossed _ _ _ _ _ w.if-most-least.true ∙ sym (λ i. given (first_is i) (second_is i) (third-is i) (fourth-is i) (fifth-is i))
      | then-most-least-via-else-most-least+then-most-here w ↦ level_above _ _ _ _ _ w.if-most-least.false w.if-most-here.true ∙ sym (λ i. given (first_is i) (second_is i) (third-is i) (fourth-is i) (fifth-is i))
    ]

pub overflow_cast-result : goal.overflow_cast-result
overflow_cast-result c =
    let first_is : within_of 0 255 c.args.level ≡ Some c.in_ok-here.here = sym (ap (within_of 0 255) (to_z-of_z w32 c.args.level c.ranges.level)) ∙ asked_some _ _ _ _ c.within.ensures c.ok_or.ensures.value c.in_ok-here.was in
    omega (arith, told _ _ _ _ (first_is))

pub overflow_cast-result-2 : goal.overflow_cast-result-2
overflow_cast-result-2 c =
    let third-is : within_of 1 255 c.args.default_step ≡ Some c.in_ok-step.step = sym (ap (within_of 1 255) (to_z-of_z w32 c.args.default_step c.ranges.default_step)) ∙ asked_some _ _ _ _ c.within-3.ensures c.ok_or-3.ensures.value c.in_ok-step.was in
    omega (arith, told _ _ _ _ (third-is))

pub overflow_cast-result-3 : goal.overflow_cast-result-3
overflow_cast-result-3 c =
    let fourth-is : within_of 0 255 c.args.min_mic_level ≡ Some c.in_ok-least.least = sym (ap (within_of 0 255) (to_z-of_z w32 c.args.min_mic_level c.ranges.min_mic_level)) ∙ asked_some _ _ _ _ c.within-4.ensures c.ok_or-4.ensures.value c.in_ok-least.was in
    omega (arith, told _ _ _ _ (fourth-is))

pub overflow_cast-result-4 : goal.overflow_cast-result-4
overflow_cast-result-4 c =
    let fifth-is : within_of 0 255 c.args.max_mic_level ≡ Some c.in_ok-most.most = sym (ap (within_of 0 255) (to_z-of_z w32 c.args.max_mic_level c.ranges.max_mic_level)) ∙ asked_some _ _ _ _ c.within-5.ensures c.ok_or-5.ensures.value c.in_ok-most.was in
    omega (arith, told _ _ _ _ (fifth-is))

pub returns : goal.returns
unfolding arguments_of given
returns c =
    let first_is : within_of 0 255 c.args.level ≡ Some c.in_ok-here.here = sym (ap (within_of 0 255) (to_z-of_z w32 c.args.level c.ranges.level)) ∙ asked_some _ _ _ _ c.within.ensures c.ok_or.ensures.value c.in_ok-here.was in
    let second_is : within_of 0 (c.args.channels - 1) c.args.channel ≡ Some c.in_ok-place.place = sym (ap (within_of 0 (c.args.channels - 1)) (to_z-of_z w32 c.args.channel c.ranges.channel)) ∙ asked_some _ _ _ _ c.within-2.ensures c.ok_or-2.ensures.value c.in_ok-place.was in
    let third-is : within_of 1 255 c.args.default_step ≡ Some c.in_ok-step.step = sym (ap (within_of 1 255) (to_z-of_z w32 c.args.default_step c.ranges.default_step)) ∙ asked_some _ _ _ _ c.within-3.ensures c.ok_or-3.ensures.value c.in_ok-step.was in
    let fourth-is : within_of 0 255 c.args.min_mic_level ≡ Some c.in_ok-least.least = sym (ap (within_of 0 255) (to_z-of_z w32 c.args.min_mic_level c.ranges.min_mic_level)) ∙ asked_some _ _ _ _ c.within-4.ensures c.ok_or-4.ensures.value c.in_ok-least.was in
    let fifth-is : within_of 0 255 c.args.max_mic_level ≡ Some c.in_ok-most.most = sym (ap (within_of 0 255) (to_z-of_z w32 c.args.max_mic_level c.ranges.max_mic_level)) ∙ asked_some _ _ _ _ c.within-5.ensures c.ok_or-5.ensures.value c.in_ok-most.was in
    in_range _ _ _ _ _ c.if-most-least.false c.if-most-here.false ∙ sym (λ i. given (first_is i) (second_is i) (third-is i) (fourth-is i) (fifth-is i))
