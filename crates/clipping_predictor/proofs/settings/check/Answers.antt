-- `clipping_predictor::settings::check` meets its contract: each return by the tests that lead there. Assumes nothing.
use mathlib.Core.Path.{◌≡◌, refl, sym, ap, ◌∙◌}
use mathlib.Core.Bool.{Bool, true, false}
use Prim.Native.Nat.{ℕ, ◌+◌}
use native.Mathlib.Omega.{arith}
use lib.Dec.{leb, ltb}
use borrow.Author.Tests.{le-leb, lt-leb, lt-ltb, le-ltb}
use Rattle.std.specs.Prelude.{None, Option, Some}
use Rattle.numbers.specs.Natural.{at_least_of}
use Rattle.numbers.specs.Said.{accepted, said}
use Rattle.numbers.proofs.Signs.{again}
use Rattle.numbers.proofs.Asked.{asked_some, asked_none, handed_on}
use Rattle.numbers.proofs.Ranges.{told_least}
use Rattle.clipping_predictor_level_buffer.specs.Ring.{max_capacity}
use Rattle.clipping_predictor.specs.declared.settings.ClippingPredictorConfig.{ClippingPredictorConfig}
use Rattle.clipping_predictor.specs.declared.settings.Settings.{Settings}
use Rattle.clipping_predictor.specs.Settings.{levels_in_range, checked_if, checked, settings_of}
use Rattle.clipping_predictor.proofs.settings.check.Goals as goal

-- ---- the three windows, each in its range or not

of_config : (k : ClippingPredictorConfig) (a b d : Option ℕ) → a ≡ at_least_of 1 k.window_length → b ≡ at_least_of 1 k.reference_window_length → d ≡ at_least_of 0 k.reference_window_delay
    → said (checked a b d k) ≡ said (settings_of k)
unfolding settings_of
of_config k a b d p q r = λ i. said (checked (p i) (q i) (r i) k)

pub returns-in_err-window : goal.returns-in_err-window
unfolding checked
returns-in_err-window c =
    let k = c.args.config in
    ap said (handed_on _ _ _ _ c.from_residual.ensures.1 c.ok_or.ensures.value c.in_err-window.was)
    ∙ of_config k None (at_least_of 1 k.reference_window_length) (at_least_of 0 k.reference_window_delay) (sym (asked_none _ _ _ _ c.at_least.ensures c.ok_or.ensures.value c.in_err-window.was) ∙ ap (at_least_of 1) (again k.window_length c.struct_told-1.given.1.1.0.1)) refl refl

pub returns-in_err-reference : goal.returns-in_err-reference
unfolding checked
returns-in_err-reference c =
    let k = c.args.config in
    ap said (handed_on _ _ _ _ c.from_residual-in_err-reference.ensures.1 c.ok_or-2.ensures.value c.in_err-reference.was)
    ∙ of_config k (Some c.in_ok-window.window) None (at_least_of 0 k.reference_window_delay)
    (sym (asked_some _ _ _ _ c.at_least.ensures c.ok_or.ensures.value c.in_ok-window.was) ∙ ap (at_least_of 1) (again k.window_length c.struct_told-1.given.1.1.0.1))
    (sym (asked_none _ _ _ _ c.at_least-2.ensures c.ok_or-2.ensures.value c.in_err-reference.was) ∙ ap (at_least_of 1) (again k.reference_window_length c.struct_told-1.given.1.1.1.0.1))
    refl

pub returns-in_err-delay : goal.returns-in_err-delay
unfolding checked
returns-in_err-delay c =
    let k = c.args.config in
    ap said (handed_on _ _ _ _ c.from_residual-in_err-delay.ensures.1 c.ok_or-3.ensures.value c.in_err-delay.was)
    ∙ of_config k (Some c.in_ok-window.window) (Some c.in_ok-reference.reference) None
    (sym (asked_some _ _ _ _ c.at_least.ensures c.ok_or.ensures.value c.in_ok-window.was) ∙ ap (at_least_of 1) (again k.window_length c.struct_told-1.given.1.1.0.1))
    (sym (asked_some _ _ _ _ c.at_least-2.ensures c.ok_or-2.ensures.value c.in_ok-reference.was) ∙ ap (at_least_of 1) (again k.reference_window_length c.struct_told-1.given.1.1.1.0.1))
    (sym (asked_none _ _ _ _ c.at_least-3.ensures c.ok_or-3.ensures.value c.in_err-delay.was) ∙ ap (at_least_of 0) (again k.reference_window_delay c.struct_told-1.given.1.1.1.1.0.1))

-- the sum of two numbers, each at most the largest i32
pub overflow_add-sum : goal.overflow_add-sum
overflow_add-sum c =
    let k = c.args.config in
    let second = told_least 1 k.reference_window_length c.in_ok-reference.reference (sym (sym (asked_some _ _ _ _ c.at_least-2.ensures c.ok_or-2.ensures.value c.in_ok-reference.was) ∙ ap (at_least_of 1) (again k.reference_window_length c.struct_told-1.given.1.1.1.0.1))) in
    let third = told_least 0 k.reference_window_delay c.in_ok-delay.delay (sym (sym (asked_some _ _ _ _ c.at_least-3.ensures c.ok_or-3.ensures.value c.in_ok-delay.was) ∙ ap (at_least_of 0) (again k.reference_window_delay c.struct_told-1.given.1.1.1.1.0.1))) in
    omega (arith, second.most, third.most, c.struct_told-1.given.1.1.1.0.1, c.struct_told-1.given.1.1.1.1.0.1)

-- ---- the three tests that are left, with all windows in their range

module _ (k : ClippingPredictorConfig) (w r d : ℕ) where
  kept : Settings
  kept = record { enabled = k.enabled; mode = k.mode; window = w; reference = r; delay = d; threshold = k.clipping_threshold; margin = k.crest_factor_margin }

  by_tests : (above room levels : Bool) → above ≡ ltb w (d + r) → room ≡ leb (d + r) max_capacity → levels ≡ levels_in_range k.clipping_threshold k.crest_factor_margin
      → Some w ≡ at_least_of 1 k.window_length → Some r ≡ at_least_of 1 k.reference_window_length → Some d ≡ at_least_of 0 k.reference_window_delay
      → said (checked_if above room levels kept) ≡ said (settings_of k)
  unfolding checked kept
  by_tests above room levels e f g p q s =
      (λ i. said (checked_if (e i) (f i) (g i) kept)) ∙ of_config k (Some w) (Some r) (Some d) p q s

pub returns-then-sum-window : goal.returns-then-sum-window
returns-then-sum-window c =
    let k = c.args.config in
    let sum = c.in_ok-delay.delay + c.in_ok-reference.reference in
    by_tests k _ _ _ false (leb sum max_capacity) (levels_in_range k.clipping_threshold k.crest_factor_margin) (sym (le-ltb c.in_ok-window.window sum c.if-sum-window.true)) refl refl
    (sym (asked_some _ _ _ _ c.at_least.ensures c.ok_or.ensures.value c.in_ok-window.was) ∙ ap (at_least_of 1) (again k.window_length c.struct_told-1.given.1.1.0.1))
    (sym (asked_some _ _ _ _ c.at_least-2.ensures c.ok_or-2.ensures.value c.in_ok-reference.was) ∙ ap (at_least_of 1) (again k.reference_window_length c.struct_told-1.given.1.1.1.0.1))
    (sym (asked_some _ _ _ _ c.at_least-3.ensures c.ok_or-3.ensures.value c.in_ok-delay.was) ∙ ap (at_least_of 0) (again k.reference_window_delay c.struct_told-1.given.1.1.1.1.0.1))

pub returns-then-sum-gt-MAX_CAPACITY : goal.returns-then-sum-gt-MAX_CAPACITY
returns-then-sum-gt-MAX_CAPACITY c =
    let k = c.args.config in
    let sum = c.in_ok-delay.delay + c.in_ok-reference.reference in
    by_tests k _ _ _ true false (levels_in_range k.clipping_threshold k.crest_factor_margin) (sym (lt-ltb c.in_ok-window.window sum c.if-sum-window.false)) (sym (lt-leb sum max_capacity c.if-sum-gt-MAX_CAPACITY.true)) refl
    (sym (asked_some _ _ _ _ c.at_least.ensures c.ok_or.ensures.value c.in_ok-window.was) ∙ ap (at_least_of 1) (again k.window_length c.struct_told-1.given.1.1.0.1))
    (sym (asked_some _ _ _ _ c.at_least-2.ensures c.ok_or-2.ensures.value c.in_ok-reference.was) ∙ ap (at_least_of 1) (again k.reference_window_length c.struct_told-1.given.1.1.1.0.1))
    (sym (asked_some _ _ _ _ c.at_least-3.ensures c.ok_or-3.ensures.value c.in_ok-delay.was) ∙ ap (at_least_of 0) (again k.reference_window_delay c.struct_told-1.given.1.1.1.1.0.1))

pub returns-then-not-levels_in_range : goal.returns-then-not-levels_in_range
returns-then-not-levels_in_range c =
    let k = c.args.config in
    let sum = c.in_ok-delay.delay + c.in_ok-reference.reference in
    let threshold = again k.clipping_threshold c.struct_told-1.given.1.1.1.1.1.0.1 in
    let margin = again k.crest_factor_margin c.struct_told-1.given.1.1.1.1.1.1.0.1 in
    by_tests k _ _ _ true true false (sym (lt-ltb c.in_ok-window.window sum c.if-sum-window.false)) (sym (le-leb sum max_capacity c.if-sum-gt-MAX_CAPACITY.false))
    (c.if-not-levels_in_range.ensures ∙ (λ i. levels_in_range (threshold i) (margin i)))
    (sym (asked_some _ _ _ _ c.at_least.ensures c.ok_or.ensures.value c.in_ok-window.was) ∙ ap (at_least_of 1) (again k.window_length c.struct_told-1.given.1.1.0.1))
    (sym (asked_some _ _ _ _ c.at_least-2.ensures c.ok_or-2.ensures.value c.in_ok-reference.was) ∙ ap (at_least_of 1) (again k.reference_window_length c.struct_told-1.given.1.1.1.0.1))
    (sym (asked_some _ _ _ _ c.at_least-3.ensures c.ok_or-3.ensures.value c.in_ok-delay.was) ∙ ap (at_least_of 0) (again k.reference_window_delay c.struct_told-1.given.1.1.1.1.0.1))

pub returns : goal.returns
unfolding kept
returns c =
    let k = c.args.config in
    let sum = c.in_ok-delay.delay + c.in_ok-reference.reference in
    let threshold = again k.clipping_threshold c.struct_told-1.given.1.1.1.1.1.0.1 in
    let margin = again k.crest_factor_margin c.struct_told-1.given.1.1.1.1.1.1.0.1 in
    (λ i. accepted (record { enabled = k.enabled; mode = k.mode; window = c.in_ok-window.window; reference = c.in_ok-reference.reference; delay = c.in_ok-delay.delay; threshold = threshold i; margin = margin i }))
    ∙ by_tests k _ _ _ true true true (sym (lt-ltb c.in_ok-window.window sum c.if-sum-window.false)) (sym (le-leb sum max_capacity c.if-sum-gt-MAX_CAPACITY.false))
    (c.if-not-levels_in_range.ensures ∙ (λ i. levels_in_range (threshold i) (margin i)))
    (sym (asked_some _ _ _ _ c.at_least.ensures c.ok_or.ensures.value c.in_ok-window.was) ∙ ap (at_least_of 1) (again k.window_length c.struct_told-1.given.1.1.0.1))
    (sym (asked_some _ _ _ _ c.at_least-2.ensures c.ok_or-2.ensures.value c.in_ok-reference.was) ∙ ap (at_least_of 1) (again k.reference_window_length c.struct_told-1.given.1.1.1.0.1))
    (sym (asked_some _ _ _ _ c.at_least-3.ensures c.ok_or-3.ensures.value c.in_ok-delay.was) ∙ ap (at_least_of 0) (again k.reference_window_delay c.struct_told-1.given.1.1.1.1.0.1))
