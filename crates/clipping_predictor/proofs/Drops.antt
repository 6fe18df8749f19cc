-- What an estimate can be: a drop leaves the level within its ends, and is the default step or more unless the least level stops it. Assumes nothing.
use mathlib.Core.Path.{◌≡◌, refl, sym, subst}
use mathlib.Core.Logic.{◌⊎◌, inl, inr, ⊎_elim}
use mathlib.Core.Bool.{Bool, true, false}
use mathlib.Core.List.{List}
use Prim.Native.Nat.{ℕ, ◌+◌, ◌-◌, ◌≤◌, ◌<◌, min, max}
use native.Mathlib.Omega.{arith}
use native.Mathlib.Decide.{dec_le}
use lib.Dec.{leb}
use borrow.Author.Tests.{leb-false}
use lib.IntN.{pos, neg_ℤ}
use Rattle.std.specs.Prelude.{Err, None, Ok, Option, Result, Some}
use Rattle.numbers.specs.declared.refusal.Refusal.{Refusal}
use Rattle.levels.specs.declared.decibels.Decibels.{Decibels}
use Rattle.levels.specs.declared.decibels.Decibels.TheVariants.{Finite, PlusInfinity, MinusInfinity, NotANumber}
use Rattle.gain_map.specs.VolumeUpdate.{walk}
use Rattle.clipping_predictor_level_buffer.specs.declared.level.Level.{Level}
use Rattle.clipping_predictor_level_buffer.specs.Metrics.{partial_metrics}
use Rattle.clipping_predictor.specs.declared.settings.ClippingPredictorMode.{ClippingPredictorMode}
use Rattle.clipping_predictor.specs.declared.settings.ClippingPredictorMode.TheVariants.{ClippingEventPrediction, AdaptiveStepClippingPeakPrediction, FixedStepClippingPeakPrediction}
use Rattle.clipping_predictor.specs.declared.settings.Settings.{Settings}
use Rattle.clipping_predictor.specs.declared.modes.Asked.{Asked}
use Rattle.clipping_predictor.specs.Tree.{Tree, leaf, test, reached}
use Rattle.clipping_predictor.specs.Estimate.{drop_by, adaptive_drop, max_gain_change, nearest_whole, adaptive_tree, projected_peak, above_tree, mode_tree, capacity_of, windows_tree, unless_low, estimate_tree}

-- n is none, or the drop for a step of at least the default one
abbrev Stepped : Asked → ℕ → Type 0
Stepped a n = (n ≡ 0) ⊎ ((step : ℕ) × (a.step ≤ step) × (n ≡ drop_by a step))

default_step : (a : Asked) → Stepped a (drop_by a a.step)
default_step a = inr (a.step, omega arith, refl)

adaptive_step : (a : Asked) (k : ℕ) → Stepped a (adaptive_drop a k)
unfolding adaptive_drop
adaptive_step a k = inr (max (a.level - walk (neg_ℤ (pos (min k max_gain_change))) a.level a.least a.most) a.step, omega arith, refl)

-- whatever a test's outcome is
after_test : (a : Asked) (t n : Bool) (x y : Tree ℕ) → Stepped a (reached x) → Stepped a (reached y) → Stepped a (reached (test t n x y))
unfolding reached
after_test a true n x y p q = p
after_test a false n x y p q = q

at_leaf : (a : Asked) (n : ℕ) → Stepped a n → Stepped a (reached (leaf n))
unfolding reached
at_leaf a n p = p

none : (a : Asked) → Stepped a (reached (leaf 0))
unfolding reached
none a = inl refl

by_adaptive : (a : Asked) (p : Decibels) → Stepped a (reached (adaptive_tree a p))
by_adaptive a (Finite z) = after_test a _ _ (leaf (adaptive_drop a (nearest_whole z))) (leaf (adaptive_drop a (nearest_whole z + 1))) (at_leaf a _ (adaptive_step a (nearest_whole z))) (at_leaf a _ (adaptive_step a (nearest_whole z + 1)))
by_adaptive a PlusInfinity = at_leaf a _ (adaptive_step a max_gain_change)
by_adaptive a MinusInfinity = none a
by_adaptive a NotANumber = none a

by_above : (b : Bool) (a : Asked) (p : Decibels) → Stepped a (reached (above_tree b a p))
by_above true a p = by_adaptive a p
by_above false a p = at_leaf a _ (default_step a)

by_mode : (m : ClippingPredictorMode) (s : Settings) (window reference : Level) (a : Asked) → Stepped a (reached (mode_tree m s window reference a))
by_mode ClippingEventPrediction s window reference a = after_test a _ _ (leaf 0) _ (none a) (after_test a _ _ (leaf (drop_by a a.step)) (leaf 0) (at_leaf a _ (default_step a)) (none a))
by_mode AdaptiveStepClippingPeakPrediction s window reference a = after_test a _ _ (leaf 0) _ (none a) (after_test a _ _ _ (leaf 0) (by_above true a (projected_peak window reference)) (none a))
by_mode FixedStepClippingPeakPrediction s window reference a = after_test a _ _ (leaf 0) _ (none a) (after_test a _ _ _ (leaf 0) (by_above false a (projected_peak window reference)) (none a))

by_windows : (s : Settings) (a : Asked) (m r : Result (Option Level) Refusal) → Stepped a (reached (windows_tree s a m r))
unfolding windows_tree
by_windows s a (Ok (Some window)) (Ok (Some reference)) = by_mode s.mode s window reference a
by_windows s a (Ok (Some window)) (Ok None) = none a
by_windows s a (Ok (Some window)) (Err cause) = none a
by_windows s a (Ok None) r = none a
by_windows s a (Err cause) r = none a

-- ---- what a drop does

-- THE DROP: n is at least 1, the new level lies within the ends, and n is the default step or more unless the least level stops it
pub record Drops (a : Asked) (n : ℕ) : Type 0 where
  pub least : 1 ≤ n
  pub above : a.least ≤ a.level - n
  pub below : a.level - n ≤ a.most
  pub whole : (a.step ≤ n) ⊎ (a.level - n ≡ a.least)

larger : (a : Asked) (step : ℕ) → a.least < a.level → a.level ≤ a.most → a.step ≤ step → (a.step ≤ drop_by a step) ⊎ (a.level - drop_by a step ≡ a.least)
unfolding drop_by
larger a step low h k = elim (dec_le a.least (a.level - step)) [ yes l ↦ elim (dec_le step a.level) [ yes m ↦ inl (omega arith) | no m ↦ inr (omega arith) ] | no l ↦ inr (omega arith) ]

dropped : (a : Asked) (step : ℕ) → a.least < a.level → a.level ≤ a.most → 1 ≤ a.step → a.step ≤ step → Drops a (drop_by a step)
unfolding drop_by
dropped a step low high some k = record { least = omega arith; above = omega arith; below = omega arith; whole = larger a step low high k }

stepped : (a : Asked) (n : ℕ) → a.least < a.level → a.level ≤ a.most → 1 ≤ a.step → Stepped a n → (n ≡ 0) ⊎ Drops a n
stepped a n low high some p = ⊎_elim (λ e. inl e) (λ q. inr (subst (Drops a) (sym q.2) (dropped a q.0 low high some q.1))) p

from_low : (s : Settings) (a : Asked) (t : Tree ℕ) (b : Bool) → leb a.level a.least ≡ b → a.level ≤ a.most → 1 ≤ a.step → Stepped a (reached t) → (reached (unless_low b t) ≡ 0) ⊎ Drops a (reached (unless_low b t))
unfolding reached
from_low s a t true e high some p = inl refl
from_low s a t false e high some p = stepped a (reached t) (leb-false a.level a.least e) high some p

-- THE CLAIM, of every predictor, ring and question in range
pub estimate_drops : (s : Settings) (records : List Level) (a : Asked) → a.level ≤ a.most → 1 ≤ a.step → (reached (estimate_tree s records a) ≡ 0) ⊎ Drops a (reached (estimate_tree s records a))
unfolding estimate_tree
estimate_drops s records a high some =
    let m = partial_metrics (capacity_of s) records 0 s.window in
    let r = partial_metrics (capacity_of s) records s.delay s.reference in
    from_low s a (windows_tree s a m r) (leb a.level a.least) refl high some (by_windows s a m r)
