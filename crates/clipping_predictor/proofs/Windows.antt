-- The estimate of a ring's records, by the tests that lead there. Assumes nothing.
use mathlib.Core.Path.{◌≡◌, refl, ap, ◌∙◌}
use mathlib.Core.Bool.{Bool, true, false, ◌&&◌}
use mathlib.Core.List.{List, []}
use Prim.Native.Nat.{ℕ, zero, suc, ◌+◌, ◌≤◌, ◌<◌}
use native.Mathlib.Omega.{arith}
use lib.Dec.{leb}
use lib.ListN.{take, drop}
use borrow.Author.Tests.{le-leb, lt-leb}
use Rattle.std.specs.Prelude.{Err, None, Ok, Option, Result}
use Rattle.numbers.specs.declared.refusal.Refusal.{Refusal}
use Rattle.numbers.specs.declared.refusal.Refusal.TheVariants.{RingRange}
use Rattle.clipping_predictor_level_buffer.specs.declared.level.Level.{Level}
use Rattle.clipping_predictor_level_buffer.specs.Metrics.{found_if, metrics_if, partial_metrics}
use Rattle.clipping_predictor.specs.declared.settings.Settings.{Settings}
use Rattle.clipping_predictor.specs.declared.modes.Asked.{Asked}
use Rattle.clipping_predictor.specs.Tree.{leaf}
use Rattle.clipping_predictor.specs.Estimate.{capacity_if, capacity_of, windows_tree, unless_low, estimate_tree}

-- a ring with no place has no metrics
none_kept : (records : List Level) (delay n : ℕ) → 1 ≤ n → partial_metrics 0 records delay n ≡ Err RingRange
unfolding partial_metrics
none_kept records delay n h = rw (le-leb 1 n h, lt-leb (delay + n) 0 (omega arith))

low_leaf : (b : Bool) → unless_low b (leaf 0) ≡ leaf 0
low_leaf true = refl
low_leaf false = refl

refused_windows : (s : Settings) (a : Asked) (m r : Result (Option Level) Refusal) → m ≡ Err RingRange → windows_tree s a m r ≡ leaf 0
unfolding windows_tree
refused_windows s a m r e = ap (λ (k : Result (Option Level) Refusal). windows_tree s a k r) e

-- an empty ring has none either
none_stored : (s : Settings) (a : Asked) (capacity n : ℕ) (r : Result (Option Level) Refusal) → windows_tree s a (partial_metrics capacity [] 0 n) r ≡ leaf 0
unfolding partial_metrics windows_tree
none_stored s a capacity zero r = refl
none_stored s a capacity (suc n) r =
    (λ i. windows_tree s a (metrics_if (leb 1 (suc n) && leb (0 + suc n) capacity) (found_if (lt-leb (0 + suc n) 0 (omega arith) i) (take (suc n) (drop 0 [])))) r)
    ∙ by_range (leb 1 (suc n) && leb (0 + suc n) capacity)
  where
    by_range : (b : Bool) → windows_tree s a (metrics_if b (Ok None)) r ≡ leaf 0
    by_range true = refl
    by_range false = refl

pub none_stored_none : (s : Settings) (a : Asked) → estimate_tree s [] a ≡ leaf 0
unfolding estimate_tree
none_stored_none s a =
    ap (unless_low (leb a.level a.least)) (none_stored s a (capacity_of s) s.window (partial_metrics (capacity_of s) [] s.delay s.reference)) ∙ low_leaf (leb a.level a.least)

module _ (s : Settings) (records : List Level) (a : Asked) where
  pub off : s.enabled ≡ false → 1 ≤ s.window → estimate_tree s records a ≡ leaf 0
  unfolding estimate_tree
  off e h =
      ap (unless_low (leb a.level a.least))
      (refused_windows s a _ (partial_metrics (capacity_of s) records s.delay s.reference)
      (ap (λ (b : Bool). partial_metrics (capacity_if b (s.delay + s.reference)) records 0 s.window) e ∙ none_kept records 0 s.window h))
      ∙ low_leaf (leb a.level a.least)

  pub low : a.level ≤ a.least → estimate_tree s records a ≡ leaf 0
  unfolding estimate_tree
  low h = rw (le-leb a.level a.least h)

  pub on : s.enabled ≡ true → a.least < a.level
      → estimate_tree s records a ≡ windows_tree s a (partial_metrics (s.delay + s.reference) records 0 s.window) (partial_metrics (s.delay + s.reference) records s.delay s.reference)
  unfolding estimate_tree
  on e h =
      (λ i. unless_low (lt-leb a.level a.least h i) (windows_tree s a (partial_metrics (capacity_of s) records 0 s.window) (partial_metrics (capacity_of s) records s.delay s.reference)))
      ∙ ap (λ (b : Bool). windows_tree s a (partial_metrics (capacity_if b (s.delay + s.reference)) records 0 s.window) (partial_metrics (capacity_if b (s.delay + s.reference)) records s.delay s.reference)) e
