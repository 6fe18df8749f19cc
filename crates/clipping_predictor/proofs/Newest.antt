-- An estimate is a function of the newest delay + reference records of its channel alone. Assumes nothing.
use mathlib.Core.Path.{◌≡◌, refl, sym, ap₂, ◌∙◌}
use mathlib.Core.Bool.{◌&&◌}
use mathlib.Core.List.{List, [], ◌∷◌}
use Prim.Native.Nat.{ℕ, zero, suc, ◌+◌, ◌≤◌}
use native.Mathlib.Nat.{not-suc-le-zero}
use native.Mathlib.Omega.{arith}
use native.Mathlib.Decide.{dec_le}
use lib.Dec.{leb}
use borrow.Author.Tests.{le-leb, lt-leb}
use lib.ListN.{length, take, drop, length-take}
use lib.Seq.{take-take}
use Rattle.clipping_predictor_level_buffer.specs.declared.level.Level.{Level}
use Rattle.clipping_predictor_level_buffer.specs.Metrics.{found_if, metrics_if, partial_metrics}
use Rattle.clipping_predictor.specs.declared.settings.Settings.{Settings}
use Rattle.clipping_predictor.specs.declared.modes.Asked.{Asked}
use Rattle.clipping_predictor.specs.Settings.{Good}
use Rattle.clipping_predictor.specs.Estimate.{capacity_of, windows_tree, unless_low, estimate_tree}

-- the items lie among the newest c records
same_items : (records : List Level) (c delay n : ℕ) → delay + n ≤ c → take n (drop delay (take c records)) ≡ take n (drop delay records)
same_items records c zero n h = take-take n c records (omega arith)
same_items [] zero (suc delay) n h = refl
same_items [] (suc c) (suc delay) n h = refl
same_items (l ∷ records) zero (suc delay) n h = absurd (not-suc-le-zero {n = delay + n} (omega arith))
same_items (l ∷ records) (suc c) (suc delay) n h = same_items records c delay n (omega arith)

-- and there are enough of them at the same time
same_count : (records : List Level) (c k : ℕ) → k ≤ c → leb k (length (take c records)) ≡ leb k (length records)
same_count records c k h =
    elim (dec_le k (length records)) [
      | yes l ↦ le-leb k (length (take c records)) (simp length-take (omega arith)) ∙ sym (le-leb k (length records) l)
      | no l ↦ lt-leb k (length (take c records)) (simp length-take (omega (arith, l))) ∙ sym (lt-leb k (length records) (omega (arith, l)))
    ]

same_metrics : (records : List Level) (capacity c delay n : ℕ) → delay + n ≤ c → partial_metrics capacity (take c records) delay n ≡ partial_metrics capacity records delay n
unfolding partial_metrics
same_metrics records capacity c delay n h =
    λ i. metrics_if (leb 1 n && leb (delay + n) capacity) (found_if (same_count records c (delay + n) h i) (same_items records c delay n h i))

-- THE CLAIM
pub estimate_of_newest : (s : Settings) (records : List Level) (a : Asked) → Good s → estimate_tree s (take (s.delay + s.reference) records) a ≡ estimate_tree s records a
unfolding estimate_tree
estimate_of_newest s records a good =
    let c = s.delay + s.reference in
    ap₂ (λ m r. unless_low (leb a.level a.least) (windows_tree s a m r))
    (same_metrics records (capacity_of s) c 0 s.window (omega (arith, good.window_high))) (same_metrics records (capacity_of s) c s.delay s.reference (omega arith))
