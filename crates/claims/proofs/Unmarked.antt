-- What exact logarithms decide is what an estimate can come to by turns of near tests. Assumes nothing.
use mathlib.Core.Path.{◌≡◌}
use mathlib.Core.Bool.{Bool, true, false, ◌&&◌, cond}
use mathlib.Core.List.{List, [], ◌∷◌, map, foldl}
use Prim.Native.Nat.{ℕ, ◌+◌, ◌≤◌}
use native.Mathlib.Omega.{arith}
use lib.Dec.{T, leb, lit≤}
use lib.IntN.{ℤ, pos, negsuc}
use lib.Ieee.{Float, binary32, fits, lt, of_int}
use lib.Ieee.Fits.{div-fits}
use lib.ListN.{length, take, drop}
use Rattle.std.specs.Prelude.{Err, None, Ok, Option, Result, Some}
use Rattle.numbers.specs.declared.refusal.Refusal.{Refusal}
use Rattle.levels.specs.declared.decibels.Decibels.TheVariants.{Finite}
use Rattle.levels.specs.Decibels.{plus, minus, less, at_most, near, near_distance}
use Rattle.levels.specs.Level.{d, h, dbfs, min_level_dbfs}
use Rattle.levels.specs.Within.{tolerance}
use Rattle.clipping_predictor_level_buffer.specs.declared.level.Level.{Level}
use Rattle.clipping_predictor_level_buffer.specs.Metrics.{mean_of, peak_of, metrics_over, found_if, metrics_if, partial_metrics}
use Rattle.clipping_predictor_level_buffer.specs.Statistics.{plus_zero, sum, mean, larger, second_if, largest}
use Rattle.clipping_predictor.specs.declared.settings.ClippingPredictorMode.{ClippingPredictorMode}
use Rattle.clipping_predictor.specs.declared.settings.ClippingPredictorMode.TheVariants.{ClippingEventPrediction, AdaptiveStepClippingPeakPrediction, FixedStepClippingPeakPrediction}
use Rattle.clipping_predictor.specs.declared.settings.Settings.{Settings}
use Rattle.clipping_predictor.specs.declared.modes.Asked.{Asked}
use Rattle.clipping_predictor.specs.Tree.{Tree, leaf, test, if_less}
use Rattle.clipping_predictor.specs.Turned.{Turned}
use Rattle.clipping_predictor.specs.Estimate as P
use Rattle.clipping_predictor.specs.Estimate.{drop_by, adaptive_drop, whole_db, event_tree, peak_tree, above_tree, mode_tree, windows_tree, unless_low, capacity_of, estimate_tree}
use Rattle.claims.specs.Exact as E
use Rattle.claims.specs.Every.{Every}
use Rattle.claims.specs.Unmarked.{PeakFits}
use Rattle.claims.proofs.Every.{every_drop, every_take}
use Rattle.claims.proofs.Apart.{Close, close_plus, close_minus, less_apart, most_apart, close_constant, close_level}
use Rattle.claims.proofs.ExactCeiling.{turned_test, turned_leaf, turned_adaptive}

-- ---- the metrics are 32-bit floats

record Fit (l : Level) : Type 0 where
  peak : T (fits binary32 l.max)
  mean : T (fits binary32 l.average)

second_fits : (t : Bool) (x y : Float) → T (fits binary32 x) → T (fits binary32 y) → T (fits binary32 (second_if t x y))
second_fits true x y f g = g
second_fits false x y f g = f

pub fold_fits : (xs : List Float) (x : Float) → T (fits binary32 x) → Every (λ (y : Float). T (fits binary32 y)) xs → T (fits binary32 (foldl larger x xs))
fold_fits [] x f g = f
fold_fits (y ∷ xs) x f g = fold_fits xs (larger x y) (second_fits (lt x y) x y f g.0) g.1

peaks_fit : (records : List Level) → Every PeakFits records → Every (λ (y : Float). T (fits binary32 y)) (map peak_of records)
peaks_fit [] f = tt
peaks_fit (l ∷ records) f = (f.0, peaks_fit records f.1)

pub zero_fits : T (fits binary32 plus_zero)
unfolding fits
zero_fits = tt

metrics_fit : (records : List Level) → Every PeakFits records → Fit (metrics_over records)
unfolding metrics_over largest mean
metrics_fit records f = record { peak = fold_fits (map peak_of records) plus_zero zero_fits (peaks_fit records f); mean = div-fits binary32 (sum (map mean_of records)) (of_int binary32 (pos (length (map mean_of records)))) }

abbrev FoundFit : Result (Option Level) Refusal → Type 0
FoundFit (Ok (Some l)) = Fit l
FoundFit (Ok None) = Unit {0}
FoundFit (Err cause) = Unit {0}

if_fit : (s t : Bool) (records : List Level) → Every PeakFits records → FoundFit (metrics_if s (found_if t records))
if_fit true true records f = metrics_fit records f
if_fit true false records f = tt
if_fit false t records f = tt

partial_fit : (capacity : ℕ) (records : List Level) (delay n : ℕ) → Every PeakFits records → FoundFit (partial_metrics capacity records delay n)
unfolding partial_metrics
partial_fit capacity records delay n f = if_fit (leb 1 n && leb (delay + n) capacity) (leb (delay + n) (length records)) (take n (drop delay records)) (every_take PeakFits n (drop delay records) (every_drop PeakFits delay records f))

-- ---- the law, over the tolerance e of one level: a comparison has at most four levels, and they fit into the near distance

module _ (e : ℕ) (some : 1 ≤ e) (room : e + e + (e + e) ≤ near_distance) where
  -- ---- the sides

  peak_close : (l : Level) → Fit l → Close e (d l.max) (E.d l.max)
  peak_close l f = close_level e 20000 l.max some (lit≤ tt) f.peak

  mean_close : (l : Level) → Fit l → Close e (h l.average) (E.h l.average)
  mean_close l f = close_level e 10000 l.average some (lit≤ tt) f.mean

  dbfs_close : (l : Level) → Fit l → Close (e + 0) (dbfs l.max) (E.dbfs l.max)
  unfolding dbfs
  dbfs_close l f = close_plus e 0 (d l.max) min_level_dbfs (E.d l.max) E.offset (peak_close l f) (close_constant (negsuc 90309))

  crest_close : (l : Level) → Fit l → Close (e + e) (P.crest_factor l) (E.crest_factor l)
  crest_close l f = close_minus e e (d l.max) (h l.average) (E.d l.max) (E.h l.average) (peak_close l f) (mean_close l f)

  projected_close : (window reference : Level) → Fit window → Fit reference → Close (e + e + e + 0) (P.projected_peak window reference) (E.projected_peak window reference)
  projected_close window reference f g =
      close_plus (e + e + e) 0 (plus (P.crest_factor reference) (h window.average)) min_level_dbfs (E.plus (E.crest_factor reference) (E.h window.average)) E.offset
      (close_plus (e + e) e (P.crest_factor reference) (h window.average) (E.crest_factor reference) (E.h window.average) (crest_close reference g) (mean_close window f))
      (close_constant (negsuc 90309))

  -- ---- the modes

  module _ (window reference : Level) (f : Fit window) (g : Fit reference) where
    -- the first test of every mode
    turned_first : (t : ℤ) (rest : Tree ℕ) (drop : ℕ) → Turned rest drop
        → Turned (test (at_most (dbfs window.max) (Finite t)) (near (dbfs window.max) (Finite t)) (leaf 0) rest) (cond (E.at_most (E.dbfs window.max) (E.constant t)) 0 drop)
    turned_first t rest drop r =
        turned_test (at_most (dbfs window.max) (Finite t)) (near (dbfs window.max) (Finite t)) (E.at_most (E.dbfs window.max) (E.constant t)) (leaf 0) rest 0 drop
        (most_apart near_distance (e + 0) 0 (omega arith) (dbfs window.max) (Finite t) (E.dbfs window.max) (E.constant t) (dbfs_close window f) (close_constant t))
        (λ x. turned_leaf 0) (λ x. r)

    turned_event : (threshold margin : ℤ) (a : Asked) → Turned (event_tree threshold margin window reference a) (E.event_drop threshold margin window reference a)
    turned_event threshold margin a =
        let x = P.crest_factor window in
        let y = minus (P.crest_factor reference) (Finite margin) in
        let X = E.crest_factor window in
        let Y = E.minus (E.crest_factor reference) (E.constant margin) in
        turned_first threshold (if_less x y (leaf (drop_by a a.step)) (leaf 0)) (cond (E.less X Y) (drop_by a a.step) 0)
        (turned_test (less x y) (near x y) (E.less X Y) (leaf (drop_by a a.step)) (leaf 0) (drop_by a a.step) 0
        (less_apart near_distance (e + e) (e + e + 0) (omega arith) x y X Y (crest_close window f)
        (close_minus (e + e) 0 (P.crest_factor reference) (Finite margin) (E.crest_factor reference) (E.constant margin) (crest_close reference g) (close_constant margin)))
        (λ z. turned_leaf (drop_by a a.step)) (λ z. turned_leaf 0))

    turned_peak : (threshold : ℤ) (above : Tree ℕ) (drop : ℕ) → (E.less (E.constant (whole_db threshold)) (E.projected_peak window reference) ≡ true → Turned above drop)
        → Turned (peak_tree threshold window reference above) (E.peak_drop threshold window reference drop)
    turned_peak threshold above drop r =
        let t = whole_db threshold in
        let y = P.projected_peak window reference in
        let Y = E.projected_peak window reference in
        turned_first t (if_less (Finite t) y above (leaf 0)) (cond (E.less (E.constant t) Y) drop 0)
        (turned_test (less (Finite t) y) (near (Finite t) y) (E.less (E.constant t) Y) above (leaf 0) drop 0
        (less_apart near_distance 0 (e + e + e + 0) (omega arith) (Finite t) y (E.constant t) Y (close_constant t) (projected_close window reference f g))
        r (λ z. turned_leaf 0))

    turned_mode : (mode : ClippingPredictorMode) (s : Settings) (a : Asked) → Turned (mode_tree mode s window reference a) (E.mode_drop mode s window reference a)
    turned_mode ClippingEventPrediction s a = turned_event s.threshold s.margin a
    turned_mode AdaptiveStepClippingPeakPrediction s a =
        turned_peak s.threshold (above_tree true a (P.projected_peak window reference)) (adaptive_drop a (E.ceiling (E.projected_peak window reference)))
        (turned_adaptive a (e + e + e + 0) (P.projected_peak window reference) (E.projected_peak window reference) (whole_db s.threshold) (omega arith) (omega arith) (projected_close window reference f g))
    turned_mode FixedStepClippingPeakPrediction s a =
        turned_peak s.threshold (above_tree false a (P.projected_peak window reference)) (drop_by a a.step) (λ x. turned_leaf (drop_by a a.step))

  -- ---- from a ring's records

  turned_windows : (s : Settings) (a : Asked) (m r : Result (Option Level) Refusal) → FoundFit m → FoundFit r → Turned (windows_tree s a m r) (E.windows_drop s a m r)
  unfolding windows_tree E.windows_drop
  turned_windows s a (Ok (Some window)) (Ok (Some reference)) f g = turned_mode window reference f g s.mode s a
  turned_windows s a (Ok (Some window)) (Ok None) f g = turned_leaf 0
  turned_windows s a (Ok (Some window)) (Err cause) f g = turned_leaf 0
  turned_windows s a (Ok None) r f g = turned_leaf 0
  turned_windows s a (Err cause) r f g = turned_leaf 0

  turned_low : (low : Bool) (t : Tree ℕ) (drop : ℕ) → Turned t drop → Turned (unless_low low t) (cond low 0 drop)
  turned_low true t drop r = turned_leaf 0
  turned_low false t drop r = r

  turned_estimate : (s : Settings) (records : List Level) (a : Asked) → Every PeakFits records → Turned (estimate_tree s records a) (E.exact_drop s records a)
  unfolding estimate_tree E.exact_drop
  turned_estimate s records a f =
      let m = partial_metrics (capacity_of s) records 0 s.window in
      let r = partial_metrics (capacity_of s) records s.delay s.reference in
      turned_low (leb a.level a.least) (windows_tree s a m r) (E.windows_drop s a m r)
      (turned_windows s a m r (partial_fit (capacity_of s) records 0 s.window f) (partial_fit (capacity_of s) records s.delay s.reference f))

-- THE LAW, at the tolerance that levels are proved within
pub exact_turned : (s : Settings) (records : List Level) (a : Asked) → Every PeakFits records → Turned (estimate_tree s records a) (E.exact_drop s records a)
exact_turned = turned_estimate tolerance (lit≤ tt) (lit≤ tt)
