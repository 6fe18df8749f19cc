-- An estimate does not read the counts of a ring's records, and records enter and leave rings alike with their counts and without. Assumes nothing.
use mathlib.Core.Path.{◌≡◌, refl, sym, ap, ap₂, ◌∙◌}
use mathlib.Core.Bool.{Bool, true, false, ◌&&◌}
use mathlib.Core.List.{List, [], ◌∷◌, map, map-map, foldl}
use Prim.Native.Nat.{ℕ, zero, suc, ◌+◌}
use native.Mathlib.Omega.{arith}
use lib.Dec.{leb}
use lib.Ieee.{Float}
use lib.ListN.{length, take, drop, length-map}
use Rattle.std.specs.Prelude.{Err, None, Ok, Option, Result, Some}
use Rattle.numbers.specs.declared.refusal.Refusal.{Refusal}
use Rattle.clipping_predictor_level_buffer.specs.declared.level.Level.{Level}
use Rattle.clipping_predictor_level_buffer.specs.Statistics.{mean, largest}
use Rattle.clipping_predictor_level_buffer.specs.Clipped.{total}
use Rattle.clipping_predictor_level_buffer.specs.Metrics.{mean_of, peak_of, clipped_of, metrics_over, found_if, metrics_if, partial_metrics}
use Rattle.clipping_predictor.specs.declared.settings.ClippingPredictorMode.{ClippingPredictorMode}
use Rattle.clipping_predictor.specs.declared.settings.ClippingPredictorMode.TheVariants.{ClippingEventPrediction, AdaptiveStepClippingPeakPrediction, FixedStepClippingPeakPrediction}
use Rattle.clipping_predictor.specs.declared.settings.Settings.{Settings}
use Rattle.clipping_predictor.specs.declared.modes.Asked.{Asked}
use Rattle.clipping_predictor.specs.declared.modes.Estimated.{Estimated}
use Rattle.clipping_predictor.specs.Turned.{estimated}
use Rattle.clipping_predictor.specs.Estimate.{capacity_of, mode_tree, windows_tree, unless_low, estimate_tree}
use Rattle.clipping_predictor.specs.Predictor.{Predictor, levels_of, push_each, entered_if, emptied}
use Rattle.clipping_predictor.specs.AllRings.{joined, no_estimate, predicted_by}
use Rattle.claims.specs.Counts.{uncounted, uncounted_rings}
use Rattle.claims.proofs.Lists.{map_same}

-- ---- lists

module _ {A B : Type 0} (f : A → B) where
  take_map : (n : ℕ) (xs : List A) → take n (map f xs) ≡ map f (take n xs)
  take_map zero xs = refl
  take_map (suc n) [] = refl
  take_map (suc n) (x ∷ xs) = ap (λ (l : List B). f x ∷ l) (take_map n xs)

  drop_map : (n : ℕ) (xs : List A) → drop n (map f xs) ≡ map f (drop n xs)
  drop_map zero xs = refl
  drop_map (suc n) [] = refl
  drop_map (suc n) (x ∷ xs) = drop_map n xs

  -- what f does not change of g
  after_map : {C : Type 0} (g : B → C) (h : A → C) → ((x : A) → g (f x) ≡ h x) → (xs : List A) → map g (map f xs) ≡ map h xs
  after_map g h e xs = map-map g f xs ∙ map_same (λ x. g (f x)) h xs e

-- ---- metrics

no_total : (items : List Level) (n : ℕ) → foldl ◌+◌ n (map clipped_of (map uncounted items)) ≡ n
no_total [] n = refl
no_total (l ∷ items) n = no_total items (n + 0) ∙ omega arith

metrics_uncounted : (items : List Level) → metrics_over (map uncounted items) ≡ uncounted (metrics_over items)
unfolding metrics_over total
metrics_uncounted items = λ i. record {
  average = mean (after_map uncounted mean_of mean_of (λ l. refl) items i);
  max = largest (after_map uncounted peak_of peak_of (λ l. refl) items i);
  clipped = no_total items 0 i;
}

abbrev uncounted_metrics : Result (Option Level) Refusal → Result (Option Level) Refusal
uncounted_metrics (Ok (Some l)) = Ok (Some (uncounted l))
uncounted_metrics (Ok None) = Ok None
uncounted_metrics (Err cause) = Err cause

found_uncounted : (b : Bool) (items : List Level) → found_if b (map uncounted items) ≡ uncounted_metrics (found_if b items)
found_uncounted true items = ap (λ (l : Level). Ok (Some l)) (metrics_uncounted items)
found_uncounted false items = refl

if_uncounted : (b : Bool) (m : Result (Option Level) Refusal) → metrics_if b (uncounted_metrics m) ≡ uncounted_metrics (metrics_if b m)
if_uncounted true m = refl
if_uncounted false m = refl

partial_uncounted : (capacity : ℕ) (records : List Level) (delay n : ℕ) → partial_metrics capacity (map uncounted records) delay n ≡ uncounted_metrics (partial_metrics capacity records delay n)
unfolding partial_metrics
partial_uncounted capacity records delay n =
    let items = ap (take n) (drop_map uncounted delay records) ∙ take_map uncounted n (drop delay records) in
    (λ i. metrics_if (leb 1 n && leb (delay + n) capacity) (found_if (leb (delay + n) (length-map records uncounted i)) (items i)))
    ∙ ap (metrics_if (leb 1 n && leb (delay + n) capacity)) (found_uncounted (leb (delay + n) (length records)) (take n (drop delay records)))
    ∙ if_uncounted (leb 1 n && leb (delay + n) capacity) (found_if (leb (delay + n) (length records)) (take n (drop delay records)))

-- ---- estimates

mode_uncounted : (m : ClippingPredictorMode) (s : Settings) (window reference : Level) (a : Asked) → mode_tree m s (uncounted window) (uncounted reference) a ≡ mode_tree m s window reference a
mode_uncounted ClippingEventPrediction s window reference a = refl
mode_uncounted AdaptiveStepClippingPeakPrediction s window reference a = refl
mode_uncounted FixedStepClippingPeakPrediction s window reference a = refl

windows_uncounted : (s : Settings) (a : Asked) (window reference : Result (Option Level) Refusal) → windows_tree s a (uncounted_metrics window) (uncounted_metrics reference) ≡ windows_tree s a window reference
unfolding windows_tree
windows_uncounted s a (Ok (Some window)) (Ok (Some reference)) = mode_uncounted s.mode s window reference a
windows_uncounted s a (Ok (Some window)) (Ok None) = refl
windows_uncounted s a (Ok (Some window)) (Err cause) = refl
windows_uncounted s a (Ok None) reference = refl
windows_uncounted s a (Err cause) reference = refl

estimate_uncounted : (s : Settings) (records : List Level) (a : Asked) → estimate_tree s (map uncounted records) a ≡ estimate_tree s records a
unfolding estimate_tree
estimate_uncounted s records a =
    let newest = partial_metrics (capacity_of s) records 0 s.window in
    let older = partial_metrics (capacity_of s) records s.delay s.reference in
    ap (unless_low (leb a.level a.least))
    (ap₂ (windows_tree s a) (partial_uncounted (capacity_of s) records 0 s.window) (partial_uncounted (capacity_of s) records s.delay s.reference) ∙ windows_uncounted s a newest older)

-- a predictor without its counts
abbrev pub uncounted_predictor : Predictor → Predictor
uncounted_predictor p = record { settings = p.settings; rings = uncounted_rings p.rings }

pub predicted_uncounted : (a : Asked) (p : Predictor) → predicted_by a (uncounted_predictor p) ≡ predicted_by a p
unfolding predicted_by
predicted_uncounted a p =
    let one : List Level → Estimated = λ records. estimated (estimate_tree p.settings records a) in
    ap (foldl joined no_estimate) (after_map (map uncounted) one one (λ records. ap estimated (estimate_uncounted p.settings records a)) p.rings)

-- ---- rings

pub twice : (rings : List (List Level)) → uncounted_rings (uncounted_rings rings) ≡ uncounted_rings rings
twice rings = after_map (map uncounted) (map uncounted) (map uncounted) (after_map uncounted uncounted uncounted (λ l. refl)) rings

each_uncounted : (capacity : ℕ) (levels : List Level) (rings : List (List Level)) → uncounted_rings (push_each capacity levels rings) ≡ push_each capacity (map uncounted levels) (uncounted_rings rings)
unfolding push_each
each_uncounted capacity levels [] = refl
each_uncounted capacity [] (r ∷ rings) = refl
each_uncounted capacity (l ∷ levels) (r ∷ rings) = λ i. sym (take_map uncounted capacity (l ∷ r)) i ∷ each_uncounted capacity levels rings i

-- a frame's levels enter both alike
pub entered_uncounted : (samples : ℕ) (lent : List Float) (p : Predictor) → uncounted_predictor (entered_if true samples lent (uncounted_predictor p)) ≡ uncounted_predictor (entered_if true samples lent p)
entered_uncounted samples lent p =
    let capacity = capacity_of p.settings in
    let levels = levels_of (length p.rings) samples lent in
    let rings : uncounted_rings (push_each capacity (levels_of (length (uncounted_rings p.rings)) samples lent) (uncounted_rings p.rings)) ≡ uncounted_rings (push_each capacity levels p.rings) =
    ap (λ (n : ℕ). uncounted_rings (push_each capacity (levels_of n samples lent) (uncounted_rings p.rings))) (length-map p.rings (map uncounted))
    ∙ each_uncounted capacity levels (uncounted_rings p.rings)
    ∙ ap (push_each capacity (map uncounted levels)) (twice p.rings)
    ∙ sym (each_uncounted capacity levels p.rings) in
    λ i. record { settings = p.settings; rings = rings i }

-- and both are emptied alike
pub emptied_uncounted : (p : Predictor) → emptied (uncounted_predictor p) ≡ emptied p
emptied_uncounted p = λ i. record { settings = p.settings; rings = after_map (map uncounted) (λ (r : List Level). []) (λ (r : List Level). []) (λ r. refl) p.rings i }
