-- Where the newest records of every ring are quiet, as many as the window takes, no ring gives a drop, in every mode. Assumes nothing.
use mathlib.Core.Path.{◌≡◌, refl, ap, ◌∙◌, subst}
use mathlib.Core.List.{List, [], ◌∷◌, map, foldl}
use mathlib.Core.Bool.{Bool, true, false, ◌&&◌}
use Prim.Native.Nat.{ℕ, suc, ◌+◌, ◌-◌, ◌*◌, ◌≤◌, ◌<◌}
use native.Mathlib.Omega.{arith}
use native.Mathlib.Decide.{dec_le}
use lib.Dec.{T, leb, leb→le, le→leb}
use lib.IntN.{ℤ, pos, negsuc, sub_ℕ}
use lib.Signed.{le_z}
use lib.ListN.{length, take, length-take}
use lib.Seq.{take-take}
use lib.Ieee.{Float, nan, inf, fin, lt, up, down}
use borrow.Author.Tests.{lt-ltb, le-ltb}
use Rattle.std.specs.Prelude.{Err, None, Ok, Option, Result, Some}
use Rattle.numbers.specs.declared.refusal.Refusal.{Refusal}
use Rattle.levels.specs.declared.decibels.Decibels.TheVariants.{Finite}
use Rattle.levels.specs.Decibels.{plus, at_most}
use Rattle.levels.specs.Level.{thousandths, above_one, level_of, dbfs}
use Rattle.clipping_predictor_level_buffer.specs.declared.level.Level.{Level}
use Rattle.clipping_predictor_level_buffer.specs.Statistics.{plus_zero, second_if, larger, largest}
use Rattle.clipping_predictor_level_buffer.specs.Metrics.{peak_of, metrics_over, found_if, metrics_if, partial_metrics}
use Rattle.clipping_predictor.specs.declared.settings.ClippingPredictorMode.{ClippingPredictorMode}
use Rattle.clipping_predictor.specs.declared.settings.ClippingPredictorMode.TheVariants.{ClippingEventPrediction, AdaptiveStepClippingPeakPrediction, FixedStepClippingPeakPrediction}
use Rattle.clipping_predictor.specs.declared.settings.Settings.{Settings}
use Rattle.clipping_predictor.specs.declared.modes.Asked.{Asked}
use Rattle.clipping_predictor.specs.declared.modes.Estimated.{Estimated}
use Rattle.clipping_predictor.specs.Tree.{Tree, leaf, test, reached}
use Rattle.clipping_predictor.specs.Turned.{estimated}
use Rattle.clipping_predictor.specs.Estimate.{mode_tree, capacity_of, windows_tree, unless_low, estimate_tree}
use Rattle.clipping_predictor.specs.Predictor.{Predictor}
use Rattle.clipping_predictor.specs.AllRings.{joined, predicted_by}
use Rattle.clipping_predictor.proofs.Turns.{drop_reached}
use Rattle.claims.specs.LeadIn.{all, compared_in, is_low}
use Rattle.claims.proofs.Lists.{and_l, and_r, all_take}
use Rattle.claims.proofs.Rings.{Match}

-- ---- a peak of zero is at or below a threshold that another peak is at or below

with_offset : (k : ℕ) → k < 90310 → sub_ℕ k 90310 ≡ negsuc (90310 - suc k)
with_offset k h = rw (lt-ltb k 90310 h)

less_below : (j k : ℕ) → k < 90310 → T (le_z (sub_ℕ k 90310) (negsuc j)) → T (le_z (negsuc 90309) (negsuc j))
less_below j k h t =
    let l : j ≤ 90310 - suc k = leb→le j (90310 - suc k) (subst (λ (z : ℤ). T (le_z z (negsuc j))) (with_offset k h) t) in
    le→leb j 90309 (omega arith)

not_above : (k : ℕ) → 90310 ≤ k → sub_ℕ k 90310 ≡ pos (k - 90310)
not_above k h = rw (le-ltb k 90310 h)

least_level : (k : ℕ) (z : ℤ) → T (le_z (sub_ℕ k 90310) z) → T (le_z (negsuc 90309) z)
least_level k (pos j) t = tt
least_level k (negsuc j) t =
    elim (dec_le 90310 k) [
      | yes h ↦ absurd (subst (λ (z : ℤ). T (le_z z (negsuc j))) (not_above k h) t)
      | no h ↦ less_below j k (omega (arith, h)) t
    ]

abbrev low_at : ℤ → Float → Type 0
low_at z x = T (at_most (dbfs x) (Finite z))

zero_low : (z : ℤ) (x : Float) → low_at z x → low_at z plus_zero
unfolding at_most dbfs plus level_of thousandths above_one
zero_low z nan t = absurd t
zero_low z (inf true) t = t
zero_low z (inf false) t = absurd t
zero_low z (fin true m e) t = t
zero_low z (fin false m e) t = least_level (thousandths 20000 (m * up e) (down e)) z t

-- ---- the largest of peaks

second_low : (z : ℤ) (t : Bool) (a b : Float) → low_at z a → low_at z b → low_at z (second_if t a b)
second_low z true a b x y = y
second_low z false a b x y = x

module _ (p : Settings) where
  abbrev edge : ℤ
  edge = compared_in p.mode p.threshold

  largest_low : (a : Float) (items : List Level) → low_at edge a → T (all (is_low p) items) → low_at edge (foldl larger a (map peak_of items))
  unfolding all is_low
  largest_low a [] x t = x
  largest_low a (l ∷ items) x t =
      largest_low (larger a l.max) items (second_low edge (lt a l.max) a l.max x (and_l (is_low p l) (all (is_low p) items) t)) (and_r (is_low p l) (all (is_low p) items) t)

  window_low : (items : List Level) → 0 < length items → T (all (is_low p) items) → low_at edge (metrics_over items).max
  unfolding all is_low metrics_over largest
  window_low [] h t = absurd (omega (arith, h))
  window_low (l ∷ items) h t = largest_low plus_zero (l ∷ items) (zero_low edge l.max (and_l (is_low p l) (all (is_low p) items) t)) t

-- ---- one ring

-- a first test that holds leads to no drop
held_none : (t n : Bool) (b : Tree ℕ) → T t → reached (test t n (leaf 0) b) ≡ 0
unfolding reached
held_none true n b t = refl
held_none false n b t = absurd t

module _ (p : Settings) (a : Asked) where
  mode_none : (mode : ClippingPredictorMode) (window reference : Level) → low_at (compared_in mode p.threshold) window.max → reached (mode_tree mode p window reference a) ≡ 0
  mode_none ClippingEventPrediction window reference t = held_none _ _ _ t
  mode_none AdaptiveStepClippingPeakPrediction window reference t = held_none _ _ _ t
  mode_none FixedStepClippingPeakPrediction window reference t = held_none _ _ _ t

  -- by whether the window's metrics can be had, and are there
  windows_none : (given there : Bool) (items : List Level) (reference : Result (Option Level) Refusal) → (T there → low_at (edge p) (metrics_over items).max)
      → reached (windows_tree p a (metrics_if given (found_if there items)) reference) ≡ 0
  unfolding reached windows_tree
  windows_none false there items reference h = refl
  windows_none true false items reference h = refl
  windows_none true true items (Ok (Some reference)) h = mode_none p.mode (metrics_over items) reference (h tt)
  windows_none true true items (Ok None) h = refl
  windows_none true true items (Err cause) h = refl

  unless_low_lem : (t : Bool) (tree : Tree ℕ) → reached tree ≡ 0 → reached (unless_low t tree) ≡ 0
  unfolding reached
  unless_low_lem true tree e = refl
  unless_low_lem false tree e = e

  some_taken : (n : ℕ) (records : List Level) → 1 ≤ n → T (leb (0 + n) (length records)) → 0 < length (take n records)
  some_taken n records w t = let h : 0 + n ≤ length records = leb→le (0 + n) (length records) t in rw length-take (omega arith)

  estimate_none : (records : List Level) → 1 ≤ p.window → T (all (is_low p) (take p.window records)) → reached (estimate_tree p records a) ≡ 0
  unfolding estimate_tree partial_metrics
  estimate_none records w t =
      unless_low_lem (leb a.level a.least) _
      (windows_none (leb 1 p.window && leb (0 + p.window) (capacity_of p)) (leb (0 + p.window) (length records)) (take p.window records)
      (partial_metrics (capacity_of p) records p.delay p.reference) (λ b. window_low p (take p.window records) (some_taken p.window records w b) t))

  -- ---- all rings

  abbrev estimate_of : List Level → Estimated
  estimate_of records = estimated (estimate_tree p records a)

  none_joined : (capacity m k : ℕ) (e : Estimated) (rings grown : List (List Level)) → e.drop ≡ 0 → 1 ≤ p.window → p.window ≤ k → Match (is_low p) capacity m k rings grown
      → (foldl joined e (map estimate_of rings)).drop ≡ 0
  none_joined capacity m k e [] grown z w l h = z
  none_joined capacity m k e (r ∷ rings) [] z w l h = absurd h
  none_joined capacity m k e (r ∷ rings) (g ∷ grown) z w l h =
      none_joined capacity m k (joined e (estimate_of r)) rings grown
      (let q = estimate_none r w (subst (λ (x : List Level). T (all (is_low p) x)) (take-take p.window k r l) (all_take (is_low p) p.window (take k r) h.1)) in omega (arith, z, q, drop_reached (estimate_tree p r a))) w l h.2

-- THE LAW
pub none_predicted : (p : Settings) (a : Asked) (q : Predictor) (capacity m k : ℕ) (grown : List (List Level)) → q.settings ≡ p → 1 ≤ p.window → p.window ≤ k
    → Match (is_low p) capacity m k q.rings grown → (predicted_by a q).drop ≡ 0
unfolding predicted_by estimated
none_predicted p a q capacity m k grown e w l h =
    ap (λ (x : Settings). (predicted_by a (record { settings = x; rings = q.rings })).drop) e ∙ none_joined p a capacity m k (estimated (leaf 0)) q.rings grown refl w l h
