-- What the words of document 02 (iii) let an estimate come to is what its tree does. Assumes nothing.
use mathlib.Core.Path.{◌≡◌, refl, sym, ap, ◌∙◌, subst}
use mathlib.Core.Logic.{◌⊎◌, inl, inr, ⊎_elim}
use mathlib.Core.Bool.{Bool, true, false, cond}
use mathlib.Core.List.{List}
use Prim.Native.Nat.{ℕ, ◌+◌, ◌*◌, ◌<◌}
use lib.Dec.{leb}
use lib.IntN.{ℤ, pos, negsuc, nat_abs, ◌-ℤ◌}
use lib.Signed.{le_z}
use borrow.Author.Tests.{leb-true, le-leb}
use Rattle.std.specs.Prelude.{Err, None, Ok, Option, Result, Some}
use Rattle.numbers.specs.declared.refusal.Refusal.{Refusal}
use Rattle.numbers.proofs.Signs.{clash}
use Rattle.levels.specs.declared.decibels.Decibels.{Decibels}
use Rattle.levels.specs.declared.decibels.Decibels.TheVariants.{Finite, PlusInfinity, MinusInfinity, NotANumber}
use Rattle.levels.specs.Decibels.{minus, less, at_most, near, within, near_distance}
use Rattle.levels.specs.Level.{dbfs}
use Rattle.clipping_predictor_level_buffer.specs.declared.level.Level.{Level}
use Rattle.clipping_predictor_level_buffer.specs.Metrics.{partial_metrics}
use Rattle.clipping_predictor.specs.declared.settings.ClippingPredictorMode.{ClippingPredictorMode}
use Rattle.clipping_predictor.specs.declared.settings.ClippingPredictorMode.TheVariants.{ClippingEventPrediction, AdaptiveStepClippingPeakPrediction, FixedStepClippingPeakPrediction}
use Rattle.clipping_predictor.specs.declared.settings.Settings.{Settings}
use Rattle.clipping_predictor.specs.declared.modes.Asked.{Asked}
use Rattle.clipping_predictor.specs.Tree.{Tree, leaf, test, reached}
use Rattle.clipping_predictor.specs.Turned.{Turned, estimated}
use Rattle.clipping_predictor.specs.Estimate.{drop_by, adaptive_drop, crest_factor, whole_db, nearest_whole, projected_peak, peak_tree, above_tree, adaptive_tree, ceiling_tree, mode_tree, windows_tree, unless_low, capacity_of, estimate_tree}
use Rattle.clipping_predictor.proofs.Turns.{turned_way, way_turned, turned_spread, drop_reached}
use Rattle.clipping_predictor.proofs.Ceilings.{ceiling, is_ceiling, near_ceiling, near_means, near_all, close_nearest}
use Rattle.claims.specs.Marked.{ceiling_of, MayDrop, MayDropAtPeak, MayDropBy, MayDropIn, MayDropOver, MayDropUnless, MayEstimate}

-- the same numbers
pub record Same (P Q : ℕ → Type 0) : Type 0 where
  pub to : (v : ℕ) → P v → Q v
  pub from : (v : ℕ) → Q v → P v

leaf_same : (n : ℕ) → Same (Turned (leaf n)) (λ (v : ℕ). v ≡ n)
unfolding Turned
leaf_same n = record { to = λ v e. sym e; from = λ v e. sym e }

-- ---- two comparisons

module _ (o n o' n' : Bool) (above : Tree ℕ) (Above : ℕ → Type 0) (same : Same (Turned above) Above) where
  abbrev two : Tree ℕ
  two = test o n (leaf 0) (test o' n' above (leaf 0))

  abbrev May : ℕ → Type 0
  May = MayDrop (λ (b : Bool). n ≡ false → b ≡ o) (λ (b : Bool). n' ≡ false → b ≡ o') Above

  -- the second is answered by itself, where the first holds
  some : Above (estimated above).drop
  some = same.to (estimated above).drop (turned_spread above).drop_in

  second_to : (v : ℕ) (b : Bool) → (n ≡ false → false ≡ o) → (n' ≡ false → b ≡ o') → Turned (cond b above (leaf 0)) v → May v
  unfolding Turned
  second_to v true q e t = record { quiet = false; over = true; above = v; quiet_may = q; over_may = e; above_may = same.to v t; is = refl }
  second_to v false q e t = record { quiet = false; over = false; above = (estimated above).drop; quiet_may = q; over_may = e; above_may = some; is = sym t }

  first_to : (v : ℕ) (b : Bool) → (n ≡ false → b ≡ o) → Turned (cond b (leaf 0) (test o' n' above (leaf 0))) v → May v
  unfolding Turned
  first_to v true q t = record { quiet = true; over = o'; above = (estimated above).drop; quiet_may = q; over_may = λ e. refl; above_may = some; is = sym t }
  first_to v false q t = let r = way_turned above (leaf 0) v o' n' t in second_to v r.0 q r.1 r.2

  second_from : (d : ℕ) (b : Bool) → Above d → Turned (cond b above (leaf 0)) (cond b d 0)
  unfolding Turned
  second_from d true a = same.from d a
  second_from d false a = refl

  first_from : (d : ℕ) (q b : Bool) → (n' ≡ false → b ≡ o') → Above d → Turned (cond q (leaf 0) (test o' n' above (leaf 0))) (cond q 0 (cond b d 0))
  unfolding Turned
  first_from d true b e a = refl
  first_from d false b e a = turned_way above (leaf 0) (cond b d 0) o' n' b e (second_from d b a)

  two_same : Same (Turned two) May
  two_same = record {
    to = λ v t. let r = way_turned (leaf 0) (test o' n' above (leaf 0)) v o n t in first_to v r.0 r.1 r.2;
    from = λ v m.
        subst (Turned two) (sym m.is)
        (turned_way (leaf 0) (test o' n' above (leaf 0)) (cond m.quiet 0 (cond m.over m.above 0)) o n m.quiet m.quiet_may (first_from m.above m.quiet m.over m.over_may m.above_may));
  }

-- ---- the ceiling

same_ceiling : (z : ℤ) → ceiling_of z ≡ ceiling z
same_ceiling (pos n) = refl
same_ceiling (negsuc n) = refl

module _ (a : Asked) (z : ℤ) where
  abbrev whole : ℕ
  whole = nearest_whole z

  abbrev outcome : Bool
  outcome = le_z z (pos (whole * 1000))

  -- the two sides of the whole dB that is nearest
  abbrev sides : Bool → Tree ℕ
  sides b = cond b (leaf (adaptive_drop a whole)) (leaf (adaptive_drop a (whole + 1)))

  abbrev Ceiling : ℕ → Type 0
  Ceiling v = MayDropBy a (Finite z) v

  near_to : (b : Bool) (v : ℕ) → near_ceiling z ≡ true → Turned (sides b) v → Ceiling v
  unfolding Turned within
  near_to true v m t = let n = near_means z m in (whole, inr (whole, n.0, le-leb (nat_abs (z -ℤ pos (whole * 1000))) near_distance n.1, inl refl), sym t)
  near_to false v m t = let n = near_means z m in (whole + 1, inr (whole, n.0, le-leb (nat_abs (z -ℤ pos (whole * 1000))) near_distance n.1, inr refl), sym t)

  -- the side that the test leads to is the ceiling
  own_side : (b : Bool) (v : ℕ) → Turned (sides b) v → v ≡ reached (test b (near_ceiling z) (leaf (adaptive_drop a whole)) (leaf (adaptive_drop a (whole + 1))))
  unfolding Turned reached
  own_side true v t = sym t
  own_side false v t = sym t

  own_to : (b : Bool) (v : ℕ) → b ≡ outcome → Turned (sides b) v → Ceiling v
  own_to b v e t =
      (ceiling_of z, inl refl, own_side b v t ∙ ap (λ (x : Bool). reached (test x (near_ceiling z) (leaf (adaptive_drop a whole)) (leaf (adaptive_drop a (whole + 1))))) e ∙ is_ceiling a z ∙ sym (ap (adaptive_drop a) (same_ceiling z)))

  side_to : (m b : Bool) (v : ℕ) → near_ceiling z ≡ m → (m ≡ false → b ≡ outcome) → Turned (sides b) v → Ceiling v
  side_to true b v m e t = near_to b v m t
  side_to false b v m e t = own_to b v (e refl) t

  ceiling_to : (v : ℕ) → Turned (ceiling_tree a z (nearest_whole z)) v → Ceiling v
  ceiling_to v t =
      let r = way_turned (leaf (adaptive_drop a whole)) (leaf (adaptive_drop a (whole + 1))) v outcome (near_ceiling z) t in side_to (near_ceiling z) r.0 v refl r.1 r.2

  side_from : (b : Bool) (v : ℕ) → near_ceiling z ≡ true → Turned (sides b) v → Turned (ceiling_tree a z (nearest_whole z)) v
  side_from b v m t = turned_way (leaf (adaptive_drop a whole)) (leaf (adaptive_drop a (whole + 1))) v outcome (near_ceiling z) b (λ e. clash (sym m ∙ e)) t

  near_from : (k w v : ℕ) → w < 15 → within 6 (Finite z) (Finite (pos (w * 1000))) ≡ true → (k ≡ w) ⊎ (k ≡ w + 1) → v ≡ adaptive_drop a k → Turned (ceiling_tree a z (nearest_whole z)) v
  unfolding Turned within
  near_from k w v l n side e =
      let c = leb-true (nat_abs (z -ℤ pos (w * 1000))) near_distance n in
      let at : nearest_whole z ≡ w = close_nearest z w c in
      let m = near_all z w l c in
      ⊎_elim {C = Turned (ceiling_tree a z (nearest_whole z)) v}
      (λ q. side_from true v m (ap (adaptive_drop a) (at ∙ sym q) ∙ sym e))
      (λ q. side_from false v m (ap (adaptive_drop a) (ap (λ (x : ℕ). x + 1) at ∙ sym q) ∙ sym e))
      side

  ceiling_from : (v : ℕ) → Ceiling v → Turned (ceiling_tree a z (nearest_whole z)) v
  ceiling_from v c =
      ⊎_elim {C = Turned (ceiling_tree a z (nearest_whole z)) v}
      (λ q. subst (Turned (ceiling_tree a z (nearest_whole z))) (drop_reached (ceiling_tree a z (nearest_whole z)) ∙ is_ceiling a z ∙ sym (c.2 ∙ ap (adaptive_drop a) (q ∙ same_ceiling z))) (turned_spread (ceiling_tree a z (nearest_whole z))).drop_in)
      (λ q. near_from c.0 q.0 v q.1 q.2 q.3 c.2)
      c.1

adaptive_same : (a : Asked) (p : Decibels) → Same (Turned (adaptive_tree a p)) (MayDropBy a p)
adaptive_same a (Finite z) = record { to = ceiling_to a z; from = ceiling_from a z }
adaptive_same a PlusInfinity = leaf_same (adaptive_drop a 15)
adaptive_same a MinusInfinity = leaf_same 0
adaptive_same a NotANumber = leaf_same 0

-- ---- the modes

module _ (window reference : Level) where
  abbrev peak : Decibels
  peak = projected_peak window reference

  peak_same : (t : ℤ) (above : Tree ℕ) (Above : ℕ → Type 0) → Same (Turned above) Above → Same (Turned (peak_tree t window reference above)) (MayDropAtPeak (whole_db t) window reference Above)
  peak_same t above Above same =
      two_same (at_most (dbfs window.max) (Finite (whole_db t))) (near (dbfs window.max) (Finite (whole_db t))) (less (Finite (whole_db t)) peak) (near (Finite (whole_db t)) peak) above Above same

  mode_same : (mode : ClippingPredictorMode) (s : Settings) (a : Asked) → Same (Turned (mode_tree mode s window reference a)) (MayDropIn mode s window reference a)
  mode_same ClippingEventPrediction s a =
      let crest = crest_factor window in
      let wanted = minus (crest_factor reference) (Finite s.margin) in
      two_same (at_most (dbfs window.max) (Finite s.threshold)) (near (dbfs window.max) (Finite s.threshold)) (less crest wanted) (near crest wanted) (leaf (drop_by a a.step)) (λ (n : ℕ). n ≡ drop_by a a.step)
      (leaf_same (drop_by a a.step))
  mode_same AdaptiveStepClippingPeakPrediction s a = peak_same s.threshold (above_tree true a peak) (MayDropBy a peak) (adaptive_same a peak)
  mode_same FixedStepClippingPeakPrediction s a = peak_same s.threshold (above_tree false a peak) (λ (n : ℕ). n ≡ drop_by a a.step) (leaf_same (drop_by a a.step))

-- ---- from a ring's records

windows_same : (s : Settings) (a : Asked) (m r : Result (Option Level) Refusal) → Same (Turned (windows_tree s a m r)) (MayDropOver s a m r)
unfolding windows_tree MayDropOver
windows_same s a (Ok (Some window)) (Ok (Some reference)) = mode_same window reference s.mode s a
windows_same s a (Ok (Some window)) (Ok None) = leaf_same 0
windows_same s a (Ok (Some window)) (Err cause) = leaf_same 0
windows_same s a (Ok None) r = leaf_same 0
windows_same s a (Err cause) r = leaf_same 0

low_same : (low : Bool) (t : Tree ℕ) (Above : ℕ → Type 0) → Same (Turned t) Above → Same (Turned (unless_low low t)) (MayDropUnless low Above)
low_same true t Above same = leaf_same 0
low_same false t Above same = same

-- THE LAW
pub may_same : (s : Settings) (records : List Level) (a : Asked) → Same (Turned (estimate_tree s records a)) (MayEstimate s records a)
unfolding estimate_tree MayEstimate
may_same s records a =
    let m = partial_metrics (capacity_of s) records 0 s.window in
    let r = partial_metrics (capacity_of s) records s.delay s.reference in
    low_same (leb a.level a.least) (windows_tree s a m r) (MayDropOver s a m r) (windows_same s a m r)
