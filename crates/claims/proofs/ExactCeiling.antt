-- The exact ceiling is the one that the ceiling's test leads to, or the one on its other side where that is near. Assumes nothing.
use mathlib.Core.Path.{◌≡◌, refl, sym, ap, ◌∙◌, subst}
use mathlib.Core.Bool.{Bool, true, false, ◌&&◌, cond}
use mathlib.Core.Logic.{◌⊎◌, inl, inr}
use Prim.Native.Nat.{ℕ, zero, suc, ◌+◌, ◌-◌, ◌*◌, ◌≤◌, ◌<◌, min, max}
use native.Mathlib.Omega.{arith}
use native.Mathlib.Decide.{dec_lt}
use lib.Dec.{ltb}
use lib.IntN.{ℤ, pos, negsuc, neg_ℤ}
use lib.Signed.{le_z}
use borrow.Author.Tests.{lt-ltb, le-ltb}
use Rattle.numbers.proofs.Signs.{clash}
use Rattle.gain_map.specs.VolumeUpdate.{walk}
use Rattle.levels.specs.declared.decibels.Decibels.{Decibels}
use Rattle.levels.specs.declared.decibels.Decibels.TheVariants.{Finite, PlusInfinity, MinusInfinity, NotANumber}
use Rattle.levels.specs.Decibels.{near, near_distance, at_most}
use Rattle.clipping_predictor.specs.declared.modes.Asked.{Asked}
use Rattle.clipping_predictor.specs.Tree.{Tree, leaf, test}
use Rattle.clipping_predictor.specs.Turned.{Turned}
use Rattle.clipping_predictor.specs.Estimate.{drop_by, adaptive_drop, max_gain_change, nearest_whole, ceiling_tree, adaptive_tree}
use Rattle.claims.specs.Exact as E
use Rattle.claims.specs.Exact.{Exact, plus_infinity, minus_infinity, not_aNumber}
use Rattle.clipping_predictor.proofs.Turns.{turned_way}
use Rattle.claims.proofs.Differences.{Diff}
use Rattle.claims.proofs.Apart.{Around, Close, most_apart, far_yes, far_no, close_constant}

-- ---- trees

-- A test that has the exact outcome x unless it is near leads to what x chooses, if both ways do.
pub turned_test : {A : Type 0} (o n x : Bool) (held failed : Tree A) (a b : A) → (n ≡ false → o ≡ x) → (x ≡ true → Turned held a) → (x ≡ false → Turned failed b) → Turned (test o n held failed) (cond x a b)
turned_test {A} o n x held failed a b e f g = turned_way held failed (cond x a b) o n x (λ h. sym (e h)) (chosen x f g)
  where
    chosen : (x : Bool) → (x ≡ true → Turned held a) → (x ≡ false → Turned failed b) → Turned (cond x held failed) (cond x a b)
    chosen true f g = f refl
    chosen false f g = g refl

pub turned_leaf : {A : Type 0} (a : A) → Turned (leaf a) a
unfolding Turned
turned_leaf a = refl

-- a test that is not near, both ways to the same
turned_both : {A : Type 0} (o : Bool) (u v a : A) → u ≡ a → v ≡ a → Turned (test o false (leaf u) (leaf v)) a
unfolding Turned
turned_both true u v a e f = e
turned_both false u v a e f = f

-- ---- the exact ceiling

-- k whole dB
abbrev whole : ℕ → Exact
whole k = E.constant (pos (k * 1000))

first : (count least k : ℕ) (P : Exact) → least ≤ k → k ≤ least + count → ((i : ℕ) → i < k → E.at_most P (whole i) ≡ false) → (k < least + count → E.at_most P (whole k) ≡ true) → E.ceiling_from count least P ≡ k
unfolding E.ceiling_from
first zero least k P lo hi before at = omega arith
first (suc count) least k P lo hi before at =
    elim (dec_lt least k) [
      | yes l ↦ ap (λ (t : Bool). cond t least (E.ceiling_from count (suc least) P)) (before least l) ∙ first count (suc least) k P l (omega arith) before (λ h. at (omega (arith, h)))
      | no l ↦ ap (λ (t : Bool). cond t least (E.ceiling_from count (suc least) P)) (same least k (omega (arith, l)) (at (omega (arith, l)))) ∙ omega (arith, l)
    ]
  where
    same : (m k : ℕ) → k ≡ m → E.at_most P (whole k) ≡ true → E.at_most P (whole m) ≡ true
    same m k e h = subst (λ (i : ℕ). E.at_most P (whole i) ≡ true) e h

-- ---- whole dB that are not the nearest are far

lower : (j : ℕ) (z : ℤ) (P : Exact) → j < 500 → Around j z P → (i : ℕ) → i < nearest_whole z → E.at_most P (whole i) ≡ false
unfolding Diff Close
lower j (pos n) P small f i l = far_no j 0 (pos n) (pos (i * 1000)) P (whole i) n 0 (i * 1000) 0 f (close_constant (pos (i * 1000))) (omega arith) (omega arith) (omega arith)
lower j (negsuc n) P small f i l = absurd (omega arith)

higher : (j : ℕ) (z : ℤ) (P : Exact) → j < 500 → Around j z P → (i : ℕ) → nearest_whole z < i → E.at_most P (whole i) ≡ true
unfolding Diff Close
higher j (pos n) P small f i l = far_yes j 0 (pos n) (pos (i * 1000)) P (whole i) n 0 (i * 1000) 0 f (close_constant (pos (i * 1000))) (omega arith) (omega arith) (omega arith)
higher j (negsuc n) P small f i l = far_yes j 0 (negsuc n) (pos (i * 1000)) P (whole i) 0 (suc n) (i * 1000) 0 f (close_constant (pos (i * 1000))) (omega arith) (omega arith) (omega arith)

-- above 15 dB all ceilings are 15
capped : (a : Asked) (k : ℕ) → 15 ≤ k → adaptive_drop a k ≡ adaptive_drop a 15
unfolding adaptive_drop
capped a k h = ap (λ (m : ℕ). drop_by a (max (a.level - walk (neg_ℤ (pos m)) a.level a.least a.most) a.step)) (held k h)
  where
    held : (k : ℕ) → 15 ≤ k → min k 15 ≡ 15
    held k h = omega arith

module _ (a : Asked) (j : ℕ) (z : ℤ) (P : Exact) (small : j < 500) (room : j + 0 ≤ near_distance) (f : Around j z P) where
  chosen : (k : ℕ) → k ≡ nearest_whole z → k < 15 → (x : Bool) → E.at_most P (whole k) ≡ x → cond x (adaptive_drop a k) (adaptive_drop a (k + 1)) ≡ adaptive_drop a (E.ceiling P)
  chosen k e l true h = ap (adaptive_drop a) (sym (first 15 0 k P (omega arith) (omega arith) (λ i m. lower j z P small f i (omega (arith, m))) (λ m. h)))
  chosen k e l false h =
      ap (adaptive_drop a)
      (sym (first 15 0 (k + 1) P (omega arith) (omega arith) (λ i m. before i m) (λ m. higher j z P small f (k + 1) (omega arith))))
    where
      before : (i : ℕ) → i < k + 1 → E.at_most P (whole i) ≡ false
      before i m =
          elim (dec_lt i k) [
            | yes n ↦ lower j z P small f i (omega (arith, n))
            | no n ↦ subst (λ (i : ℕ). E.at_most P (whole i) ≡ false) (omega (arith, n)) h
          ]

  exact_unless : (k : ℕ) → k < 15 → (ltb k max_gain_change && near (Finite z) (Finite (pos (k * 1000)))) ≡ false → le_z z (pos (k * 1000)) ≡ E.at_most P (whole k)
  unfolding at_most Close
  exact_unless k l m =
      most_apart near_distance j 0 room (Finite z) (Finite (pos (k * 1000))) P (whole k) f (close_constant (pos (k * 1000)))
      (subst (λ (t : Bool). (t && near (Finite z) (Finite (pos (k * 1000)))) ≡ false) (lt-ltb k 15 l) m)

  turned_ceiling : (k : ℕ) → k ≡ nearest_whole z → Turned (ceiling_tree a z k) (adaptive_drop a (E.ceiling P))
  turned_ceiling k e =
      elim (dec_lt k 15) [
        | yes l ↦
            subst (Turned (ceiling_tree a z k)) (chosen k e l (E.at_most P (whole k)) refl)
            (turned_test (le_z z (pos (k * 1000))) (ltb k max_gain_change && near (Finite z) (Finite (pos (k * 1000)))) (E.at_most P (whole k)) (leaf (adaptive_drop a k)) (leaf (adaptive_drop a (k + 1)))
            (adaptive_drop a k) (adaptive_drop a (k + 1)) (exact_unless k l) (λ h. turned_leaf (adaptive_drop a k)) (λ h. turned_leaf (adaptive_drop a (k + 1))))
        | no l ↦
            subst (λ (t : Bool). Turned (test (le_z z (pos (k * 1000))) (t && near (Finite z) (Finite (pos (k * 1000)))) (leaf (adaptive_drop a k)) (leaf (adaptive_drop a (k + 1)))) (adaptive_drop a (E.ceiling P)))
            (sym (le-ltb k 15 (omega (arith, l))))
            (turned_both (le_z z (pos (k * 1000))) (adaptive_drop a k) (adaptive_drop a (k + 1)) (adaptive_drop a (E.ceiling P))
            (capped a k (omega (arith, l)) ∙ top (omega (arith, l))) (capped a (k + 1) (omega (arith, l)) ∙ top (omega (arith, l))))
      ]
    where
      top : 15 ≤ k → adaptive_drop a 15 ≡ adaptive_drop a (E.ceiling P)
      top h = ap (adaptive_drop a) (sym (first 15 0 15 P (omega arith) (omega arith) (λ i m. lower j z P small f i (omega (arith, m))) (λ m. absurd (omega (arith, m)))))

-- ---- any P that is above some threshold

never_above : (P : Exact) (t : ℤ) → (P ≡ minus_infinity) ⊎ (P ≡ not_aNumber) → E.less (E.constant t) P ≡ true → ⊥
unfolding E.less E.constant
never_above P (pos n) (inl e) h = clash (sym h ∙ ap (E.less (E.constant (pos n))) e)
never_above P (pos n) (inr e) h = clash (sym h ∙ ap (E.less (E.constant (pos n))) e)
never_above P (negsuc n) (inl e) h = clash (sym h ∙ ap (E.less (E.constant (negsuc n))) e)
never_above P (negsuc n) (inr e) h = clash (sym h ∙ ap (E.less (E.constant (negsuc n))) e)

infinite : (P : Exact) → P ≡ plus_infinity → (i : ℕ) → E.at_most P (whole i) ≡ false
unfolding E.at_most E.constant
infinite P e i = ap (λ (X : Exact). E.at_most X (whole i)) e

pub turned_adaptive : (a : Asked) (j : ℕ) (p : Decibels) (P : Exact) (t : ℤ) → j < 500 → j + 0 ≤ near_distance → Close j p P → E.less (E.constant t) P ≡ true → Turned (adaptive_tree a p) (adaptive_drop a (E.ceiling P))
unfolding Close Turned
turned_adaptive a j (Finite z) P t small room f h = turned_ceiling a j z P small room f (nearest_whole z) refl
turned_adaptive a j PlusInfinity P t small room f h = ap (adaptive_drop a) (sym (first 15 0 15 P (omega arith) (omega arith) (λ i m. infinite P f i) (λ m. absurd (omega (arith, m)))))
turned_adaptive a j MinusInfinity P t small room f h = absurd (never_above P t (inl f) h)
turned_adaptive a j NotANumber P t small room f h = absurd (never_above P t (inr f) h)
