-- A frame with no clipped sample has a clipped ratio of zero, which is above no threshold from zero up. Assumes nothing.
use mathlib.Core.Path.{◌≡◌, refl, sym, ap, ◌∙◌, subst}
use mathlib.Core.Logic.{inl, inr}
use mathlib.Core.List.{List, [], ◌∷◌, map, foldl}
use mathlib.Core.Bool.{Bool, true, false, cond, not}
use Prim.Native.Nat.{ℕ, zero, suc, ◌+◌, ◌*◌, ◌^◌, ◌<◌, max}
use native.Mathlib.Nat.{zero-mul, eq-zero-or-pos, mul-pos, lt_irrefl}
use native.Mathlib.Omega.{arith}
use lib.Arith.{le→nltb}
use lib.Dec.{T, ltb, eqb, eqb→eq, eqb-suc-zero, lit<}
use lib.IntN.{ℤ, pos}
use lib.Ieee.{Float, nan, inf, fin, binary32, up, down, below, lt, le, round, div, of_int, unlike}
use lib.Ieee.Fits.{up_pos}
use lib.Ieee.Exact.{HasValue, round_exact}
use Rattle.numbers.specs.Listed.{listed}
use Rattle.clipping_predictor_level_buffer.specs.Statistics.{plus_zero}
use Rattle.clipping_predictor.specs.Predictor.{part_of}
use Rattle.clipping_predictor_level_buffer.specs.Clipped.{one_if, is_clipped, count_of, clipped_in, total}
use Rattle.clipping_predictor.specs.MostClipped.{most_clipped}
use Rattle.input_volume_controller.specs.ClippedRatio.{clipped_ratio_of}
use Rattle.claims.specs.LeadIn.{all, is_sound}
use Rattle.claims.proofs.Lists.{and_l, and_r, is_false, all_take, all_drop}

-- ---- counts

none_in : (xs : List Float) → T (all is_sound xs) → foldl ◌+◌ 0 (map count_of xs) ≡ 0
unfolding count_of all is_sound
none_in [] t = refl
none_in (x ∷ xs) t =
    ap (λ (b : Bool). foldl ◌+◌ (0 + one_if b) (map count_of xs)) (is_false (is_clipped x) (and_l (not (is_clipped x)) _ (and_l (is_sound x) (all is_sound xs) t)))
    ∙ none_in xs (and_r (is_sound x) (all is_sound xs) t)

none_in_each : (f : ℕ → List Float) (n : ℕ) → ((i : ℕ) → clipped_in (f i) ≡ 0) → foldl max 0 (map clipped_in (listed f n)) ≡ 0
unfolding listed
none_in_each f zero h = refl
none_in_each f (suc n) h = ap (λ (k : ℕ). foldl max (max 0 k) (map clipped_in (listed (λ i. f (suc i)) n))) (h 0) ∙ none_in_each (λ i. f (suc i)) n (λ i. h (suc i))

none_clipped : (channels samples : ℕ) (lent : List Float) → T (all is_sound lent) → most_clipped channels samples lent ≡ 0
unfolding most_clipped clipped_in total
none_clipped channels samples lent t =
    none_in_each (part_of samples lent) channels (λ i. none_in (part_of samples lent i) (all_take is_sound samples _ (all_drop is_sound (i * samples) lent t)))

-- ---- comparisons with a zero

below_zero : (s t : Bool) (a b : ℕ) → b ≡ 0 → (T s → a ≡ 0) → below s a t b ≡ false
below_zero false false a b e h = is_false (ltb a b) (le→nltb a b (omega arith))
below_zero false true a b e h = refl
below_zero true false a b e h = let z = h tt in is_false (ltb 0 (a + b)) (le→nltb 0 (a + b) (omega arith))
below_zero true true a b e h = let z = h tt in is_false (ltb b a) (le→nltb b a (omega arith))

-- a threshold from zero up that is negative is minus zero
minus_zero : (m : ℕ) (e : ℤ) → T (le plus_zero (fin true m e)) → m * up e ≡ 0
unfolding le
minus_zero m e t =
    let z : 0 * 1 * down e ≡ m * up e * 1 = eqb→eq (0 * 1 * down e) (m * up e * 1) (and_l (eqb (0 * 1 * down e) (m * up e * 1)) _ t) in
    let w : 0 * down e ≡ 0 = zero-mul (down e) in
    omega arith

not_above : (x : Float) (t : Bool) (m : ℕ) (e : ℤ) → T (le plus_zero x) → m * up e ≡ 0 → lt x (fin t m e) ≡ false
unfolding lt
not_above nan t m e h z = refl
not_above (inf true) t m e h z = absurd (unfold le in h)
not_above (inf false) t m e h z = refl
not_above (fin s n d) t m e h z = below_zero s t (n * up d * down e) (m * up e * down d) (ap (λ (k : ℕ). k * down d) z ∙ zero-mul (down d)) (neg s h)
  where
    neg : (s : Bool) → T (le plus_zero (fin s n d)) → T s → n * up d * down e ≡ 0
    neg true h t = ap (λ (k : ℕ). k * down e) (minus_zero n d h) ∙ zero-mul (down e)
    neg false h t = absurd t

-- ---- zero divided

Zero : Float → Type 0
Zero nan = Unit {0}
Zero (inf s) = ⊥
Zero (fin s m e) = m * up e ≡ 0

no_product : (a b : ℕ) → 0 < b → a * b ≡ 0 → a ≡ 0
no_product a b B z = elim (eq-zero-or-pos a) [ inl e ↦ e | inr p ↦ absurd (lt_irrefl 0 (subst (λ (k : ℕ). 0 < k) z (mul-pos p B))) ]

zero_of_value : (x : Float) (s : Bool) (a c : ℕ) → 0 < c → a ≡ 0 → HasValue x s a c → Zero x
unfolding Zero
zero_of_value nan s a c C z v = tt
zero_of_value (inf t) s a c C z v = v
zero_of_value (fin t m e) s a c C z v = no_product (m * up e) c C (v.1 ∙ ap (λ (k : ℕ). k * down e) z ∙ zero-mul (down e))

round_zero : (s : Bool) (num den : ℕ) → 0 < den → num ≡ 0 → Zero (round binary32 s num den)
round_zero s num den D z =
    zero_of_value (round binary32 s num den) s num den D z
    (round_exact binary32 s num den 0 0 D (lit< tt) (lit< tt) (ap (λ (k : ℕ). k * 2 ^ 149) z ∙ zero-mul (2 ^ 149) ∙ sym (zero-mul den)))

div_zero : (y : Float) → Zero (div binary32 plus_zero y)
unfolding div Zero
div_zero nan = tt
div_zero (inf t) = refl
div_zero (fin t zero d) = tt
div_zero (fin t (suc n) d) =
    subst (λ (b : Bool). Zero (cond b nan (round binary32 (unlike false t) (0 * down d) (suc n * up d * 1)))) (sym (eqb-suc-zero n))
    (round_zero (unlike false t) (0 * down d) (suc n * up d * 1) (mul-pos (mul-pos (omega arith) (up_pos d)) (lit< tt)) (zero-mul (down d)))

share_zero : (x y : Float) → T (le plus_zero x) → Zero y → lt x y ≡ false
unfolding Zero lt
share_zero nan nan h z = refl
share_zero (inf s) nan h z = refl
share_zero (fin s m e) nan h z = refl
share_zero x (inf s) h z = absurd z
share_zero x (fin s m e) h z = not_above x s m e h z

pub ratio_not_above : (x : Float) (channels samples : ℕ) (lent : List Float) → T (le plus_zero x) → T (all is_sound lent) → lt x (clipped_ratio_of channels samples lent) ≡ false
unfolding clipped_ratio_of of_int
ratio_not_above x channels samples lent h t =
    ap (λ (k : ℕ). lt x (div binary32 (of_int binary32 (pos k)) (of_int binary32 (pos samples)))) (none_clipped channels samples lent t)
    ∙ share_zero x (div binary32 plus_zero (of_int binary32 (pos samples))) h (div_zero (of_int binary32 (pos samples)))
