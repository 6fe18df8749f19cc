-- A measurement, one sample more at a time. Assumes nothing.
use mathlib.Core.Path.{◌≡◌, refl, sym, ap, subst, ◌∙◌}
use mathlib.Core.List.{List, map}
use Prim.Native.Nat.{ℕ, ◌+◌, ◌-◌, ◌≤◌, ◌<◌, max}
use native.Mathlib.Omega.{arith}
use lib.Dec.{T}
use lib.IntN.{pos}
use lib.Ieee.{Float, nan, of_bits, binary32, add, div, of_int, fits}
use lib.ListN.{length, get_or, take, drop, length-map, length-drop}
use lib.Seq.{take_all, get_or-drop, drop-drop}
use Rattle.levels.specs.FloatParts.{magnitude_bits_of}
use Rattle.clipping_predictor_level_buffer.specs.declared.level.Running.{Running}
use Rattle.clipping_predictor_level_buffer.specs.declared.level.Taking.{Taking}
use Rattle.clipping_predictor_level_buffer.specs.declared.level.Level.{Level}
use Rattle.clipping_predictor_level_buffer.specs.Statistics.{plus_zero, sum, mean}
use Rattle.clipping_predictor_level_buffer.specs.Clipped.{count_of, total, clipped_in}
use Rattle.clipping_predictor_level_buffer.specs.Level.{square_of, frame_record}
use Rattle.clipping_predictor_level_buffer.specs.Running.{peak_bits, Stands, largest_part, with_sample, level_from, four_taken, running_of, Reached, Passed}
use Rattle.clipping_predictor_level_buffer.proofs.Folds.{folded_more}
use Rattle.clipping_predictor_level_buffer.proofs.Clipped.{count_most, clipped_before}
use Rattle.clipping_predictor_level_buffer.proofs.PeakBits.{larger_stands, with_sample_lem, zero_stands, peak_stands}

abbrev pub running : Float → Float → ℕ → Running
running s p n = record { sum = s; peak = p; clipped = n }

-- the samples before i have the sum s, their peak the bits p, and n of them are clipped
pub record Counted (samples : List Float) (i : ℕ) (s : Float) (p n : ℕ) : Type 0 where
  pub within : i ≤ length samples
  pub sum_is : s ≡ sum (map square_of (take i samples))
  pub peak_is : p ≡ peak_bits (take i samples)
  pub clipped_is : n ≡ clipped_in (take i samples)

-- ---- the largest of largest ones

joined : (a b c : ℕ) → max (max a b) c ≡ max a (max b c)
joined a b c = omega arith

crossed : (a b c d : ℕ) → max (max a b) (max c d) ≡ max (max a c) (max b d)
crossed a b c d = omega arith

-- four parts with one number more each are the four parts with four numbers more
regrouped : (a b c d e f g h : ℕ) → max (max (max a e) (max b f)) (max (max c g) (max d h)) ≡ max (max (max (max (max (max a b) (max c d)) e) f) g) h
regrouped a b c d e f g h =
    (λ i. max (crossed a e b f i) (crossed c g d h i))
    ∙ crossed (max a b) (max e f) (max c d) (max g h)
    ∙ sym (joined (max (max a b) (max c d)) (max e f) (max g h))
    ∙ ap (λ (x : ℕ). max x (max g h)) (sym (joined (max (max a b) (max c d)) e f))
    ∙ sym (joined (max (max (max (max a b) (max c d)) e) f) g h)

-- a measurement by fours at its start
abbrev pub nothing_taken : Taking
nothing_taken = record {
  sum = plus_zero;
  peaks = record { w = plus_zero; x = plus_zero; y = plus_zero; z = plus_zero };
  clipped = 0;
}

-- the default is nothing taken
pub taken_default : (t : Taking)
    → (t.sum ≡ of_bits binary32 0) × (((t.peaks.w ≡ of_bits binary32 0) × ((t.peaks.x ≡ of_bits binary32 0) × ((t.peaks.y ≡ of_bits binary32 0) × (t.peaks.z ≡ of_bits binary32 0)))) × (t.clipped ≡ 0))
    → t ≡ nothing_taken
unfolding of_bits
taken_default t e =
    λ i. record { sum = e.0 i; peaks = record { w = e.1.0.0 i; x = e.1.0.1.0 i; y = e.1.0.1.1.0 i; z = e.1.0.1.1.1 i }; clipped = e.1.1 i }

-- ---- one sample more, and four

module _ (samples : List Float) where
  counted_none : Counted samples 0 plus_zero 0 0
  unfolding sum peak_bits clipped_in total
  counted_none = record { within = omega arith; sum_is = refl; peak_is = refl; clipped_is = refl }

  -- i is the place after the sample at i₀
  counted_more : (i₀ i p₀ p n₀ n : ℕ) (s : Float) → Counted samples i₀ s p₀ n₀ → i₀ < length samples → i ≡ i₀ + 1 → p ≡ max p₀ (magnitude_bits_of (get_or samples i₀ nan)) → n ≡ n₀ + count_of (get_or samples i₀ nan)
      → Counted samples i (add binary32 s (square_of (get_or samples i₀ nan))) p n
  unfolding sum peak_bits clipped_in total
  counted_more i₀ i p₀ p n₀ n s r h e f g = record {
    within = omega arith;
    sum_is = ap (λ (x : Float). add binary32 x (square_of (get_or samples i₀ nan))) r.sum_is ∙ sym (folded_more (add binary32) square_of nan plus_zero samples i₀ h) ∙ ap (λ (k : ℕ). sum (map square_of (take k samples))) (sym e);
    peak_is = f ∙ ap (λ (x : ℕ). max x (magnitude_bits_of (get_or samples i₀ nan))) r.peak_is ∙ sym (folded_more max magnitude_bits_of nan 0 samples i₀ h) ∙ ap (λ (k : ℕ). peak_bits (take k samples)) (sym e);
    clipped_is = g ∙ ap (λ (x : ℕ). x + count_of (get_or samples i₀ nan)) r.clipped_is ∙ sym (folded_more ◌+◌ count_of nan 0 samples i₀ h) ∙ ap (λ (k : ℕ). clipped_in (take k samples)) (sym e);
  }

  -- the peak in four parts, each standing for its bits
  pub record Parts (i : ℕ) (t : Taking) : Type 0 where
    pub a : ℕ
    pub b : ℕ
    pub c : ℕ
    pub d : ℕ
    pub a_is : Stands a t.peaks.w
    pub b_is : Stands b t.peaks.x
    pub c_is : Stands c t.peaks.y
    pub d_is : Stands d t.peaks.z
    pub counted : Counted samples i t.sum (max (max a b) (max c d)) t.clipped

  starts_so : Parts 0 nothing_taken
  starts_so = record { a = 0; b = 0; c = 0; d = 0; a_is = zero_stands; b_is = zero_stands; c_is = zero_stands; d_is = zero_stands; counted = counted_none }

  pub starts : (t : Taking) → t ≡ nothing_taken → Parts 0 t
  starts t e = subst (λ (u : Taking). Parts 0 u) (sym e) starts_so

  -- no more are clipped than were taken
  pub few : (i : ℕ) (t : Taking) → Parts i t → t.clipped ≤ i
  few i t r = let h = clipped_before samples i in let e = r.counted.clipped_is in omega arith

  -- four samples more
  module _ (fit : (k : ℕ) → T (fits binary32 (get_or samples k nan))) where
    abbrev at : ℕ → Float
    at k = get_or samples k nan

    four_so : (i : ℕ) (t : Taking) → Parts i t → i + 4 ≤ length samples → Parts (i + 4) (four_taken t (at i) (at (i + 1)) (at (i + 2)) (at (i + 3)))
    four_so i t r h = record {
      a = max r.a (magnitude_bits_of (at i));
      b = max r.b (magnitude_bits_of (at (i + 1)));
      c = max r.c (magnitude_bits_of (at (i + 2)));
      d = max r.d (magnitude_bits_of (at (i + 3)));
      a_is = with_sample_lem r.a t.peaks.w (at i) (fit i) r.a_is;
      b_is = with_sample_lem r.b t.peaks.x (at (i + 1)) (fit (i + 1)) r.b_is;
      c_is = with_sample_lem r.c t.peaks.y (at (i + 2)) (fit (i + 2)) r.c_is;
      d_is = with_sample_lem r.d t.peaks.z (at (i + 3)) (fit (i + 3)) r.d_is;
      counted =
          counted_more (i + 3) (i + 4) _ _ _ _ _
          (counted_more (i + 2) (i + 3) _ _ _ _ _
          (counted_more (i + 1) (i + 2) _ _ _ _ _ (counted_more i (i + 1) _ _ _ _ _ r.counted (omega arith) refl refl refl) (omega arith) (omega arith) refl refl) (omega arith) (omega arith) refl refl)
          (omega arith) (omega arith)
          (regrouped r.a r.b r.c r.d (magnitude_bits_of (at i)) (magnitude_bits_of (at (i + 1))) (magnitude_bits_of (at (i + 2))) (magnitude_bits_of (at (i + 3))))
          refl;
    }

  -- one sample more, of a peak in one part
  goes_on : (i n₀ n : ℕ) (s p₀ p x : Float) → T (fits binary32 x) → x ≡ get_or samples i nan → i < length samples → Reached samples i (running s p₀ n₀) → p ≡ with_sample p₀ x → n ≡ n₀ + count_of x
      → Reached samples (i + 1) (running (add binary32 s (square_of x)) p n)
  goes_on i n₀ n s p₀ p x fit e h r f g =
      let before : Counted samples i s (peak_bits (take i samples)) n₀ = record { within = omega arith; sum_is = r.sum_is; peak_is = refl; clipped_is = r.clipped_is } in
      let k = counted_more i (i + 1) (peak_bits (take i samples)) (max (peak_bits (take i samples)) (magnitude_bits_of (get_or samples i nan))) n₀ n s before h refl refl (g ∙ ap (λ (y : Float). n₀ + count_of y) e) in
      record {
        sum_is = ap (λ (y : Float). add binary32 s (square_of y)) e ∙ k.sum_is;
        peak_is =
            subst (λ (y : Float). Stands (peak_bits (take (i + 1) samples)) y) (sym f)
            (subst (λ (m : ℕ). Stands m (with_sample p₀ x)) (ap (λ (y : Float). max (peak_bits (take i samples)) (magnitude_bits_of y)) e ∙ k.peak_is) (with_sample_lem _ p₀ x fit r.peak_is));
        clipped_is = k.clipped_is;
      }

  -- the four parts as one peak
  pub whole : (i : ℕ) (t : Taking) → Parts i t → Reached samples i (running_of t)
  whole i t r = record {
    sum_is = r.counted.sum_is;
    peak_is = subst (λ (n : ℕ). Stands n (largest_part t.peaks)) r.counted.peak_is (larger_stands _ _ _ _ (larger_stands _ _ _ _ r.a_is r.b_is) (larger_stands _ _ _ _ r.c_is r.d_is));
    clipped_is = r.counted.clipped_is;
  }

  ends : (i : ℕ) (r : Running) → Reached samples i r → length samples ≤ i → Passed samples r
  ends i r s h = record {
    sum_is = s.sum_is ∙ ap (λ (xs : List Float). sum (map square_of xs)) (take_all i samples h);
    peak_is = subst (λ (xs : List Float). Stands (peak_bits xs) r.peak) (take_all i samples h) s.peak_is;
    clipped_is = s.clipped_is ∙ ap clipped_in (take_all i samples h);
  }

  -- a measurement of all samples gives their level
  pub is_level : ((k : ℕ) → T (fits binary32 (get_or samples k nan))) → (r : Running) → Passed samples r → (l : Level) → l ≡ level_from r (length samples) → l ≡ frame_record samples
  unfolding frame_record mean
  is_level fit r p l e =
      e ∙ (λ i. record { average = div binary32 (p.sum_is i) (of_int binary32 (pos (sym (length-map samples square_of) i))); max = (sym p.peak_is.is ∙ (peak_stands samples fit).is) i; clipped = p.clipped_is i })

-- ---- samples that are taken from the front of those that are left

-- the samples before those that are left are taken by fours
pub record Left (samples rest : List Float) (t : Taking) : Type 0 where
  pub at : ℕ
  pub within : at ≤ length samples
  pub rest_is : rest ≡ drop at samples
  pub parts : Parts samples at t

module _ (samples : List Float) where
  pub none_taken : (t : Taking) → t ≡ nothing_taken → Left samples samples t
  none_taken t e = record { at = 0; within = omega arith; rest_is = refl; parts = starts samples t e }

  -- no more are clipped than were taken
  pub few_left : (rest : List Float) (t : Taking) → Left samples rest t → t.clipped + length rest ≤ length samples
  few_left rest t l = let h = few samples l.at t l.parts in omega (arith, h, ap length l.rest_is, length-drop l.at samples, l.within)

  its_own : (rest : List Float) (at i : ℕ) → rest ≡ drop at samples → get_or rest i nan ≡ get_or samples (at + i) nan
  its_own rest at i e = ap (λ (xs : List Float). get_or xs i nan) e ∙ get_or-drop at samples i nan

  first_own : (rest : List Float) (at : ℕ) → rest ≡ drop at samples → get_or rest 0 nan ≡ get_or samples at nan
  first_own rest at e = let n : at + 0 ≡ at = omega arith in its_own rest at 0 e ∙ ap (λ (k : ℕ). get_or samples k nan) n

  pub four_left : (rest : List Float) (t u : Taking) → ((k : ℕ) → T (fits binary32 (get_or samples k nan))) → Left samples rest t → 4 ≤ length rest
      → u ≡ four_taken t (get_or rest 0 nan) (get_or rest 1 nan) (get_or rest 2 nan) (get_or rest 3 nan) → Left samples (take (length rest - 4) (drop 4 rest)) u
  four_left rest t u fit l h n =
      let own : (i : ℕ) → get_or rest i nan ≡ get_or samples (l.at + i) nan = λ i. its_own rest l.at i l.rest_is in
      let room : l.at + 4 ≤ length samples = omega (arith, h, ap length l.rest_is, length-drop l.at samples, l.within) in
      record {
        at = l.at + 4;
        within = room;
        rest_is = take_all (length rest - 4) (drop 4 rest) (omega (arith, length-drop 4 rest)) ∙ ap (drop 4) l.rest_is ∙ drop-drop 4 l.at samples;
        parts = subst (Parts samples (l.at + 4)) (sym (n ∙ (λ i. four_taken t (first_own rest l.at l.rest_is i) (own 1 i) (own 2 i) (own 3 i)))) (four_so samples fit l.at t l.parts room);
      }

-- what a loop over those that are left has come to
pub record Coming (from : Running) (rest : List Float) (i : ℕ) (r : Running) : Type 0 where
  pub few : r.clipped ≤ from.clipped + i
  pub reached : (samples : List Float) (at : ℕ) → at ≤ length samples → rest ≡ drop at samples → Reached samples at from → Reached samples (at + i) r

module _ (from : Running) (rest : List Float) where
  pub comes : Coming from rest 0 from
  comes = record { few = omega arith; reached = λ samples at h e r. let n : at ≡ at + 0 = omega arith in subst (λ (k : ℕ). Reached samples k from) n r }

  pub comes_on : (i n₀ n : ℕ) (s p₀ p x : Float) → T (fits binary32 x) → x ≡ get_or rest i nan → i < length rest → Coming from rest i (running s p₀ n₀) → p ≡ with_sample p₀ x → n ≡ n₀ + count_of x
      → Coming from rest (i + 1) (running (add binary32 s (square_of x)) p n)
  comes_on i n₀ n s p₀ p x fit e h c f g = record {
    few = omega (arith, c.few, g, count_most x);
    reached = λ samples at k q r. let m : at + i + 1 ≡ at + (i + 1) = omega arith in subst (λ (j : ℕ). Reached samples j (running (add binary32 s (square_of x)) p n)) m (goes_on samples (at + i) n₀ n s p₀ p x fit (e ∙ its_own samples rest at i q) (omega (arith, h, ap length q, length-drop at samples)) (c.reached samples at k q r) f g);
  }

  pub has_passed : (i : ℕ) (r : Running) → Coming from rest i r → length rest ≤ i → (samples : List Float) (at : ℕ) → at ≤ length samples → rest ≡ drop at samples → Reached samples at from → Passed samples r
  has_passed i r c h samples at k q s = ends samples (at + i) r (c.reached samples at k q s) (omega (arith, h, ap length q, length-drop at samples))
