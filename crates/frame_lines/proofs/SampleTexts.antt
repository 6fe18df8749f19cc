-- A text of samples: how far it is read at each turn, where it stops, and whether that is the text's end. Assumes nothing.
use mathlib.Core.Path.{◌≡◌, refl, sym, ap, ◌∙◌}
use mathlib.Core.Bool.{Bool, true, false, not, cond, ◌&&◌}
use mathlib.Core.List.{List, [], ◌∷◌, ◌++◌, map}
use Prim.Native.Nat.{ℕ, zero, suc, ◌+◌, ◌*◌, ◌/◌, ◌%◌, ◌≤◌, ◌<◌, min}
use native.Mathlib.Numerals.{add-one}
use native.Mathlib.Omega.{arith}
use lib.Ieee.{Float}
use lib.IntN.{ℤ, pos}
use lib.ListN.{length, get_or, take, set, length-map}
use lib.Seq.{length-take-le, take-suc}
use Rattle.std.specs.List.{position_or_len}
use Rattle.numbers.proofs.Signs.{clash}
use Rattle.frame_lines.specs.Digits.{is_digit, are_digits, number}
use Rattle.frame_lines.specs.Samples.{four, signed16, are_samples, sample_if, samples_in}
use Rattle.frame_lines.specs.Line.{part}
use Rattle.frame_lines.specs.Parsed.{sample_of, over}
use Rattle.frame_lines.proofs.Tests.{both, false_unless, true_unless}
use Rattle.frame_lines.proofs.Parts.{digits_append}

-- ---- the text by fours

-- a text that goes by fours of digits to its end has a sample for each four, and another has fewer
whole_if : (t : Bool) (n : ℕ) (xs : List ℤ) (k : ℕ) (u : Bool) → (u ≡ true → length xs * 4 ≡ k) → (t && u) ≡ true → length (sample_if t n xs) * 4 ≡ suc (suc (suc (suc k)))
whole_if true n xs k u f e = omega (arith, f e)
whole_if false n xs k u f e = let z : ◌≡◌ {A = ℕ} 0 1 = cc in absurd (omega arith)

whole : (t : List ℕ) → are_samples t ≡ true → length (samples_in t) * 4 ≡ length t
unfolding are_samples samples_in
whole [] e = refl
whole (a ∷ []) e = let z : ◌≡◌ {A = ℕ} 0 1 = cc in absurd (omega arith)
whole (a ∷ b ∷ []) e = let z : ◌≡◌ {A = ℕ} 0 1 = cc in absurd (omega arith)
whole (a ∷ b ∷ c ∷ []) e = let z : ◌≡◌ {A = ℕ} 0 1 = cc in absurd (omega arith)
whole (a ∷ b ∷ c ∷ d ∷ t) e = whole_if (are_digits (four a b c d)) (number (four a b c d)) (samples_in t) (length t) (are_samples t) (whole t) e

less_if : (t : Bool) (n : ℕ) (xs : List ℤ) (k : ℕ) (u : Bool) → (u ≡ false → length xs * 4 < k) → (t && u) ≡ false → length (sample_if t n xs) * 4 < suc (suc (suc (suc k)))
less_if true n xs k u f e = omega (arith, f e)
less_if false n xs k u f e = omega arith

less : (t : List ℕ) → are_samples t ≡ false → length (samples_in t) * 4 < length t
unfolding are_samples samples_in
less [] e = let z : ◌≡◌ {A = ℕ} 0 1 = cc in absurd (omega arith)
less (a ∷ []) e = omega arith
less (a ∷ b ∷ []) e = omega arith
less (a ∷ b ∷ c ∷ []) e = omega arith
less (a ∷ b ∷ c ∷ d ∷ t) e = less_if (are_digits (four a b c d)) (number (four a b c d)) (samples_in t) (length t) (are_samples t) (less t) e

-- such a text has digits alone, in a number that goes by fours
digits_if : (a b c d : ℕ) (t : List ℕ) → (are_samples t ≡ true → are_digits t ≡ true) → (are_digits (four a b c d) && are_samples t) ≡ true → are_digits (a ∷ b ∷ c ∷ d ∷ t) ≡ true
digits_if a b c d t f e = let p = both (are_digits (four a b c d)) (are_samples t) e in digits_append (four a b c d) t ∙ (λ i. p.first i && f p.second i)

pub all_digits : (t : List ℕ) → are_samples t ≡ true → are_digits t ≡ true
unfolding are_samples are_digits
all_digits [] e = refl
all_digits (a ∷ []) e = let z : ◌≡◌ {A = ℕ} 0 1 = cc in absurd (omega arith)
all_digits (a ∷ b ∷ []) e = let z : ◌≡◌ {A = ℕ} 0 1 = cc in absurd (omega arith)
all_digits (a ∷ b ∷ c ∷ []) e = let z : ◌≡◌ {A = ℕ} 0 1 = cc in absurd (omega arith)
all_digits (a ∷ b ∷ c ∷ d ∷ t) e = digits_if a b c d t (all_digits t) e

by_fours_if : (a b c d : ℕ) (t : List ℕ) → length t % 4 ≡ 0 → are_digits (a ∷ b ∷ c ∷ d ∷ t) ≡ true → (length t % 4 ≡ 0 → are_digits t ≡ true → are_samples t ≡ true) → (are_digits (four a b c d) && are_samples t) ≡ true
by_fours_if a b c d t h e f = let p = both (are_digits (four a b c d)) (are_digits t) (sym (digits_append (four a b c d) t) ∙ e) in λ i. p.first i && f h p.second i

pub by_fours : (t : List ℕ) → length t % 4 ≡ 0 → are_digits t ≡ true → are_samples t ≡ true
unfolding are_samples
by_fours [] h e = refl
by_fours (a ∷ []) h e = absurd (omega arith)
by_fours (a ∷ b ∷ []) h e = absurd (omega arith)
by_fours (a ∷ b ∷ c ∷ []) h e = absurd (omega arith)
by_fours (a ∷ b ∷ c ∷ d ∷ t) h e = by_fours_if a b c d t (omega arith) e (by_fours t)

-- so digits and their number tell
pub not_fours : (t : List ℕ) → (length t % 4 ≡ 0 → ⊥) → are_samples t ≡ false
not_fours t h = false_unless (are_samples t) (λ e. h (omega (arith, whole t e)))

pub fours_tell : (t : List ℕ) → length t % 4 ≡ 0 → are_digits t ≡ are_samples t
fours_tell t h = fours_tell_if (are_digits t) refl
  where
    fours_tell_if : (u : Bool) → are_digits t ≡ u → u ≡ are_samples t
    fours_tell_if true e = sym (by_fours t h e)
    fours_tell_if false e = sym (false_unless (are_samples t) (λ s. clash (sym (all_digits t s) ∙ e)))

-- so does the number of samples

pub not_to_end : (t : List ℕ) → length (samples_in t) * 4 < length t → are_samples t ≡ false
not_to_end t h = false_unless (are_samples t) (λ e. omega (arith, whole t e))

pub to_end : (t : List ℕ) → length t ≤ length (samples_in t) * 4 → are_samples t ≡ true
to_end t h = true_unless (are_samples t) (λ e. omega (arith, less t e))

pub fours : (t : List ℕ) → length (samples_in t) * 4 ≤ length t
fours t = fours_if (are_samples t) refl
  where
    fours_if : (u : Bool) → are_samples t ≡ u → length (samples_in t) * 4 ≤ length t
    fours_if true e = omega (arith, whole t e)
    fours_if false e = omega (arith, less t e)

-- ---- how many a text has, by where its first other character stands

abbrev pub other : ℕ → Bool
other c = not (is_digit c)

count_if : (t u v w : Bool) (n k : ℕ) (xs : List ℤ) → length xs ≡ k / 4
    → length (sample_if (t && (u && (v && (w && true)))) n xs) ≡ cond (not (not t)) (1 + cond (not (not u)) (1 + cond (not (not v)) (1 + cond (not (not w)) (1 + k) 0) 0) 0) 0 / 4
count_if true true true true n k xs e = omega arith
count_if true true true false n k xs e = refl
count_if true true false w n k xs e = refl
count_if true false v w n k xs e = refl
count_if false u v w n k xs e = refl

short_if : (t u v : Bool) → 0 ≡ cond (not (not t)) (1 + cond (not (not u)) (1 + cond (not (not v)) 1 0) 0) 0 / 4
short_if true true true = refl
short_if true true false = refl
short_if true false v = refl
short_if false u v = refl

pub count_before : (t : List ℕ) → length (samples_in t) ≡ position_or_len other t / 4
unfolding samples_in are_digits
count_before [] = refl
count_before (a ∷ []) = short_if (is_digit a) false false
count_before (a ∷ b ∷ []) = short_if (is_digit a) (is_digit b) false
count_before (a ∷ b ∷ c ∷ []) = short_if (is_digit a) (is_digit b) (is_digit c)
count_before (a ∷ b ∷ c ∷ d ∷ t) = count_if (is_digit a) (is_digit b) (is_digit c) (is_digit d) (number (four a b c d)) (position_or_len other t) (samples_in t) (count_before t)

-- digits alone have none
pub none_before : (t : List ℕ) → are_digits t ≡ true → position_or_len other t ≡ length t
unfolding are_digits
none_before [] e = refl
none_before (c ∷ t) e =
    let p = both (is_digit c) (are_digits t) e in
    ap (λ (u : Bool). cond (not (not u)) (1 + position_or_len other t) 0) p.first ∙ omega (arith, none_before t p.second)

-- ---- one of them

-- the digits of the one at n, and what they make
pub record SampleAt (t : List ℕ) (n : ℕ) : Type 0 where
  pub digits : are_digits (part t (n * 4) 4) ≡ true
  pub is : get_or (map sample_of (samples_in t)) n (sample_of (pos 0)) ≡ sample_of (signed16 (number (part t (n * 4) 4)))

first_sample : (a b c d : ℕ) (t : List ℕ) (u : Bool) → are_digits (four a b c d) ≡ u → 0 < length (sample_if u (number (four a b c d)) (samples_in t))
    → (u ≡ true) × (get_or (map sample_of (sample_if u (number (four a b c d)) (samples_in t))) 0 (sample_of (pos 0)) ≡ sample_of (signed16 (number (four a b c d))))
first_sample a b c d t true e h = (refl, refl)
first_sample a b c d t false e h = absurd (omega arith)

later_sample : (m n : ℕ) (xs : List ℤ) (u : Bool) → suc n < length (sample_if u m xs) → (n < length xs) × (get_or (map sample_of (sample_if u m xs)) (suc n) (sample_of (pos 0)) ≡ get_or (map sample_of xs) n (sample_of (pos 0)))
later_sample m n xs true h = (omega arith, refl)
later_sample m n xs false h = absurd (omega arith)

pub sample_at : (t : List ℕ) (n : ℕ) → n < length (samples_in t) → SampleAt t n
unfolding samples_in
sample_at [] n h = absurd (omega arith)
sample_at (a ∷ []) n h = absurd (omega arith)
sample_at (a ∷ b ∷ []) n h = absurd (omega arith)
sample_at (a ∷ b ∷ c ∷ []) n h = absurd (omega arith)
sample_at (a ∷ b ∷ c ∷ d ∷ t) zero h =
    let f = first_sample a b c d t (are_digits (four a b c d)) refl h in
    record { digits = f.0; is = f.1 }
sample_at (a ∷ b ∷ c ∷ d ∷ t) (suc n) h =
    let l = later_sample (number (four a b c d)) n (samples_in t) (are_digits (four a b c d)) h in
    let r = sample_at t n l.0 in
    let k : suc n * 4 ≡ suc (suc (suc (suc (n * 4)))) = omega arith in
    let same : part (a ∷ b ∷ c ∷ d ∷ t) (suc n * 4) 4 ≡ part t (n * 4) 4 = ap (λ (i : ℕ). part (a ∷ b ∷ c ∷ d ∷ t) i 4) k in
    record {
      digits = ap are_digits same ∙ r.digits;
      is = l.1 ∙ r.is ∙ ap (λ (x : List ℕ). sample_of (signed16 (number x))) (sym same);
    }

-- ---- the lent slice

-- one sample more, which falls away where there is no place for it
over_more : (xs ys : List Float) (x : Float) → over (xs ++ x ∷ []) ys ≡ set (over xs ys) (length xs) x
unfolding over
over_more [] [] x = refl
over_more [] (y ∷ ys) x = refl
over_more (a ∷ xs) [] x = refl
over_more (a ∷ xs) (y ∷ ys) x = ap (λ (l : List Float). a ∷ l) (over_more xs ys x)

pub length-over : (xs ys : List Float) → length (over xs ys) ≡ length ys
unfolding over
length-over [] ys = refl
length-over (x ∷ xs) [] = refl
length-over (x ∷ xs) (y ∷ ys) = ap suc (length-over xs ys)

-- those for which there is a place are all that count
over_cut : (n : ℕ) (xs ys : List Float) → n ≡ min (length xs) (length ys) → over (take n xs) ys ≡ over xs ys
unfolding over
over_cut n [] ys e = let k : n ≡ 0 = omega arith in ap (λ (m : ℕ). over (take m []) ys) k
over_cut n (x ∷ xs) [] e = let k : n ≡ 0 = omega arith in ap (λ (m : ℕ). over (take m (x ∷ xs)) []) k
over_cut zero (x ∷ xs) (y ∷ ys) e = absurd (omega arith)
over_cut (suc n) (x ∷ xs) (y ∷ ys) e = ap (λ (l : List Float). x ∷ l) (over_cut n xs ys (omega arith))

-- ---- the turns: the first n samples were read

abbrev pub read_first : List ℕ → List Float → ℕ → List Float
read_first text before n = over (take n (map sample_of (samples_in text))) before

module _ (text : List ℕ) (before : List Float) where
  pub none_read : before ≡ read_first text before 0
  unfolding over
  none_read = refl

  pub one_read : (now : List Float) (n : ℕ) → now ≡ read_first text before n → n < length (samples_in text) → (x : Float) → x ≡ sample_of (signed16 (number (part text (n * 4) 4)))
      → set now n x ≡ read_first text before (n + 1)
  one_read now n e h x p =
      let xs = map sample_of (samples_in text) in
      let l : n < length xs = omega (arith, length-map (samples_in text) sample_of) in
      let first : length (take n xs) ≡ n = length-take-le n xs (omega arith) in
      (λ i. set (e i) n ((p ∙ sym (sample_at text n h).is) i))
      ∙ ap (λ (k : ℕ). set (over (take n xs) before) k (get_or xs n (sample_of (pos 0)))) (sym first)
      ∙ sym (over_more (take n xs) before (get_or xs n (sample_of (pos 0))))
      ∙ ap (λ (ys : List Float). over ys before) (sym (take-suc xs n (sample_of (pos 0)) l))
      ∙ ap (read_first text before) (sym (add-one n))

  pub all_read : (now : List Float) (n : ℕ) → now ≡ read_first text before n → n ≡ min (length (samples_in text)) (length before) → now ≡ over (map sample_of (samples_in text)) before
  all_read now n e h = e ∙ over_cut n (map sample_of (samples_in text)) before (omega (arith, length-map (samples_in text) sample_of))
