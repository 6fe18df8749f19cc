-- The characters of a part of a line, one by one, and parts of digits alone. Assumes nothing.
use mathlib.Core.Path.{◌≡◌, refl, sym, ap, ◌∙◌}
use mathlib.Core.Bool.{Bool, true, false, ◌&&◌, and-true}
use mathlib.Core.List.{List, [], ◌∷◌, ◌++◌}
use Prim.Native.Nat.{ℕ, suc, ◌+◌, ◌*◌, ◌-◌, ◌≤◌, ◌<◌}
use native.Mathlib.Numerals.{add-one}
use native.Mathlib.Omega.{arith}
use lib.ListN.{length, get_or, take, drop, length-drop}
use lib.Seq.{drop-cons, take-suc, take-add, take_all, drop-drop}
use Rattle.frame_lines.specs.Digits.{is_digit, digit, are_digits, number_after, number}
use Rattle.frame_lines.specs.Samples.{four}
use Rattle.frame_lines.specs.Line.{part}
use Rattle.std.specs.Prelude.{Some, None}
use Rattle.frame_lines.specs.Reading.{word_at}
use Rattle.frame_lines.proofs.Tests.{Both, both}

-- ---- one by one

-- one character, and those behind it
pub behind : (l : List ℕ) (i j : ℕ) → j ≡ i + 1 → i < length l → drop i l ≡ get_or l i 0 ∷ drop j l
behind l i j e h = let k : suc i ≡ j = omega arith in drop-cons l i 0 h ∙ ap (λ (n : ℕ). get_or l i 0 ∷ drop n l) k

module _ (l : List ℕ) (i : ℕ) where
  behind_two : i + 2 ≤ length l → drop i l ≡ get_or l i 0 ∷ get_or l (i + 1) 0 ∷ drop (i + 2) l
  behind_two h = behind l i (i + 1) refl (omega arith) ∙ ap (λ (t : List ℕ). get_or l i 0 ∷ t) (behind l (i + 1) (i + 2) (omega arith) (omega arith))

  pub part_two : i + 2 ≤ length l → part l i 2 ≡ get_or l i 0 ∷ get_or l (i + 1) 0 ∷ []
  part_two h = ap (take 2) (behind_two h)

  pub part_four : i + 4 ≤ length l → part l i 4 ≡ four (get_or l i 0) (get_or l (i + 1) 0) (get_or l (i + 2) 0) (get_or l (i + 3) 0)
  part_four h =
      ap (take 4) (behind_two (omega arith)
      ∙ ap (λ (t : List ℕ). get_or l i 0 ∷ get_or l (i + 1) 0 ∷ t) (behind l (i + 2) (i + 3) (omega arith) (omega arith)
      ∙ ap (λ (t : List ℕ). get_or l (i + 2) 0 ∷ t) (behind l (i + 3) (i + 4) (omega arith) (omega arith))))

-- n characters from a place on, as they are lent
pub lent_part : (l : List ℕ) (i n : ℕ) → take (i + n - i) (drop i l) ≡ part l i n
lent_part l i n = let k : i + n - i ≡ n = omega arith in ap (λ (m : ℕ). take m (drop i l)) k

-- what is lent from a place on is all that is left
pub lent_rest : (l : List ℕ) (i : ℕ) → take (length l - i) (drop i l) ≡ drop i l
lent_rest l i = take_all (length l - i) (drop i l) (omega (arith, length-drop i l))

-- ---- digits alone

and_assoc : (t u v : Bool) {w : Bool} → w ≡ u && v → (t && w) ≡ ((t && u) && v)
and_assoc true u v e = e
and_assoc false u v e = refl

pub digits_append : (xs ys : List ℕ) → are_digits (xs ++ ys) ≡ are_digits xs && are_digits ys
unfolding are_digits
digits_append [] ys = refl
digits_append (x ∷ xs) ys = and_assoc (is_digit x) (are_digits xs) (are_digits ys) (digits_append xs ys)

-- one more
pub digits_more : (t : List ℕ) (i : ℕ) → i < length t → (are_digits (take i t) && is_digit (get_or t i 0)) ≡ are_digits (take (i + 1) t)
unfolding are_digits
digits_more t i h =
    sym (ap (λ (k : ℕ). are_digits (take k t)) (add-one i) ∙ ap are_digits (take-suc t i 0 h) ∙ digits_append (take i t) (get_or t i 0 ∷ [])
    ∙ ap (λ (u : Bool). are_digits (take i t) && u) (and-true (is_digit (get_or t i 0))))

-- ---- eight characters are two fours

number_append : (n : ℕ) (xs ys : List ℕ) → number_after n (xs ++ ys) ≡ number_after (number_after n xs) ys
unfolding number_after
number_append n [] ys = refl
number_append n (x ∷ xs) ys = number_append (16 * n + digit x) xs ys

-- a four after a number
after_four : (n a b c d : ℕ) → number_after n (four a b c d) ≡ n * 65536 + number (four a b c d)
unfolding number_after
after_four n a b c d = omega arith

module _ (l : List ℕ) (i : ℕ) where
  halves : part l i 8 ≡ part l i 4 ++ part l (i + 4) 4
  halves = take-add 4 4 (drop i l) ∙ ap (λ (t : List ℕ). take 4 (drop i l) ++ take 4 t) (drop-drop 4 i l)

  pub halves_digits : are_digits (part l i 8) ≡ true → Both (are_digits (part l i 4)) (are_digits (part l (i + 4) 4))
  halves_digits e = both _ _ (sym (ap are_digits halves ∙ digits_append (part l i 4) (part l (i + 4) 4)) ∙ e)

  pub word_lost : are_digits (part l i 8) ≡ false → None ≡ word_at l i
  unfolding word_at
  word_lost e = simp e

  module _ (h : i + 8 ≤ length l) where
    eight_number : number (part l i 8) ≡ number (part l i 4) * 65536 + number (part l (i + 4) 4)
    eight_number =
        let low = part_four l (i + 4) (omega arith) in
        ap number halves ∙ number_append 0 (part l i 4) (part l (i + 4) 4) ∙ ap (number_after (number (part l i 4))) low
        ∙ after_four (number (part l i 4)) _ _ _ _ ∙ ap (λ (t : List ℕ). number (part l i 4) * 65536 + number t) (sym low)

    pub word_kept : are_digits (part l i 8) ≡ true → Some (number (part l i 4) * 65536 + number (part l (i + 4) 4)) ≡ word_at l i
    unfolding word_at
    word_kept e = simp (e, eight_number)
