-- Numbers and samples that are written again as they were read. Assumes nothing.
use mathlib.Core.Path.{◌≡◌, refl, sym, ap, ◌∙◌}
use mathlib.Core.Bool.{Bool, true, false, ◌&&◌, ◌||◌}
use mathlib.Core.List.{List, [], ◌∷◌, ◌++◌, append_assoc, append-nil}
use Prim.Native.Nat.{ℕ, suc, ◌+◌, ◌*◌, ◌-◌, ◌/◌, ◌%◌, ◌^◌, ◌<◌}
use native.Mathlib.Omega.{arith}
use lib.Dec.{leb, ltb}
use lib.IntN.{pos, neg_ℤ}
use lib.ListN.{length}
use borrow.Author.Tests.{leb-true, lt-ltb, le-ltb}
use Rattle.frame_lines.specs.Digits.{is_decimal, is_letter, is_digit, digit_if, digit, are_digits, number_after, number}
use Rattle.frame_lines.specs.Samples.{four, signed_if, signed16, are_samples, sample_if, samples_in}
use Rattle.frame_lines.specs.Answer.{digit_character_if, digit_character, digits_of}
use Rattle.frame_lines.specs.Spelling.{unsigned16, samples_text}
use Rattle.frame_lines.proofs.Tests.{both}
use Rattle.frame_lines.proofs.Counted.{counts, four_below}

-- ---- digits

-- what a digit counts is written with that digit
character_if : (c : ℕ) (t u : Bool) → is_decimal c ≡ t → is_letter c ≡ u → (t || u) ≡ true → digit_character_if (ltb (digit_if t c) 10) (digit_if t c) ≡ c
character_if c true u p q e =
    let b = both (leb 48 c) (leb c 57) p in
    let least = leb-true 48 c b.first in
    let most = leb-true c 57 b.second in
    let n : 48 + (c - 48) ≡ c = omega arith in
    ap (λ (t : Bool). digit_character_if t (c - 48)) (lt-ltb (c - 48) 10 (omega arith)) ∙ n
character_if c false u p q e =
    let b = both (leb 97 c) (leb c 102) (q ∙ e) in
    let least = leb-true 97 c b.first in
    let n : 87 + (c - 97 + 10) ≡ c = omega arith in
    ap (λ (t : Bool). digit_character_if t (c - 97 + 10)) (le-ltb (c - 97 + 10) 10 (omega arith)) ∙ n

character : (c : ℕ) → is_digit c ≡ true → digit_character (digit c) ≡ c
unfolding is_digit digit digit_character
character c e = character_if c (is_decimal c) (is_letter c) refl refl e

-- one digit more
last_digit : (j m c : ℕ) → is_digit c ≡ true → digits_of (suc j) (16 * m + digit c) ≡ digits_of j m ++ c ∷ []
unfolding digits_of
last_digit j m c e =
    let small = (counts c e).small in
    let high : (16 * m + digit c) / 16 ≡ m = omega arith in
    let low : (16 * m + digit c) % 16 ≡ digit c = omega arith in
    λ i. digits_of j (high i) ++ (ap digit_character low ∙ character c e) i ∷ []

-- digits behind j others, which make m
written_after : (t : List ℕ) (j m k : ℕ) → k ≡ length t + j → are_digits t ≡ true → digits_of k (number_after m t) ≡ digits_of j m ++ t
unfolding are_digits number_after
written_after [] j m k e d = let n : k ≡ j = omega arith in ap (λ (i : ℕ). digits_of i m) n ∙ sym (append-nil (digits_of j m))
written_after (c ∷ t) j m k e d =
    let b = both (is_digit c) (are_digits t) d in
    written_after t (suc j) (16 * m + digit c) k (omega arith) b.second
    ∙ ap (λ (l : List ℕ). l ++ t) (last_digit j m c b.first)
    ∙ append_assoc (digits_of j m) (c ∷ []) t

-- the number of a text of k digits, in k digits, is that text
pub written : (k : ℕ) (t : List ℕ) → length t ≡ k → are_digits t ≡ true → digits_of k (number t) ≡ t
unfolding digits_of
written k t e d = written_after t 0 0 k (omega arith) d

-- ---- samples

unsigned_if : (n : ℕ) (t : Bool) → ltb n (2 ^ 15) ≡ t → n < 2 ^ 16 → unsigned16 (signed_if t n) ≡ n
unsigned_if n true e h = refl
unsigned_if n false e h =
    let more : 2 ^ 16 - n ≡ suc (2 ^ 16 - 1 - n) = omega arith in
    let back : 2 ^ 16 - suc (2 ^ 16 - 1 - n) ≡ n = omega arith in
    ap (λ (k : ℕ). unsigned16 (neg_ℤ (pos k))) more ∙ back

unsigned : (n : ℕ) → n < 2 ^ 16 → unsigned16 (signed16 n) ≡ n
unfolding signed16
unsigned n h = unsigned_if n (ltb n (2 ^ 15)) refl h

sample_if_lem : (a b c d : ℕ) (t : List ℕ) (u : Bool) → are_digits (four a b c d) ≡ u → (u && are_samples t) ≡ true → (are_samples t ≡ true → samples_text (samples_in t) ≡ t)
    → samples_text (sample_if u (number (four a b c d)) (samples_in t)) ≡ a ∷ b ∷ c ∷ d ∷ t
unfolding samples_text
sample_if_lem a b c d t true p e f =
    let n = number (four a b c d) in
    λ i. (ap (digits_of 4) (unsigned n (four_below refl p)) ∙ written 4 (four a b c d) refl p) i ++ f e i
sample_if_lem a b c d t false p e f = let z : ◌≡◌ {A = ℕ} 0 1 = cc in absurd (omega arith)

-- the samples of a text, written one behind the other, are that text
pub samples_written : (t : List ℕ) → are_samples t ≡ true → samples_text (samples_in t) ≡ t
unfolding are_samples samples_in samples_text
samples_written [] e = refl
samples_written (a ∷ []) e = let z : ◌≡◌ {A = ℕ} 0 1 = cc in absurd (omega arith)
samples_written (a ∷ b ∷ []) e = let z : ◌≡◌ {A = ℕ} 0 1 = cc in absurd (omega arith)
samples_written (a ∷ b ∷ c ∷ []) e = let z : ◌≡◌ {A = ℕ} 0 1 = cc in absurd (omega arith)
samples_written (a ∷ b ∷ c ∷ d ∷ t) e = sample_if_lem a b c d t (are_digits (four a b c d)) refl e (samples_written t)
