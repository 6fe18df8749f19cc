-- The fields before the samples, by the tests that `level_field` and `read_head` make: one law for each way through them. Assumes nothing.
use mathlib.Core.Path.{◌≡◌, refl, sym, ap, ◌∙◌}
use mathlib.Core.Bool.{Bool, true, false, ◌&&◌}
use mathlib.Core.List.{List}
use Prim.Native.Nat.{ℕ, ◌≤◌, ◌<◌}
use native.Mathlib.Omega.{arith}
use native.Mathlib.Decide.{dec_lt}
use lib.Dec.{eqb}
use lib.ListN.{length, get_or, get_or-eq_default}
use borrow.Author.Tests.{eq-eqb, ne_eqb}
use Rattle.numbers.proofs.Signs.{clash}
use Rattle.std.specs.Prelude.{Some, None}
use Rattle.frame_lines.specs.declared.line.Level.{Level}
use Rattle.frame_lines.specs.declared.line.Head.{Head}
use Rattle.frame_lines.specs.Digits.{are_digits, number}
use Rattle.frame_lines.specs.Line.{part, is_blank, is_dashed, level_is_good, level_if, samples_start, head_is_good}
use Rattle.frame_lines.specs.Parsed.{float_of, speech_level_of}
use Rattle.frame_lines.specs.Reading.{word_if, word_at, level_field_if, level_field, head_if, head_of}
use Rattle.frame_lines.proofs.Tests.{and_false}

-- ---- what an answer tells

-- eight characters are digits, and n is their number
pub record Digits (line : List ℕ) (i n : ℕ) : Type 0 where
  pub are : are_digits (part line i 8) ≡ true
  pub is : number (part line i 8) ≡ n

word_kept : (t : Bool) (m n : ℕ) → word_if t m ≡ Some n → (t ≡ true) × (m ≡ n)
word_kept true m n e = (refl, cc)
word_kept false m n e = let z : ◌≡◌ {A = ℕ} 0 1 = cc in absurd (omega arith)

word_lost : (t : Bool) (m : ℕ) → word_if t m ≡ None → t ≡ false
word_lost true m e = let z : ◌≡◌ {A = ℕ} 0 1 = cc in absurd (omega arith)
word_lost false m e = refl

pub told_word : (line : List ℕ) (i n : ℕ) → word_at line i ≡ Some n → Digits line i n
unfolding word_at
told_word line i n e = let k = word_kept (are_digits (part line i 8)) (number (part line i 8)) n e in record { are = k.0; is = k.1 }

pub told_no_word : (line : List ℕ) (i : ℕ) → word_at line i ≡ None → are_digits (part line i 8) ≡ false
unfolding word_at
told_no_word line i e = word_lost (are_digits (part line i 8)) (number (part line i 8)) e

-- past the end stands no blank
pub no_blank : (line : List ℕ) (i : ℕ) → length line ≤ i → is_blank line i ≡ false
no_blank line i h = ap (λ (c : ℕ). eqb c 32) (get_or-eq_default line 0 h)

pub blank_within : (line : List ℕ) (i : ℕ) → is_blank line i ≡ true → i < length line
blank_within line i e =
    elim (dec_lt i (length line)) [ yes h ↦ h | no h ↦ clash (sym e ∙ no_blank line i (omega arith)) ]

-- ---- the level

module _ (line : List ℕ) where
  pub dash_blank : get_or line 12 0 ≡ 45 → get_or line 13 0 ≡ 32 → Some (record { level = None; start = 14 }) ≡ level_field line
  unfolding level_field
  dash_blank d b = simp (eq-eqb _ _ d, eq-eqb _ _ b)

  pub dash_other : get_or line 12 0 ≡ 45 → (get_or line 13 0 ≡ 32 → ⊥) → None ≡ level_field line
  unfolding level_field
  dash_other d b = simp (eq-eqb _ _ d, ne_eqb _ _ b)

  module _ (d : get_or line 12 0 ≡ 45 → ⊥) where
    pub bits_no_blank : is_blank line 20 ≡ false → None ≡ level_field line
    unfolding level_field
    bits_no_blank b = simp (ne_eqb _ _ d, b, and_false)

    pub bits_lost : word_at line 12 ≡ None → None ≡ level_field line
    unfolding level_field
    bits_lost w = simp (ne_eqb _ _ d, told_no_word line 12 w)

    pub bits_kept : (n : ℕ) → get_or line 20 0 ≡ 32 → word_at line 12 ≡ Some n → Some (record { level = Some (float_of n); start = 21 }) ≡ level_field line
    unfolding level_field
    bits_kept n b w = let t = told_word line 12 n w in simp (ne_eqb _ _ d, eq-eqb _ _ b, t.are, t.is)

-- what the level's field tells of the line: it is in order, and this is the level
pub record Levelled (line : List ℕ) (field : Level) : Type 0 where
  pub good : level_is_good (is_dashed line) line ≡ true
  pub level_is : speech_level_of (level_if (is_dashed line) line) ≡ field.level
  pub start_is : samples_start (is_dashed line) ≡ field.start

level_kept : (line : List ℕ) (t : Bool) (field : Level) → level_is_good (is_dashed line) line ≡ t → level_field_if t line ≡ Some field → Levelled line field
level_kept line true field g e = record { good = g; level_is = cc; start_is = cc }
level_kept line false field g e = let z : ◌≡◌ {A = ℕ} 0 1 = cc in absurd (omega arith)

level_lost : (line : List ℕ) (t : Bool) → level_field_if t line ≡ None → t ≡ false
level_lost line true e = let z : ◌≡◌ {A = ℕ} 0 1 = cc in absurd (omega arith)
level_lost line false e = refl

module _ (line : List ℕ) where
  pub told_level : (field : Level) → level_field line ≡ Some field → Levelled line field
  unfolding level_field
  told_level field e = level_kept line (level_is_good (is_dashed line) line) field refl e

  pub told_no_level : level_field line ≡ None → level_is_good (is_dashed line) line ≡ false
  unfolding level_field
  told_no_level e = level_lost line (level_is_good (is_dashed line) line) e

-- ---- all of them

module _ (line : List ℕ) where
  -- the blank behind the volume, and so on, or one of them is missing
  pub volume_lost : are_digits (part line 0 2) ≡ false → None ≡ head_of line
  unfolding head_of head_is_good
  volume_lost e = simp e

  pub first_blank_lost : (get_or line 2 0 ≡ 32 → ⊥) → None ≡ head_of line
  unfolding head_of head_is_good
  first_blank_lost b = simp (ne_eqb _ _ b, and_false)

  second_lost : is_blank line 11 ≡ false → None ≡ head_of line
  unfolding head_of head_is_good
  second_lost b = simp (b, and_false)

  pub second_blank_lost : (get_or line 11 0 ≡ 32 → ⊥) → None ≡ head_of line
  second_blank_lost b = second_lost (ne_eqb _ _ b)

  pub probability_lost : word_at line 3 ≡ None → None ≡ head_of line
  unfolding head_of head_is_good
  probability_lost w = simp (told_no_word line 3 w, and_false)

  level_bad : level_is_good (is_dashed line) line ≡ false → None ≡ head_of line
  unfolding head_of head_is_good
  level_bad e = simp (e, and_false)

  pub level_malformed : level_field line ≡ None → None ≡ head_of line
  level_malformed e = level_bad (told_no_level line e)

  -- a line that is shorter than a dash's ends before its last blank
  short_level : length line < 14 → (t : Bool) → level_is_good t line ≡ false
  short_level h true = no_blank line 13 (omega arith)
  short_level h false = ap (λ (t : Bool). are_digits (part line 12 8) && t) (no_blank line 20 (omega arith)) ∙ and_false (are_digits (part line 12 8))

  pub too_short : length line < 14 → None ≡ head_of line
  too_short h = level_bad (short_level h (is_dashed line))

  pub all_kept : (n : ℕ) (field : Level) → are_digits (part line 0 2) ≡ true → get_or line 2 0 ≡ 32 → get_or line 11 0 ≡ 32 → word_at line 3 ≡ Some n → Levelled line field
      → Some (record { volume = number (part line 0 2); probability = float_of n; level = field.level; start = field.start }) ≡ head_of line
  unfolding head_of head_is_good
  all_kept n field v b d w l =
      let t = told_word line 3 n w in
      simp (v, eq-eqb _ _ b, eq-eqb _ _ d, t.are, t.is, l.good, l.level_is, l.start_is)

-- ---- what it tells

pub record Headed (line : List ℕ) (head : Head) : Type 0 where
  pub good : head_is_good line ≡ true
  pub volume_is : number (part line 0 2) ≡ head.volume
  pub probability_is : float_of (number (part line 3 8)) ≡ head.probability
  pub level_is : speech_level_of (level_if (is_dashed line) line) ≡ head.level
  pub start_is : samples_start (is_dashed line) ≡ head.start

head_kept : (line : List ℕ) (t : Bool) (head : Head) → head_is_good line ≡ t → head_if t line ≡ Some head → Headed line head
head_kept line true head g e = record { good = g; volume_is = cc; probability_is = cc; level_is = cc; start_is = cc }
head_kept line false head g e = let z : ◌≡◌ {A = ℕ} 0 1 = cc in absurd (omega arith)

pub told_fields : (line : List ℕ) (head : Head) → head_of line ≡ Some head → Headed line head
unfolding head_of
told_fields line head e = head_kept line (head_is_good line) head refl e

head_lost : (line : List ℕ) (t : Bool) → head_if t line ≡ None → t ≡ false
head_lost line true e = let z : ◌≡◌ {A = ℕ} 0 1 = cc in absurd (omega arith)
head_lost line false e = refl

pub told_no_fields : (line : List ℕ) → head_of line ≡ None → head_is_good line ≡ false
unfolding head_of
told_no_fields line e = head_lost line (head_is_good line) e
