-- A line in order is its own spelling, and has nothing to forgive. Assumes nothing.
use mathlib.Core.Path.{◌≡◌, refl, sym, ap, ◌∙◌}
use mathlib.Core.Bool.{Bool, true, false, ◌&&◌}
use mathlib.Core.List.{List, [], ◌∷◌, ◌++◌, map}
use Prim.Native.Nat.{ℕ, ◌+◌, ◌≤◌, ◌<◌}
use native.Mathlib.Omega.{arith}
use lib.Dec.{leb}
use lib.ListN.{length, get_or, drop, length-drop, take-append-drop}
use lib.Seq.{length-take-le, drop-drop}
use borrow.Author.Tests.{eqb-true, leb-true}
use Rattle.frame_lines.specs.Digits.{are_digits}
use Rattle.frame_lines.specs.Samples.{are_samples}
use Rattle.frame_lines.specs.Line.{most_characters, part, is_blank, is_dashed, level_is_good, samples_start, sample_text, head_is_good, is_framed, is_well_formed, level_if, fields_of}
use Rattle.frame_lines.specs.Forgiven.{lowered, spaced, with_samples, fields_in, forgiven}
use Rattle.frame_lines.specs.Spelling.{level_text, spelling}
use Rattle.frame_lines.proofs.Tests.{both}
use Rattle.frame_lines.proofs.Parts.{behind}
use Rattle.frame_lines.proofs.Heads.{blank_within}
use Rattle.frame_lines.proofs.SampleTexts.{all_digits}
use Rattle.frame_lines.proofs.Written.{written, samples_written}
use Rattle.frame_lines.proofs.Fieldwise.{blankless, four_fields, four_spaced, digits_blankless, digits_small, four_small}

-- ---- one field, with the blank behind it

module _ (line : List ℕ) (i n j : ℕ) (e : j ≡ i + n + 1) (b : is_blank line (i + n) ≡ true) where
  field_then_blank : drop i line ≡ part line i n ++ 32 ∷ drop j line
  field_then_blank =
      sym (take-append-drop n (drop i line))
      ∙ ap (λ (l : List ℕ). part line i n ++ l) (drop-drop n i line ∙ behind line (i + n) j e (blank_within line (i + n) b))
      ∙ ap (λ (c : ℕ). part line i n ++ c ∷ drop j line) (eqb-true (get_or line (i + n) 0) 32 b)

  field_length : length (part line i n) ≡ n
  field_length = length-take-le n (drop i line) (omega (arith, length-drop i line, blank_within line (i + n) b))

-- a text that is written as a field: not empty, with no blank and no capital in it
record Field (t : List ℕ) : Type 0 where
  full : 0 < length t
  whole : blankless t ≡ true
  small : map lowered t ≡ t

digits_field : (t : List ℕ) (n : ℕ) → length t ≡ n → 0 < n → are_digits t ≡ true → Field t
digits_field t n e h d = record { full = omega arith; whole = digits_blankless t d; small = digits_small t d }

-- ---- the level's field

record LevelField (line : List ℕ) (t : Bool) : Type 0 where
  field : List ℕ
  is : drop 12 line ≡ field ++ 32 ∷ drop (samples_start t) line
  proper : Field field
  written_so : level_text (level_if t line) ≡ field

dash_field : Field (45 ∷ [])
unfolding lowered
dash_field = record { full = omega arith; whole = refl; small = refl }

level_field : (line : List ℕ) (t : Bool) → is_dashed line ≡ t → is_blank line 11 ≡ true → level_is_good t line ≡ true → LevelField line t
unfolding level_text
level_field line true d b e = record {
  field = 45 ∷ [];
  is =
      behind line 12 13 refl (omega (arith, blank_within line 13 e))
      ∙ (λ i. eqb-true (get_or line 12 0) 45 d i ∷ (behind line 13 14 refl (blank_within line 13 e) ∙ ap (λ (c : ℕ). c ∷ drop 14 line) (eqb-true (get_or line 13 0) 32 e)) i);
  proper = dash_field;
  written_so = refl;
}
level_field line false d b e =
    let g = both (are_digits (part line 12 8)) (is_blank line 20) e in
    let n = field_length line 12 8 21 refl g.second in
    record {
      field = part line 12 8;
      is = field_then_blank line 12 8 21 refl g.second;
      proper = digits_field (part line 12 8) 8 n (omega arith) g.first;
      written_so = written 8 (part line 12 8) n g.first;
    }

-- ---- the whole line

record Shape (line : List ℕ) : Type 0 where
  volume : are_digits (part line 0 2) ≡ true
  first_blank : is_blank line 2 ≡ true
  probability : are_digits (part line 3 8) ≡ true
  second_blank : is_blank line 11 ≡ true
  level : level_is_good (is_dashed line) line ≡ true
  samples : are_samples (sample_text line) ≡ true
  short : length line ≤ most_characters

shape : (line : List ℕ) → is_well_formed line ≡ true → Shape line
unfolding is_well_formed is_framed head_is_good
shape line e =
    let w = both (is_framed line) (are_samples (sample_text line)) e in
    let f = both (leb (length line) most_characters) (head_is_good line) w.first in
    let h = both ((are_digits (part line 0 2) && is_blank line 2) && (are_digits (part line 3 8) && is_blank line 11)) (level_is_good (is_dashed line) line) f.second in
    let p = both (are_digits (part line 0 2) && is_blank line 2) (are_digits (part line 3 8) && is_blank line 11) h.first in
    let v = both (are_digits (part line 0 2)) (is_blank line 2) p.first in
    let q = both (are_digits (part line 3 8)) (is_blank line 11) p.second in
    record {
      volume = v.first;
      first_blank = v.second;
      probability = q.first;
      second_blank = q.second;
      level = h.second;
      samples = w.second;
      short = leb-true (length line) most_characters f.first;
    }

module _ (line : List ℕ) (good : is_well_formed line ≡ true) where
  s : Shape line
  s = shape line good

  pub short : length line ≤ most_characters
  short = s.short

  level : LevelField line (is_dashed line)
  level = level_field line (is_dashed line) refl s.second_blank s.level

  -- its four fields, one blank between them
  in_fields : line ≡ four_fields (part line 0 2) (part line 3 8) level.field (sample_text line)
  unfolding spaced
  in_fields =
      field_then_blank line 0 2 3 refl s.first_blank
      ∙ ap (λ (l : List ℕ). part line 0 2 ++ 32 ∷ l) (field_then_blank line 3 8 12 refl s.second_blank ∙ ap (λ (l : List ℕ). part line 3 8 ++ 32 ∷ l) level.is)

  volume_field : Field (part line 0 2)
  volume_field = digits_field (part line 0 2) 2 (field_length line 0 2 3 refl s.first_blank) (omega arith) s.volume

  probability_field : Field (part line 3 8)
  probability_field = digits_field (part line 3 8) 8 (field_length line 3 8 12 refl s.second_blank) (omega arith) s.probability

  samples_digits : are_digits (sample_text line) ≡ true
  samples_digits = all_digits (sample_text line) s.samples

  pub own_spelling : spelling (fields_of line) ≡ line
  unfolding spelling fields_of
  own_spelling =
      (λ i. four_fields
      (written 2 (part line 0 2) (field_length line 0 2 3 refl s.first_blank) s.volume i)
      (written 8 (part line 3 8) (field_length line 3 8 12 refl s.second_blank) s.probability i)
      (level.written_so i)
      (samples_written (sample_text line) s.samples i))
      ∙ sym in_fields

  pub nothing_forgiven : forgiven line ≡ line
  unfolding forgiven
  nothing_forgiven =
      let v = volume_field in
      let p = probability_field in
      let l = level.proper in
      ap (λ (x : List ℕ). map lowered (spaced (with_samples (fields_in x)))) in_fields
      ∙ ap (map lowered) (four_spaced (part line 0 2) (part line 3 8) level.field v.full p.full l.full v.whole p.whole l.whole (sample_text line) (digits_blankless (sample_text line) samples_digits))
      ∙ four_small (part line 0 2) (part line 3 8) level.field (sample_text line) v.small p.small l.small (digits_small (sample_text line) samples_digits)
      ∙ sym in_fields
