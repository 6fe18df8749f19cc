-- Document 01, "The frame-line program": the grammar of a frame line, which is the list of its characters without the line feed. The two forms, with the places where fields start:
--     c8 00000000 - 0000..            c8 00000000 3f800000 0000..
--     0  3        12 14               0  3        12       21
-- Definitions only.
use Rattle.std.specs.Prelude.{Bool, true, false, ◌&&◌, List, ℕ, leb, eqb, ℤ, length, get_or, take, drop, Option, None, Some}
use Rattle.frame_lines.specs.Digits.{are_digits, number}
use Rattle.frame_lines.specs.Samples.{are_samples, samples_in}

-- "A line over 2,000 characters is malformed"
abbrev pub most_characters : ℕ
most_characters = 2000

-- so many samples such a line has at most: behind 14 characters, four for each
abbrev pub most_samples : ℕ
most_samples = 496

-- the character at a place; past the end stands 0, which is no blank and no dash
abbrev pub at : List ℕ → ℕ → ℕ
at line i = get_or line i 0

-- n characters from a place on; where the line ends before them, no blank stands behind them
abbrev pub part : List ℕ → ℕ → ℕ → List ℕ
part line start n = take n (drop start line)

-- "one blank between fields"
abbrev pub is_blank : List ℕ → ℕ → Bool
is_blank line i = eqb (at line i) 32

-- "speech level (8, float bits, or `-`)"
abbrev pub is_dashed : List ℕ → Bool
is_dashed line = eqb (at line 12) 45

-- a level in order, with the blank behind it, by whether it is a dash
abbrev pub level_is_good : Bool → List ℕ → Bool
level_is_good true line = is_blank line 13
level_is_good false line = are_digits (part line 12 8) && is_blank line 20

-- where the samples start: "one blank between fields, also before an empty sample field"
abbrev pub samples_start : Bool → ℕ
samples_start true = 14
samples_start false = 21

abbrev pub sample_text : List ℕ → List ℕ
sample_text line = drop (samples_start (is_dashed line)) line

-- "volume (2 hexadecimal digits ..), speech probability (8, float bits), speech level", each with the blank behind it
unfoldable pub head_is_good : List ℕ → Bool
head_is_good line =
    ((are_digits (part line 0 2) && is_blank line 2) && (are_digits (part line 3 8) && is_blank line 11)) && level_is_good (is_dashed line) line

-- all but the samples; an empty line is malformed here, as is every other that is too short for its blanks
unfoldable pub is_framed : List ℕ → Bool
is_framed line = leb (length line) most_characters && head_is_good line

unfoldable pub is_well_formed : List ℕ → Bool
is_well_formed line = is_framed line && are_samples (sample_text line)

-- ---- what a line means

-- the numbers in its fields: the probability and the level are the bits of floats, and a dash is no level
pub record Fields : Type 0 where
  pub volume : ℕ
  pub probability : ℕ
  pub level : Option ℕ
  pub samples : List ℤ

abbrev pub level_if : Bool → List ℕ → Option ℕ
level_if true line = None
level_if false line = Some (number (part line 12 8))

unfoldable pub fields_of : List ℕ → Fields
fields_of line = record {
  volume = number (part line 0 2);
  probability = number (part line 3 8);
  level = level_if (is_dashed line) line;
  samples = samples_in (sample_text line);
}

abbrev pub meaning_if : Bool → List ℕ → Option Fields
meaning_if true line = Some (fields_of line)
meaning_if false line = None

-- what a line means, or nothing, which is cause 12: "malformed frame line"
unfoldable pub meaning : List ℕ → Option Fields
meaning line = meaning_if (is_well_formed line) line
