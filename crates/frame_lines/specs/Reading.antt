-- How far a line is read: what the private functions of `line` say of it. Definitions only.
use Rattle.std.specs.Prelude.{◌≡◌, Bool, true, false, Option, Some, None, List, map, ℕ, Float, length}
use Rattle.frame_lines.specs.declared.line.Level.{Level}
use Rattle.frame_lines.specs.declared.line.Head.{Head}
use Rattle.frame_lines.specs.Digits.{are_digits, number}
use Rattle.frame_lines.specs.Samples.{samples_in}
use Rattle.frame_lines.specs.Line.{part, is_dashed, level_is_good, level_if, samples_start, head_is_good}
use Rattle.frame_lines.specs.Parsed.{float_of, speech_level_of, sample_of, over}

abbrev pub word_if : Bool → ℕ → Option ℕ
word_if true n = Some n
word_if false n = None

-- the eight characters from a place on
unfoldable pub word_at : List ℕ → ℕ → Option ℕ
word_at line start = word_if (are_digits (part line start 8)) (number (part line start 8))

abbrev pub level_field_if : Bool → List ℕ → Option Level
level_field_if true line = Some (record { level = speech_level_of (level_if (is_dashed line) line); start = samples_start (is_dashed line) })
level_field_if false line = None

-- the level's field, and where the samples start behind it
unfoldable pub level_field : List ℕ → Option Level
level_field line = level_field_if (level_is_good (is_dashed line) line) line

abbrev pub head_if : Bool → List ℕ → Option Head
head_if true line =
    Some (record {
      volume = number (part line 0 2);
      probability = float_of (number (part line 3 8));
      level = speech_level_of (level_if (is_dashed line) line);
      start = samples_start (is_dashed line);
    })
head_if false line = None

-- all fields before the samples, and where those start
unfoldable pub head_of : List ℕ → Option Head
head_of line = head_if (head_is_good line) line

-- n samples of a text were read, all that it has, into a slice that held `before`
pub record ReadAs (text : List ℕ) (before after : List Float) (n : ℕ) : Type 0 where
  pub count_is : n ≡ length (samples_in text)
  pub lent_is : after ≡ over (map sample_of (samples_in text)) before
