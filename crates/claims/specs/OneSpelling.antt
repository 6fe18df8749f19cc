-- Document 02 (vii), "One spelling of a frame line". A line is the list of its bytes; `meaning` is what document 01's reader takes of it, `lenient_meaning` what the lenient reader takes, and `spelling` what the writer gives of a
-- meaning, which is "its volume, its two float bit patterns or the dash, and its samples". Definitions only.
use Rattle.std.specs.Prelude.{◌≡◌, List, [], ◌∷◌, ◌++◌, ℕ, ◌+◌, ◌≤◌, ◌<◌, length, None, Some}
use Rattle.frame_lines.specs.Line.{Fields, meaning}
use Rattle.frame_lines.specs.Forgiven.{lenient_meaning}
use Rattle.frame_lines.specs.Spelling.{spelling}

-- "Lines typed by hand arrive with capitals, several blanks, or blanks at the ends. A lenient reader takes these": none of them makes a difference. 'A' to 'Z' are 65 to 90, their small letters 32 more, and a blank is 32
pub record BlanksAndCapitalsForgiven : Type 0 where
  pub capitals : (a b : List ℕ) (c : ℕ) → 65 ≤ c → c ≤ 90 → lenient_meaning (a ++ c ∷ b) ≡ lenient_meaning (a ++ (c + 32) ∷ b)
  pub several : (a b : List ℕ) → length (a ++ 32 ∷ b) < 2000 → lenient_meaning (a ++ 32 ∷ 32 ∷ b) ≡ lenient_meaning (a ++ 32 ∷ b)
  pub before : (x : List ℕ) → length x < 2000 → lenient_meaning (32 ∷ x) ≡ lenient_meaning x
  -- "A line of three fields means an empty sample field", before which document 01's line has a blank
  pub behind : (x : List ℕ) → length x < 2000 → lenient_meaning (x ++ 32 ∷ []) ≡ lenient_meaning x
  -- "the length of 2,000 counted before"
  pub too_long : (x : List ℕ) → 2000 < length x → lenient_meaning x ≡ None

pub record OneSpelling : Type 0 where
  -- "Two lines that the reader takes have equal meaning exactly when the writer gives them equal bytes"
  pub equal_bytes : (x y : List ℕ) (f g : Fields) → lenient_meaning x ≡ Some f → lenient_meaning y ≡ Some g → f ≡ g → spelling f ≡ spelling g
  pub equal_meaning : (x y : List ℕ) (f g : Fields) → lenient_meaning x ≡ Some f → lenient_meaning y ≡ Some g → spelling f ≡ spelling g → f ≡ g
  -- what is written is taken again, for the same, "and writing twice changes nothing"
  pub taken_again : (x : List ℕ) (f : Fields) → lenient_meaning x ≡ Some f → lenient_meaning (spelling f) ≡ Some f
  pub written_twice : (x : List ℕ) (f g : Fields) → lenient_meaning x ≡ Some f → lenient_meaning (spelling f) ≡ Some g → spelling g ≡ spelling f
  -- document 01's reader takes it too, for the same; and what that takes is its own spelling, and means the same to the lenient reader
  pub strictly_taken : (x : List ℕ) (f : Fields) → lenient_meaning x ≡ Some f → meaning (spelling f) ≡ Some f
  pub own_spelling : (x : List ℕ) (f : Fields) → meaning x ≡ Some f → spelling f ≡ x
  pub leniently_taken : (x : List ℕ) (f : Fields) → meaning x ≡ Some f → lenient_meaning x ≡ Some f
  -- "A line over 2,000 characters is malformed": no spelling is one
  pub short : (x : List ℕ) (f : Fields) → lenient_meaning x ≡ Some f → length (spelling f) ≤ 2000
