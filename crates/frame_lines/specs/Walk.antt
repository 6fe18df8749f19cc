-- How a line is walked from field to field: what the functions of `spelling` say. Definitions only.
use Rattle.std.specs.Prelude.{◌≡◌, Bool, true, false, Result, Ok, Err, List, [], ◌∷◌, ◌++◌, map, ℕ, ◌-◌, ◌≤◌, ◌<◌, leb, ltb, eqb, length, take, drop, Option, None, Some}
use Rattle.frame_lines.specs.declared.spelling.Unspelled.{Unspelled}
use Rattle.frame_lines.specs.declared.spelling.Unspelled.TheVariants.{Malformed, NoRoom}
use Rattle.frame_lines.specs.declared.spelling.Walked.{Walked}
use Rattle.frame_lines.specs.Line.{most_characters, part, Fields}
use Rattle.frame_lines.specs.Answer.{laid}
use Rattle.frame_lines.specs.Forgiven.{lowered, begins_field, fields_in, lenient_meaning}
use Rattle.frame_lines.specs.Spelling.{spelling}

-- ---- the private functions

-- from `at` on there are blanks, and then a field at r, or the end
pub record FieldBehind (line : List ℕ) (at r : ℕ) : Type 0 where
  pub within : (at ≤ r) × (r ≤ length line)
  pub same : fields_in (drop r line) ≡ fields_in (drop at line)
  pub begins : r < length line → begins_field (drop r line) ≡ true

-- a field that begins at `at` ends before r
pub record FieldTo (line : List ℕ) (at r : ℕ) : Type 0 where
  pub within : (at ≤ r) × (r ≤ length line)
  pub field : begins_field (drop at line) ≡ true → (at < r) × (fields_in (drop at line) ≡ part line at (r - at) ∷ fields_in (drop r line))

-- fields with a blank behind each
unfoldable pub closed : List (List ℕ) → List ℕ
closed [] = []
closed (field ∷ fields) = field ++ 32 ∷ closed fields

abbrev pub walked_text : List ℕ → List ℕ
walked_text line = map lowered (closed (fields_in line))

pub record WalkedAs (line before after : List ℕ) (r : Walked) : Type 0 where
  pub count_is : r.count ≡ length (fields_in line)
  pub length_is : r.length ≡ length (walked_text line)
  pub out_is : after ≡ laid (walked_text line) before

abbrev pub length_if : Bool → ℕ → ℕ
length_if true n = n
length_if false n = n - 1

-- so many of n bytes of `closed` fields are the line: without the last blank, but where it stands before an empty sample field
abbrev pub forgiven_length : ℕ → ℕ → ℕ
forgiven_length count n = length_if (eqb count 3) n

-- ---- a line

abbrev pub taken_if : Option Fields → Result ℕ Unspelled
taken_if None = Err Malformed
taken_if (Some f) = Ok (length (spelling f))

-- whether the line is short enough, and whether the slice is longer than it
abbrev pub respelled_if : Bool → Bool → List ℕ → Result ℕ Unspelled
respelled_if false room line = Err Malformed
respelled_if true false line = Err NoRoom
respelled_if true true line = taken_if (lenient_meaning line)

abbrev pub tried_if : Bool → Bool → List ℕ → List ℕ
tried_if false room line = []
tried_if true false line = []
tried_if true true line = walked_text line

-- the answer to a line, and what a lent slice holds afterwards that held `before`: the fields of a line that is tried, and of one that is taken first of all the spelling
pub record RespelledAs (line before after : List ℕ) (r : Result ℕ Unspelled) : Type 0 where
  pub answer_is : r ≡ respelled_if (leb (length line) most_characters) (ltb (length line) (length before)) line
  pub lent_is : after ≡ laid (tried_if (leb (length line) most_characters) (ltb (length line) (length before)) line) before
  pub spelled : (f : Fields) (n : ℕ) → lenient_meaning line ≡ Some f → r ≡ Ok n → take n after ≡ spelling f
