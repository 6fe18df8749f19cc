-- Document 02, (vii), as a program: each line is answered with its base spelling, or with `! 12`; a line feed ends the answer. Definitions only.
use Rattle.std.specs.Prelude.{◌≡◌, Bool, true, false, ℕ, suc, ◌+◌, ◌-◌, ◌≤◌, leb, length, take, drop, Option, None, Some}
use mathlib.Core.List.{List, [], ◌∷◌, ◌++◌, map, flatten}
use Rattle.numbers.specs.declared.refusal.Refusal.TheVariants.{FrameLine}
use Rattle.numbers.specs.Refusal.{number_of}
use Rattle.frame_lines.specs.declared.lines.Begun.{Begun}
use Rattle.frame_lines.specs.declared.respelling.Fed.{Fed}
use Rattle.frame_lines.specs.declared.respelling.Whole.{Whole}
use Rattle.frame_lines.specs.Line.{Fields}
use Rattle.frame_lines.specs.Answer.{number_text}
use Rattle.frame_lines.specs.Lines.{lines_of}
use Rattle.frame_lines.specs.Stream.{cut, ended, begun, last_line}
use Rattle.frame_lines.specs.Search.{first_of}
use Rattle.frame_lines.specs.Feeds.{kept, GoodBeginning}
use Rattle.frame_lines.specs.Forgiven.{lenient_meaning}
use Rattle.frame_lines.specs.Spelling.{spelling}

-- "It refuses with 12", and "a writer gives the base spelling"
unfoldable pub respelled_text : Option Fields → List ℕ
respelled_text None = number_text (number_of FrameLine)
respelled_text (Some f) = spelling f ++ 10 ∷ []

abbrev pub text_of_line : List ℕ → List ℕ
text_of_line line = respelled_text (lenient_meaning line)

abbrev pub text_of_lines : List (List ℕ) → List ℕ
text_of_lines lines = flatten (map text_of_line lines)

-- what the program writes, of what it reads
unfoldable pub respelled_of : List ℕ → List ℕ
respelled_of text = text_of_lines (lines_of text)

-- ---- what the contracts of `respelling` say

-- the most bytes that an answer has
abbrev pub longest_respelling : ℕ
longest_respelling = 2001

-- answers at the beginning of a slice that held `before`. Where one is put, what follows it is left free as far as the longest goes: a line was tried there. What lies behind that is as it was
pub record AnswersIn (text before after : List ℕ) (written : ℕ) : Type 0 where
  pub written_is : written ≡ length text
  pub text_is : take written after ≡ text
  pub rest_is : drop (written + longest_respelling) after ≡ drop (written + longest_respelling) before
  pub none_is : text ≡ [] → after ≡ before

abbrev pub has_room : ℕ → Bool
has_room room = leb longest_respelling room

abbrev pub used_if : Bool → ℕ → ℕ
used_if true n = n
used_if false n = 0

-- how much is used of a piece that ends some lines and then begins another: one line after the other, as long as there is room for the longest answer
unfoldable pub used_from : ℕ → List (List ℕ) → List ℕ → ℕ
used_from room [] rest = used_if (has_room room) (length rest)
used_from room (line ∷ lines) rest = used_if (has_room room) (suc (length line) + used_from (room - length (text_of_line line)) lines rest)

-- a piece up to its first line feed, or all of it
abbrev pub up_to_feed : Option ℕ → List ℕ → ℕ
up_to_feed None piece = length piece
up_to_feed (Some n) piece = suc n

-- of a line that began before, its end alone
abbrev pub used_of : List ℕ → List ℕ → List ℕ → ℕ
used_of [] piece out = used_from (length out) (ended piece) (begun piece)
used_of (b ∷ k) piece out = used_if (has_room (length out)) (up_to_feed (first_of 10 piece) piece)

-- the lines that end in what is used are answered, and what is left of it is kept
pub record FedAs (k piece before after : List ℕ) (r : Fed) : Type 0 where
  pub used_is : r.used ≡ used_of k piece before
  pub within : r.used ≤ length piece
  pub good : GoodBeginning r.begun
  pub kept_is : kept r.begun ≡ cut (begun (k ++ take r.used piece))
  pub answers : AnswersIn (text_of_lines (ended (k ++ take r.used piece))) before after r.written

abbrev pub finished_if : Bool → List ℕ → List (List ℕ)
finished_if true k = last_line k
finished_if false k = []

-- "Lines end with a line feed, which the last may lack": with room for its answer, that of a last line
abbrev pub finished_text : List ℕ → List ℕ → List ℕ
finished_text k out = text_of_lines (finished_if (has_room (length out)) k)

-- what the private function says of lines that lie within a piece: no more is used than ends some, and behind that there is no room for another, or no other line ends
pub record WholeAs (piece before after : List ℕ) (r : Whole) : Type 0 where
  pub within : r.used ≤ length piece
  pub begins : begun (take r.used piece) ≡ []
  pub answers : AnswersIn (text_of_lines (ended (take r.used piece))) before after r.written
  pub fits : r.written ≤ length before
  pub used_is : used_of [] piece before ≡ r.used + used_from (length before - r.written) (ended (drop r.used piece)) (begun (drop r.used piece))
  pub stops : longest_respelling ≤ length before - r.written → ended (drop r.used piece) ≡ []

-- ---- a run of the code, by the contracts of `feed` and `finish`: the text that was used of all pieces, and all bytes that were put

pub data Run : Begun → List ℕ → List ℕ → Type 0 where
  -- the pieces have all come, and there is room for an answer
  ends : {p : Begun} (before after : List ℕ) (r : ℕ) → longest_respelling ≤ length before → AnswersIn (finished_text (kept p) before) before after r → Run p [] (take r after)
  -- a piece of any length, with a slice of any length for the answers; what is not used of it may come again
  feeds : {p : Begun} {rest bytes : List ℕ} (piece before after : List ℕ) (r : Fed) → FedAs (kept p) piece before after r → Run r.begun rest bytes
      → Run p (take r.used piece ++ rest) (take r.written after ++ bytes)
