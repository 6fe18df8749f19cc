-- The answers to a stream that comes in pieces of any size. That pieces give what the whole text gives is proofs/Whole.antt. Definitions only.
use Rattle.std.specs.Prelude.{◌≡◌, Bool, true, false, List, [], ◌∷◌, ◌++◌, ℕ, zero, suc, ◌/◌, length, take}
use Rattle.input_volume_controller.specs.Controller.{Controller}
use Rattle.input_volume_controller.specs.Controller as Controller
use Rattle.frame_lines.specs.declared.answer.Text.{Text}
use Rattle.frame_lines.specs.Answer.{longest, held, laid}
use Rattle.frame_lines.specs.Lines.{is_feed}
use Rattle.frame_lines.specs.Stream.{cut, ended, begun, last_line}
use Rattle.frame_lines.specs.Feeds.{kept}
use Rattle.frame_lines.specs.Feeds as Begun
use Rattle.frame_answers.specs.declared.stream.Stream.{Stream}
use Rattle.frame_answers.specs.declared.stream.Fed.{Fed}
use Rattle.frame_answers.specs.declared.stream.Ended.{Ended}
use Rattle.frame_answers.specs.LineStep.{LineStep, line_step}
use Rattle.frame_answers.specs.Texts.{after_lines, text_of_lines, start_controller}
use Rattle.frame_answers.specs.Answered.{reply_says}

-- ---- a stream

-- the controller, and what is kept of the line that goes on
pub record State : Type 0 where
  pub controller : Controller
  pub kept : List ℕ

abbrev pub view_of : Stream → State
view_of s = record { controller = Controller.view_of s.controller; kept = kept s.begun }

-- good order: no line ends in what is kept
pub record Good (s : Stream) : Type 0 where
  pub controller : Controller.Good s.controller
  pub begun : Begun.Good s.begun
  pub unended : ended (kept s.begun) ≡ []

-- what a call hands back: the stream that the definition says, in good order
pub record Becomes (said : State) (r : Stream) : Type 0 where
  pub good : Good r
  pub is : view_of r ≡ said

abbrev pub fresh_state : State
fresh_state = record { controller = start_controller; kept = [] }

-- ---- a piece: it ends some lines, the first of them begun before, and begins another

abbrev pub ended_by : State → List ℕ → List (List ℕ)
ended_by s piece = ended (s.kept ++ piece)

-- the answers to the lines that it ends
unfoldable pub text_of_piece : State → List ℕ → List ℕ
text_of_piece s piece = text_of_lines s.controller (ended_by s piece)

unfoldable pub after_piece : State → List ℕ → State
after_piece s piece = record { controller = after_lines s.controller (ended_by s piece); kept = cut (begun (s.kept ++ piece)) }

-- when all pieces have come: "Lines end with a line feed, which the last may lack"
unfoldable pub finished_text : State → List ℕ
finished_text s = text_of_lines s.controller (last_line s.kept)

-- all pieces
unfoldable pub text_of_pieces : State → List (List ℕ) → List ℕ
text_of_pieces s [] = finished_text s
text_of_pieces s (piece ∷ pieces) = text_of_piece s piece ++ text_of_pieces (after_piece s piece) pieces

-- ---- how much of a piece is used

-- behind a byte with room for n + 1 answers there is room for
abbrev pub room_behind : Bool → ℕ → ℕ
room_behind true n = n
room_behind false n = suc n

-- as much of a piece as ends n lines, or all of it: with room for no answer nothing is used
unfoldable pub up_to : List ℕ → ℕ → List ℕ
up_to [] room = []
up_to (b ∷ piece) zero = []
up_to (b ∷ piece) (suc n) = b ∷ up_to piece (room_behind (is_feed b) n)

-- so many answers surely have room in n bytes
abbrev pub room_in : ℕ → ℕ
room_in n = n / longest

abbrev pub used_of : List ℕ → List ℕ → List ℕ
used_of out piece = up_to piece (room_in (length out))

-- ---- what the contracts of `stream` say

pub record FedAs (self : State) (piece before after : List ℕ) (r : Fed) : Type 0 where
  pub stream : Becomes (after_piece self (used_of before piece)) r.stream
  pub used : r.used ≡ length (used_of before piece)
  pub written : r.written ≡ length (text_of_piece self (used_of before piece))
  pub out : after ≡ laid (text_of_piece self (used_of before piece)) before

-- what the private function says of a line's end
abbrev pub line_ended : State → List ℕ → LineStep
line_ended s part = line_step s.controller (s.kept ++ part)

pub record EndedAs (self : State) (part : List ℕ) (r : Ended) : Type 0 where
  pub stream : Becomes (record { controller = (line_ended self part).state; kept = [] }) r.stream
  pub reply : reply_says r.reply ≡ (line_ended self part).answer

-- ---- a run of the code, by the contracts of `feed` and `finish`: the text that was used of all pieces, and all bytes that were put

pub data Run : Stream → List ℕ → List ℕ → Type 0 where
  -- the pieces have all come
  ends : {s : Stream} (r : Text) → r ≡ held (finished_text (view_of s)) → Run s [] (take r.length r.bytes)
  -- a piece of any length, with a slice of any length for the answers; what is not used of it may come again
  feeds : {s : Stream} {rest bytes : List ℕ} (piece before after : List ℕ) (r : Fed) → FedAs (view_of s) piece before after r → Run r.stream rest bytes
      → Run s (take r.used piece ++ rest) (take r.written after ++ bytes)
