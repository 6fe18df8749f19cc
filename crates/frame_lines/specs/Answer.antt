-- Document 01, "The frame-line program": "Output per line: volume in 2 digits, blank, `n` if near else `.`; or `!`, blank, the refusal number in decimal." A line feed ends it. Definitions only.
use Rattle.std.specs.Prelude.{◌≡◌, Bool, true, false, Result, Ok, Err, List, [], ◌∷◌, ◌++◌, ℕ, zero, suc, ◌+◌, ◌-◌, ◌/◌, ◌%◌, leb, ltb, length, take, drop, replicate}
use Rattle.numbers.specs.Refusal.{number_of}
use Rattle.numbers.specs.declared.refusal.Refusal.{Refusal}
use Rattle.frame_lines.specs.declared.answer.Recommended.{Recommended}
use Rattle.frame_lines.specs.declared.answer.Text.{Text}

-- '0' to '9', 'a' to 'f'
abbrev pub digit_character_if : Bool → ℕ → ℕ
digit_character_if true n = 48 + n
digit_character_if false n = 87 + n

unfoldable pub digit_character : ℕ → ℕ
digit_character n = digit_character_if (ltb n 10) n

-- "volume in 2 digits"
abbrev pub two_digits : ℕ → List ℕ
two_digits n = digit_character (n / 16) ∷ digit_character (n % 16) ∷ []

-- a number in so many digits, the last counting least
unfoldable pub digits_of : ℕ → ℕ → List ℕ
digits_of zero n = []
digits_of (suc k) n = digits_of k (n / 16) ++ digit_character (n % 16) ∷ []

-- "`n` if near else `.`"
abbrev pub mark : Bool → ℕ
mark true = 110
mark false = 46

-- a number below 100 "in decimal"
abbrev pub decimal_if : Bool → ℕ → List ℕ
decimal_if true n = (48 + n) ∷ []
decimal_if false n = (48 + n / 10) ∷ (48 + n % 10) ∷ []

unfoldable pub decimal : ℕ → List ℕ
decimal n = decimal_if (ltb n 10) n

-- the most bytes that an answer has
abbrev pub longest : ℕ
longest = 5

-- "volume in 2 digits, blank, `n` if near else `.`"; a blank is 32, a line feed 10
unfoldable pub volume_text : ℕ → Bool → List ℕ
volume_text volume near = two_digits volume ++ 32 ∷ mark near ∷ 10 ∷ []

-- "or `!`, blank, the refusal number in decimal"; a `!` is 33
unfoldable pub number_text : ℕ → List ℕ
number_text n = (33 ∷ 32 ∷ []) ++ decimal n ++ 10 ∷ []

-- what there is to say: a recommendation, or why the line is refused
abbrev pub Reply : Type 0
Reply = Result Recommended Refusal

unfoldable pub answer_of : Reply → List ℕ
answer_of (Ok r) = volume_text r.volume r.near
answer_of (Err cause) = number_text (number_of cause)

-- the text of an answer as a value: its bytes, and zeros behind them
abbrev pub held : List ℕ → Text
held text = record { bytes = text ++ replicate (longest - length text) 0; length = length text }

-- a text at the beginning of a slice
abbrev pub laid : List ℕ → List ℕ → List ℕ
laid text out = text ++ drop (length text) out

-- ---- an answer that is put from a place on, where there is room for the longest

abbrev pub has_room : ℕ → List ℕ → Bool
has_room at out = leb (at + longest) (length out)

abbrev pub behind_text : Bool → ℕ → List ℕ → ℕ
behind_text true at text = at + length text
behind_text false at text = at

abbrev pub with_text : Bool → ℕ → List ℕ → List ℕ → List ℕ
with_text true at text out = take at out ++ text ++ drop (at + length text) out
with_text false at text out = out

-- r is the place behind it, and what a lent slice holds afterwards that held `before`
pub record PutAs (text : List ℕ) (at : ℕ) (before after : List ℕ) (r : ℕ) : Type 0 where
  pub behind_is : r ≡ behind_text (has_room at before) at text
  pub out_is : after ≡ with_text (has_room at before) at text before
