-- Document 01, "The frame-line program": "Lines end with a line feed, which the last may lack; a final line feed starts no line." The lines of a text of bytes, whatever a line is for. Definitions only.
use Rattle.std.specs.Prelude.{Bool, true, false, List, [], ◌∷◌, ℕ, eqb}

abbrev pub is_feed : ℕ → Bool
is_feed b = eqb b 10

-- a byte before a text, of which the lines are given: a line feed ends an empty line, and any other byte begins the first line
abbrev pub line_if : Bool → ℕ → List (List ℕ) → List (List ℕ)
line_if true b lines = [] ∷ lines
line_if false b [] = (b ∷ []) ∷ []
line_if false b (line ∷ lines) = (b ∷ line) ∷ lines

-- the lines of a text, without their line feeds
unfoldable pub lines_of : List ℕ → List (List ℕ)
lines_of [] = []
lines_of (b ∷ text) = line_if (is_feed b) b (lines_of text)
