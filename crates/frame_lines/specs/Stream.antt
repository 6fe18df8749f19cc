-- The lines of a stream that comes in pieces of any size. A piece ends some lines and begins another, of which only so much is kept as tells that it is too long: "A line over 2,000 characters is malformed",
-- however long. That pieces give the lines of the whole is proofs/Pieces.antt. Definitions only.
use Rattle.std.specs.Prelude.{Bool, true, false, List, [], ◌∷◌, ◌++◌, ℕ, take}
use Rattle.frame_lines.specs.Lines.{is_feed}

-- so many characters of a line are kept: one more than the longest line has
abbrev pub kept_characters : ℕ
kept_characters = 2001

-- a line as far as it is kept
abbrev pub cut : List ℕ → List ℕ
cut line = take kept_characters line

-- ---- one piece

abbrev pub ended_if : Bool → ℕ → List (List ℕ) → List (List ℕ)
ended_if true b lines = [] ∷ lines
ended_if false b [] = []
ended_if false b (line ∷ lines) = (b ∷ line) ∷ lines

-- the lines of a text that a line feed ends
unfoldable pub ended : List ℕ → List (List ℕ)
ended [] = []
ended (b ∷ text) = ended_if (is_feed b) b (ended text)

abbrev pub begun_if : Bool → ℕ → List (List ℕ) → List ℕ → List ℕ
begun_if true b lines begins = begins
begun_if false b [] begins = b ∷ begins
begun_if false b (line ∷ lines) begins = begins

-- what stands behind its last line feed
unfoldable pub begun : List ℕ → List ℕ
begun [] = []
begun (b ∷ text) = begun_if (is_feed b) b (ended text) (begun text)

-- what is left when all pieces have come: a last line that lacks its line feed, if there is anything of it
abbrev pub last_line : List ℕ → List (List ℕ)
last_line [] = []
last_line (b ∷ line) = (b ∷ line) ∷ []

-- ---- all pieces

-- the lines that pieces hand on, where `kept` was kept of a line that began before them
unfoldable pub handed_on : List ℕ → List (List ℕ) → List (List ℕ)
handed_on kept [] = last_line kept
handed_on kept (piece ∷ pieces) = ended (kept ++ piece) ++ handed_on (cut (begun (kept ++ piece))) pieces
