-- Document 02, (vii): "Lines typed by hand arrive with capitals, several blanks, or blanks at the ends. A lenient reader takes these". A blank is the space alone. Definitions only.
use Rattle.std.specs.Prelude.{Bool, true, false, ◌&&◌, not, List, [], ◌∷◌, ◌++◌, map, ℕ, ◌+◌, leb, eqb, length, Option, None}
use Rattle.frame_lines.specs.Line.{most_characters, Fields, meaning}

-- ---- capitals

-- 'A' to 'Z'
abbrev pub is_capital : ℕ → Bool
is_capital c = leb 65 c && leb c 90

abbrev pub lowered_if : Bool → ℕ → ℕ
lowered_if true c = c + 32
lowered_if false c = c

-- the small letter of a capital; every other character is itself
unfoldable pub lowered : ℕ → ℕ
lowered c = lowered_if (is_capital c) c

-- ---- blanks

abbrev pub is_space : ℕ → Bool
is_space c = eqb c 32

abbrev pub begins_field : List ℕ → Bool
begins_field [] = false
begins_field (c ∷ text) = not (is_space c)

-- a character before a text, of which the fields are given: a blank is in none, and any other goes on with a field that the text begins with, or is one
abbrev pub field_if : Bool → Bool → ℕ → List (List ℕ) → List (List ℕ)
field_if true begins c fields = fields
field_if false false c fields = (c ∷ []) ∷ fields
field_if false true c [] = (c ∷ []) ∷ []
field_if false true c (field ∷ fields) = (c ∷ field) ∷ fields

-- the fields of a line: what stands between blanks, however many these are
unfoldable pub fields_in : List ℕ → List (List ℕ)
fields_in [] = []
fields_in (c ∷ line) = field_if (is_space c) (begins_field line) c (fields_in line)

-- document 01: "one blank between fields, also before an empty sample field"
unfoldable pub spaced : List (List ℕ) → List ℕ
spaced [] = []
spaced (field ∷ []) = field
spaced (field ∷ next ∷ fields) = field ++ 32 ∷ spaced (next ∷ fields)

-- "A line of three fields means an empty sample field."
abbrev pub with_samples : List (List ℕ) → List (List ℕ)
with_samples [] = []
with_samples (a ∷ []) = a ∷ []
with_samples (a ∷ b ∷ []) = a ∷ b ∷ []
with_samples (a ∷ b ∷ c ∷ []) = a ∷ b ∷ c ∷ [] ∷ []
with_samples (a ∷ b ∷ c ∷ d ∷ fields) = a ∷ b ∷ c ∷ d ∷ fields

-- a line after "such blanks and capitals are forgiven"
unfoldable pub forgiven : List ℕ → List ℕ
forgiven line = map lowered (spaced (with_samples (fields_in line)))

-- ---- the lenient reader

abbrev pub lenient_if : Bool → List ℕ → Option Fields
lenient_if true line = meaning (forgiven line)
lenient_if false line = None

-- "It refuses with 12 what is malformed after such blanks and capitals are forgiven, the length of 2,000 counted before."
unfoldable pub lenient_meaning : List ℕ → Option Fields
lenient_meaning line = lenient_if (leb (length line) most_characters) line
