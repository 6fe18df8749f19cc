-- Where a byte stands in a text: what `search` says. Definitions only.
use Rattle.std.specs.Prelude.{Bool, true, false, Option, Some, None, List, [], ◌∷◌, ℕ, suc, ◌+◌, eqb, drop}

abbrev pub behind_if : Option ℕ → Option ℕ
behind_if None = None
behind_if (Some n) = Some (suc n)

abbrev pub here_if : Bool → Option ℕ → Option ℕ
here_if true later = Some 0
here_if false later = behind_if later

-- how many bytes stand before the first that is the wanted
unfoldable pub first_of : ℕ → List ℕ → Option ℕ
first_of wanted [] = None
first_of wanted (b ∷ text) = here_if (eqb b wanted) (first_of wanted text)

abbrev pub place_from : ℕ → Option ℕ → Option ℕ
place_from start None = None
place_from start (Some n) = Some (start + n)

-- its place, from a place on
unfoldable pub place_of : ℕ → List ℕ → ℕ → Option ℕ
place_of wanted bytes start = place_from start (first_of wanted (drop start bytes))

-- the place of the first line feed from a place on
abbrev pub line_feed_from : List ℕ → ℕ → Option ℕ
line_feed_from bytes start = place_of 10 bytes start
