-- A text as one number, as the machine reads it: how `digits` takes four characters at once. Definitions only.
use Rattle.std.specs.Prelude.{List, [], ◌∷◌, ℕ, ◌+◌, ◌*◌}

-- the number whose bytes are the characters, the first the lowest
unfoldable pub word_of : List ℕ → ℕ
word_of [] = 0
word_of (c ∷ text) = word_of text * 256 + c
