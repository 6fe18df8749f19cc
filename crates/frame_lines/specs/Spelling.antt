-- Document 02, (vii): "a writer gives the base spelling": the line of document 01's grammar that has a meaning. Definitions only.
use Rattle.std.specs.Prelude.{List, [], ◌∷◌, ◌++◌, ℕ, suc, ◌-◌, ◌^◌, ℤ, pos, negsuc, Option, None, Some}
use Rattle.frame_lines.specs.Line.{Fields}
use Rattle.frame_lines.specs.Answer.{digits_of}
use Rattle.frame_lines.specs.Forgiven.{spaced}

-- "signed 16-bit, two's complement": the number whose digits a sample is written with
abbrev pub unsigned16 : ℤ → ℕ
unsigned16 (pos n) = n
unsigned16 (negsuc n) = 2 ^ 16 - suc n

-- "samples (4 each .., no gaps)"
unfoldable pub samples_text : List ℤ → List ℕ
samples_text [] = []
samples_text (x ∷ samples) = digits_of 4 (unsigned16 x) ++ samples_text samples

-- "speech level (8, float bits, or `-`)"; a dash is 45
unfoldable pub level_text : Option ℕ → List ℕ
level_text None = 45 ∷ []
level_text (Some bits) = digits_of 8 bits

-- "volume (2 hexadecimal digits ..), speech probability (8, float bits), speech level .., samples .."
unfoldable pub spelling : Fields → List ℕ
spelling f = spaced (digits_of 2 f.volume ∷ digits_of 8 f.probability ∷ level_text f.level ∷ samples_text f.samples ∷ [])
