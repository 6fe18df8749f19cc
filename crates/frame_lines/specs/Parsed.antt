-- What `parse` hands out of a line's meaning: floats in place of their bits, samples as floats "on the 16-bit scale" (document 01, "Levels"). Definitions only.
use Rattle.std.specs.Prelude.{◌≡◌, Bool, true, false, Option, Some, None, List, [], ◌∷◌, map, ℕ, Float, ℤ, length}
use Rattle.std.specs.Float.{binary32}
use Rattle.std.specs.Float.Ieee.{of_bits, of_int}
use Rattle.frame_lines.specs.declared.line.Frame.{Frame}
use Rattle.frame_lines.specs.Samples.{samples_in}
use Rattle.frame_lines.specs.Line.{Fields, is_framed, sample_text, meaning}

-- the bits of any not-a-number are the one not-a-number
abbrev pub float_of : ℕ → Float
float_of bits = of_bits binary32 bits

abbrev pub speech_level_of : Option ℕ → Option Float
speech_level_of None = None
speech_level_of (Some bits) = Some (float_of bits)

-- a meaning, with the number of its samples in their place: they are lent
abbrev pub frame_of : Fields → Frame
frame_of f = record { volume = f.volume; probability = float_of f.probability; level = speech_level_of f.level; count = length f.samples }

abbrev pub parsed_of : Option Fields → Option Frame
parsed_of None = None
parsed_of (Some f) = Some (frame_of f)

abbrev pub sample_of : ℤ → Float
sample_of x = of_int binary32 x

abbrev pub read_if : Bool → List ℕ → List ℤ
read_if true line = samples_in (sample_text line)
read_if false line = []

-- the samples that are read of a line: those of a malformed one as far as they go, and none where its other fields are malformed
unfoldable pub samples_read : List ℕ → List Float
samples_read line = map sample_of (read_if (is_framed line) line)

-- xs in place of the first of ys, as far as there are any
unfoldable pub over : List Float → List Float → List Float
over [] ys = ys
over (x ∷ xs) [] = []
over (x ∷ xs) (y ∷ ys) = x ∷ over xs ys

-- the answer to a line, and what a lent slice holds afterwards that held `before`
pub record ParsedAs (line : List ℕ) (before after : List Float) (r : Option Frame) : Type 0 where
  pub answer_is : r ≡ parsed_of (meaning line)
  pub lent_is : after ≡ over (samples_read line) before
