-- Samples as devices give them, and the frame that they mean: the channels one after another, on the 16-bit scale. Definitions only.
use Rattle.std.specs.Prelude.{Bool, true, false, List, [], ◌++◌, map, ℕ, zero, suc, ◌+◌, ◌*◌, ◌/◌, leb, ℤ, pos, Float, length, get_or, drop}
use Rattle.std.specs.Float.{binary32}
use Rattle.std.specs.Float.Ieee.{of_int, mul}
use Rattle.numbers.specs.Listed.{listed}

-- so many samples of each channel, of interleaved ones: some at the end may be too few for another moment
abbrev pub moments : ℕ → List ℤ → ℕ
moments channels samples = length samples / channels

-- interleaved are the samples of a moment, channel after channel, and then those of the next: one channel's, at so many moments. A whole number of 16 bits is a float
abbrev pub channel_of : ℕ → ℕ → List ℤ → ℕ → List Float
channel_of channels n samples channel = listed (λ (i : ℕ). of_int binary32 (get_or samples (i * channels + channel) (pos 0))) n

-- so many lists, one after another
unfoldable pub joined : (ℕ → List Float) → ℕ → List Float
joined f zero = []
joined f (suc n) = joined f n ++ f n

abbrev pub interleaved_frame : ℕ → List ℤ → List Float
interleaved_frame channels samples = joined (channel_of channels (moments channels samples) samples) channels

-- 32,768 as a float
abbrev pub full_scale : Float
full_scale = of_int binary32 (pos 32768)

-- "a sample of ±1.0 scale is multiplied by 32,768"
abbrev pub scaled : Float → Float
scaled x = mul binary32 x full_scale

abbrev pub unit_frame : List Float → List Float
unit_frame samples = map scaled samples

-- a frame at the beginning of a lent slice, if it has room for all of it
abbrev pub laid_if : Bool → List Float → List Float → List Float
laid_if true frame before = frame ++ drop (length frame) before
laid_if false frame before = before

abbrev pub laid : List Float → List Float → List Float
laid frame before = laid_if (leb (length frame) (length before)) frame before
