-- Document 01, "All channels": "Ratio = most clipped samples in a channel / samples per channel". Definitions only.
use Rattle.std.specs.Prelude.{List, ℕ, pos, Float}
use Rattle.std.specs.Float.{binary32}
use Rattle.std.specs.Float.Ieee.{div, of_int}
use Rattle.clipping_predictor.specs.MostClipped.{most_clipped}

-- the ratio is one rounded division
abbrev pub ratio_of : ℕ → ℕ → Float
ratio_of most samples = div binary32 (of_int binary32 (pos most)) (of_int binary32 (pos samples))

unfoldable pub clipped_ratio_of : ℕ → ℕ → List Float → Float
clipped_ratio_of channels samples frame = ratio_of (most_clipped channels samples frame) samples
