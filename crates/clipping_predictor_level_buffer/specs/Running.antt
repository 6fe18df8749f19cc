-- How far a measurement has come: what the private functions of `level` say of it. Definitions only.
use Rattle.std.specs.Prelude.{◌≡◌, Bool, ℕ, ◌+◌, ◌*◌, ◌^◌, ◌≤◌, max, pos, Float, take}
use mathlib.Core.List.{List, map, foldl}
use Rattle.std.specs.Float.{binary32}
use Rattle.std.specs.Float.Ieee.{of_bits, of_int, add, div, lt}
use Rattle.levels.specs.FloatParts.{magnitude_bits_of}
use Rattle.clipping_predictor_level_buffer.specs.declared.level.Running.{Running}
use Rattle.clipping_predictor_level_buffer.specs.declared.level.Peaks.{Peaks}
use Rattle.clipping_predictor_level_buffer.specs.declared.level.Taking.{Taking}
use Rattle.clipping_predictor_level_buffer.specs.declared.level.Level.{Level}
use Rattle.clipping_predictor_level_buffer.specs.Statistics.{sum, larger}
use Rattle.clipping_predictor_level_buffer.specs.Clipped.{count_of, clipped_in}
use Rattle.clipping_predictor_level_buffer.specs.Level.{square_of}

-- the largest of the magnitudes' bits, from 0
unfoldable pub peak_bits : List Float → ℕ
peak_bits xs = foldl max 0 (map magnitude_bits_of xs)

-- p are the bits of x, which is a number and not negative: the bits of infinity are the most
pub record Stands (p : ℕ) (x : Float) : Type 0 where
  pub is : of_bits binary32 p ≡ x
  pub within : p ≤ 255 * 2 ^ 23

-- a sample without its sign: a not-a-number counts as 0
abbrev pub magnitude_from : Float → Float
magnitude_from x = of_bits binary32 (magnitude_bits_of x)

-- a peak with one sample more
abbrev pub with_sample : Float → Float → Float
with_sample p x = larger p (magnitude_from x)

-- the peak that is kept in four parts
abbrev pub largest_part : Peaks → Float
largest_part p = larger (larger p.w p.x) (larger p.y p.z)

-- the parts with four samples more
abbrev pub with_four : Peaks → Float → Float → Float → Float → Peaks
with_four p w x y z = record { w = with_sample p.w w; x = with_sample p.x x; y = with_sample p.y y; z = with_sample p.z z }

-- a sample's magnitude lies below the end of the scale
abbrev pub is_below : Float → Bool
is_below x = lt (magnitude_from x) (of_int binary32 (pos 32767))

-- a count with four samples more
abbrev pub counting_four : ℕ → Float → Float → Float → Float → ℕ
counting_four n w x y z = n + count_of w + count_of x + count_of y + count_of z

-- "squares are summed .. in sample order"
abbrev pub plus_square : Float → Float → Float
plus_square s x = add binary32 s (square_of x)

-- a measurement with four samples more
abbrev pub four_taken : Taking → Float → Float → Float → Float → Taking
four_taken t w x y z = record {
  sum = plus_square (plus_square (plus_square (plus_square t.sum w) x) y) z;
  peaks = with_four t.peaks w x y z;
  clipped = counting_four t.clipped w x y z;
}

-- the parts of its peak as one
abbrev pub running_of : Taking → Running
running_of t = record { sum = t.sum; peak = largest_part t.peaks; clipped = t.clipped }

-- the level that a measurement of n samples gives
abbrev pub level_from : Running → ℕ → Level
level_from r n = record { average = div binary32 r.sum (of_int binary32 (pos n)); max = r.peak; clipped = r.clipped }

-- the samples before a place have r's sum, peak and count
pub record Reached (samples : List Float) (at : ℕ) (r : Running) : Type 0 where
  pub sum_is : r.sum ≡ sum (map square_of (take at samples))
  pub peak_is : Stands (peak_bits (take at samples)) r.peak
  pub clipped_is : r.clipped ≡ clipped_in (take at samples)

-- all samples have r's sum, peak and count
pub record Passed (samples : List Float) (r : Running) : Type 0 where
  pub sum_is : r.sum ≡ sum (map square_of samples)
  pub peak_is : Stands (peak_bits samples) r.peak
  pub clipped_is : r.clipped ≡ clipped_in samples
