-- Document 01, "Volume steps and one channel": "Speech error: the speech level is either absent or a float. Absent means no error; not-a-number gives 0;
-- else hold it to -90 to 30, and above the maximum, else below the minimum, the error is target minus level, rounded to whole with halves away from zero." Definitions only.
use Rattle.std.specs.Prelude.{Bool, true, false, ℤ, pos, negsuc, ◌≤ℤ◌, Float, None, Option, Some}
use Rattle.std.specs.Float.{binary32}
use Rattle.std.specs.Float.Ieee.{lt, sub, of_int}
use Rattle.levels.specs.Rounding.{round_of}

-- the lowest and the highest level, -90 and 30, as whole numbers and as floats
abbrev pub lowest_db : ℤ
lowest_db = negsuc 89

abbrev pub highest_db : ℤ
highest_db = pos 30

abbrev pub lowest : Float
lowest = of_int binary32 lowest_db

abbrev pub highest : Float
highest = of_int binary32 highest_db

-- the good order of the targets: each is a level that can be reached, so that a float holds it exactly
pub record GoodTargets (min max : ℤ) : Type 0 where
  pub min_low : lowest_db ≤ℤ min
  pub min_high : min ≤ℤ highest_db
  pub max_low : lowest_db ≤ℤ max
  pub max_high : max ≤ℤ highest_db

-- "hold it to -90 to 30": a level that is too low, else too high, or neither
abbrev pub held_if : Bool → Bool → Float → Float
held_if true high level = lowest
held_if false true level = highest
held_if false false level = level

unfoldable pub held : Float → Float
held level = held_if (lt level lowest) (lt highest level) level

-- "above the maximum, else below the minimum, the error is target minus level": one rounded subtraction. No test holds of a not-a-number, so its error is 0.
abbrev pub error_if : Bool → Bool → Float → Float → Float → ℤ
error_if true below level min max = round_of (sub binary32 max level)
error_if false true level min max = round_of (sub binary32 min level)
error_if false false level min max = pos 0

unfoldable pub error_of : Float → ℤ → ℤ → ℤ
error_of level min max = error_if (lt (of_int binary32 max) level) (lt level (of_int binary32 min)) level (of_int binary32 min) (of_int binary32 max)

-- "Absent means no error": `get_speech_level_rms_error_db`
unfoldable pub rms_error_of : Option Float → ℤ → ℤ → Option ℤ
unfolding held error_of
rms_error_of None min max = None
rms_error_of (Some level) min max = Some (error_of (held level) min max)
