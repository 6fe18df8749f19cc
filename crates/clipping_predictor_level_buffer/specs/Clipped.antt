-- Document 02 (xi): "the number of clipped samples of that frame and channel". Document 01, "All channels": "clipped is ≥ 32767 or ≤ -32768." Definitions only.
use Rattle.std.specs.Prelude.{Bool, true, false, ◌||◌, ℕ, ◌+◌, pos, negsuc, Float}
use mathlib.Core.List.{List, map, foldl}
use Rattle.std.specs.Float.{binary32}
use Rattle.std.specs.Float.Ieee.{le, of_int}

-- "clipped is ≥ 32767 or ≤ -32768": an infinity is, and a not-a-number is in no order
unfoldable pub is_clipped : Float → Bool
is_clipped x = le (of_int binary32 (pos 32767)) x || le x (of_int binary32 (negsuc 32767))

abbrev pub one_if : Bool → ℕ
one_if true = 1
one_if false = 0

unfoldable pub count_of : Float → ℕ
unfolding is_clipped
count_of x = one_if (is_clipped x)

-- all counts together
unfoldable pub total : List ℕ → ℕ
total counts = foldl ◌+◌ 0 counts

-- "the number of clipped samples" of one channel
unfoldable pub clipped_in : List Float → ℕ
clipped_in samples = total (map count_of samples)
