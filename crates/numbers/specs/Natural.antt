-- A signed number that must lie in a range of natural numbers, or be at least one of them. Definitions only.
use Rattle.std.specs.Prelude.{ℕ, Bool, true, false, ◌&&◌, leb, ℤ, pos, negsuc, None, Option, Some}

abbrev pub number_if : Bool → ℕ → Option ℕ
number_if true n = Some n
number_if false n = None

-- x, where it lies from low to high
unfoldable pub within_of : ℕ → ℕ → ℤ → Option ℕ
within_of low high (pos n) = number_if (leb low n && leb n high) n
within_of low high (negsuc n) = None

-- x, where it is at least low
unfoldable pub at_least_of : ℕ → ℤ → Option ℕ
at_least_of low (pos n) = number_if (leb low n) n
at_least_of low (negsuc n) = None
