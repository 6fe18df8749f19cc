-- Document 01, "Volume steps and one channel": "rounded to whole with halves away from zero". Rust's `x.round() as i32`. Definitions only.
use Rattle.std.specs.Prelude.{ℕ, zero, suc, ◌+◌, ◌-◌, ◌*◌, ◌/◌, ◌^◌, min, ℤ, pos, Float}
use Rattle.std.specs.Float.{nan, inf, fin}
use Rattle.std.specs.Float.Ieee.{up, down}
use Rattle.numbers.specs.Sign.{signed}

-- a / c to the nearest whole number, halves up
unfoldable pub half_up : ℕ → ℕ → ℕ
half_up a c = (2 * a + c) / (2 * c)

-- A float to the nearest whole number, halves away from zero. A finite one is m * up e / down e in size; an infinity is held to the end of the range.
unfoldable pub round_of : Float → ℤ
unfolding signed half_up
round_of nan = pos 0
round_of (inf s) = signed s (2 ^ 31)
round_of (fin s m e) = signed s (half_up (m * up e) (down e))

-- ---- the same of the fields of a finite float: its significand, times 2 ^ (exponent - 1), over 2 ^ 149

unfoldable pub significand : ℕ → ℕ → ℕ
significand zero fraction = fraction
significand (suc x) fraction = 2 ^ 23 + fraction

unfoldable pub whole_part : ℕ → ℕ → ℕ
unfolding half_up significand
whole_part exponent fraction = min (half_up (significand exponent fraction * 2 ^ (exponent - 1)) (2 ^ 149)) (2 ^ 31)
