-- Document 01, "Levels": d of a peak and h of a mean square, in thousandths of a dB, defined over whole numbers on the exact fraction. One function of the
-- power is both: `level_of 20000` is d, `level_of 10000` is h. Definitions only.
use Rattle.std.specs.Prelude.{ℕ, zero, suc, ◌+◌, ◌-◌, ◌*◌, ◌/◌, ◌^◌, ◌≡◌, Bool, true, false, leb, pos, negsuc, Float}
use Rattle.std.specs.Float.{nan, inf, fin}
use Rattle.std.specs.Float.Ieee.{up, down, size}
use Rattle.levels.specs.declared.decibels.Decibels.{Decibels}
use Rattle.levels.specs.declared.decibels.Decibels.TheVariants.{Finite, PlusInfinity, NotANumber}
use Rattle.levels.specs.Decibels.{plus, Bounded}

-- The first k binary digits after the point of the binary logarithm of x / 2 ^ 31, for an x from 2 ^ 31 up and below 2 ^ 32, read as a whole number.
-- The number is squared; b says whether the square is 2 or more, and is the next digit; the square, halved if so, goes on. Squares are cut to 31 places.
unfoldable pub digits : ℕ → ℕ → ℕ
digits zero x = 0
digits (suc k) x = let y = x * x / 2 ^ 31 in let b = y / 2 ^ 32 in b * 2 ^ k + digits k (y / 2 ^ b)

-- The binary logarithm of the fraction n / c, which is 1 or more, in 8192ths: its whole part w, and 13 digits after the point.
unfoldable pub logarithm : ℕ → ℕ → ℕ
unfolding digits size
logarithm n c = let w = size (n / c) - 1 in w * 2 ^ 13 + digits 13 (n * 2 ^ 31 / (c * 2 ^ w))

-- A decimal logarithm from a binary one in 8192ths, rounded up. 643 / 2136 stands for the decimal logarithm of 2.
abbrev pub to_decimal : ℕ → ℕ
to_decimal l = (l * 643 + (8192 * 2136 - 1)) / (8192 * 2136)

-- the decimal logarithm of a number to the power p, from its binary logarithm l
abbrev pub decimal : ℕ → ℕ → ℕ
decimal p l = to_decimal (p * l)

-- the level of n / c: 0 at 1 or below
unfoldable pub above_one : Bool → ℕ → ℕ → ℕ → ℕ
unfolding logarithm
above_one true p n c = 0
above_one false p n c = decimal p (logarithm n c)

unfoldable pub thousandths : ℕ → ℕ → ℕ → ℕ
unfolding above_one
thousandths p n c = above_one (leb n c) p n c

unfoldable pub level_of : ℕ → Float → Decibels
unfolding thousandths
level_of p nan = NotANumber
level_of p (inf true) = Finite (pos 0)
level_of p (inf false) = PlusInfinity
level_of p (fin true m e) = Finite (pos 0)
level_of p (fin false m e) = Finite (pos (thousandths p (m * up e) (down e)))

-- "d(v)", of a peak, and "h(a)", of a mean square
abbrev pub d : Float → Decibels
d v = level_of 20000 v

abbrev pub h : Float → Decibels
h a = level_of 10000 a

-- "it is d(v) - 90,310"
abbrev pub min_level_dbfs : Decibels
min_level_dbfs = Finite (negsuc 90309)

unfoldable pub dbfs : Float → Decibels
unfolding plus
dbfs v = plus (d v) min_level_dbfs

-- No level of an f32 is above this, and the largest f32 has it: its exact level is 770,636.79.
abbrev pub level_limit : ℕ
level_limit = 770636

-- r is the level l, and a finite one lies within the limit
pub record Leveled (l r : Decibels) : Type 0 where
  pub is : r ≡ l
  pub bounded : Bounded level_limit r
