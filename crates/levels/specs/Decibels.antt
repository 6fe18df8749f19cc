-- Document 01, "Levels": "A level is a signed whole number of thousandths of a dB"; "Plus infinity and not-a-number are their own d and h, and follow IEEE 754
-- in sums and comparisons." Definitions only.
use Rattle.std.specs.Prelude.{ℕ, ◌+◌, ◌^◌, ◌≤◌, ◌<◌, ◌≡◌, Bool, true, false, cond, Option, None, Some, List, codes, leb, ℤ, neg_ℤ, nat_abs, ◌+ℤ◌, ◌-ℤ◌}
use Rattle.std.specs.Fmt.{signed_decimal}
use Rattle.std.specs.Int.{w32, saturate_signed}
use Rattle.std.specs.Int.Signed.{lt_z, le_z}
use Rattle.std.specs.declared.cmp.Ordering.{Ordering}
use Rattle.std.specs.declared.cmp.Ordering.TheVariants.{Less, Equal, Greater}
use Rattle.std.specs.Ordering.{is_eq, is_some_and}
use Rattle.levels.specs.declared.decibels.Decibels.{Decibels}
use Rattle.levels.specs.declared.decibels.Decibels.TheVariants.{Finite, PlusInfinity, MinusInfinity, NotANumber}

-- ---- sums

unfoldable pub plus : Decibels → Decibels → Decibels
plus (Finite x) (Finite y) = Finite (x +ℤ y)
plus (Finite x) PlusInfinity = PlusInfinity
plus (Finite x) MinusInfinity = MinusInfinity
plus (Finite x) NotANumber = NotANumber
plus PlusInfinity (Finite y) = PlusInfinity
plus PlusInfinity PlusInfinity = PlusInfinity
plus PlusInfinity MinusInfinity = NotANumber
plus PlusInfinity NotANumber = NotANumber
plus MinusInfinity (Finite y) = MinusInfinity
plus MinusInfinity PlusInfinity = NotANumber
plus MinusInfinity MinusInfinity = MinusInfinity
plus MinusInfinity NotANumber = NotANumber
plus NotANumber b = NotANumber

abbrev pub negated : Decibels → Decibels
negated (Finite x) = Finite (neg_ℤ x)
negated PlusInfinity = MinusInfinity
negated MinusInfinity = PlusInfinity
negated NotANumber = NotANumber

unfoldable pub minus : Decibels → Decibels → Decibels
unfolding plus
minus a b = plus a (negated b)

-- ---- comparisons: false where a not-a-number stands

unfoldable pub less : Decibels → Decibels → Bool
less (Finite x) (Finite y) = lt_z x y
less (Finite x) PlusInfinity = true
less (Finite x) MinusInfinity = false
less (Finite x) NotANumber = false
less MinusInfinity (Finite y) = true
less MinusInfinity PlusInfinity = true
less MinusInfinity MinusInfinity = false
less MinusInfinity NotANumber = false
less PlusInfinity b = false
less NotANumber b = false

unfoldable pub at_most : Decibels → Decibels → Bool
at_most (Finite x) (Finite y) = le_z x y
at_most (Finite x) PlusInfinity = true
at_most (Finite x) MinusInfinity = false
at_most (Finite x) NotANumber = false
at_most MinusInfinity (Finite y) = true
at_most MinusInfinity PlusInfinity = true
at_most MinusInfinity MinusInfinity = true
at_most MinusInfinity NotANumber = false
at_most PlusInfinity (Finite y) = false
at_most PlusInfinity PlusInfinity = true
at_most PlusInfinity MinusInfinity = false
at_most PlusInfinity NotANumber = false
at_most NotANumber b = false

-- where a stands to b; nowhere where a not-a-number stands
unfoldable pub compared : Decibels → Decibels → Option Ordering
unfolding less at_most
compared a b = cond (less a b) (Some Less) (cond (less b a) (Some Greater) (cond (at_most a b) (Some Equal) None))

-- neither is above the other; a not-a-number is not even equal to itself
unfoldable pub equal : Decibels → Decibels → Bool
unfolding compared
equal a b = is_some_and is_eq (compared a b)

-- ---- near, document 01's word: "sides 10 apart or less"; "infinite, not-a-number or missing sides are never near". Document 02 (x): "the near distance falls from
-- 10 to 6 everywhere"

abbrev pub near_distance : ℕ
near_distance = 6

-- both are finite, and at most k apart
unfoldable pub within : ℕ → Decibels → Decibels → Bool
within k (Finite x) (Finite y) = leb (nat_abs (x -ℤ y)) k
within k (Finite x) PlusInfinity = false
within k (Finite x) MinusInfinity = false
within k (Finite x) NotANumber = false
within k PlusInfinity b = false
within k MinusInfinity b = false
within k NotANumber b = false

abbrev pub near : Decibels → Decibels → Bool
near a b = within near_distance a b

-- ---- as text

-- a finite one is the number of its thousandths
abbrev pub text_of : Decibels → List ℕ
text_of (Finite x) = signed_decimal x
text_of PlusInfinity = codes "inf"
text_of MinusInfinity = codes "-inf"
text_of NotANumber = codes "nan"

-- ---- what the machine holds

-- a whole number, held to the range of an i32
unfoldable pub held32 : ℤ → ℤ
held32 z = saturate_signed w32 z

unfoldable pub held : Decibels → Decibels
unfolding held32
held (Finite x) = Finite (held32 x)
held PlusInfinity = PlusInfinity
held MinusInfinity = MinusInfinity
held NotANumber = NotANumber

-- a finite one is at most k either way
unfoldable pub Bounded : ℕ → Decibels → Type 0
Bounded k (Finite x) = nat_abs x ≤ k
Bounded k PlusInfinity = Unit {0}
Bounded k MinusInfinity = Unit {0}
Bounded k NotANumber = Unit {0}

-- r is the sum or difference of a and b, which is exactly `whole`: held to the range of an i32, and whole where the two are bounded
pub record Combined (a b whole r : Decibels) : Type 0 where
  pub is : r ≡ held whole
  pub exact : (j k : ℕ) → Bounded j a → Bounded k b → j + k < 2 ^ 31 → r ≡ whole
  pub bounded : (j k : ℕ) → Bounded j a → Bounded k b → j + k < 2 ^ 31 → Bounded (j + k) r
