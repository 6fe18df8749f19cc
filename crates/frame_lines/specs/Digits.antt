-- Document 01, "The frame-line program": numbers in "hexadecimal digits, lower case throughout". A character is its byte. Definitions only.
use Rattle.std.specs.Prelude.{Bool, true, false, ◌&&◌, ◌||◌, List, [], ◌∷◌, ℕ, ◌+◌, ◌*◌, ◌-◌, leb}

-- '0' to '9'
abbrev pub is_decimal : ℕ → Bool
is_decimal c = leb 48 c && leb c 57

-- 'a' to 'f'
abbrev pub is_letter : ℕ → Bool
is_letter c = leb 97 c && leb c 102

unfoldable pub is_digit : ℕ → Bool
is_digit c = is_decimal c || is_letter c

abbrev pub digit_if : Bool → ℕ → ℕ
digit_if true c = c - 48
digit_if false c = c - 97 + 10

-- what a digit counts
unfoldable pub digit : ℕ → ℕ
digit c = digit_if (is_decimal c) c

-- a text of digits alone
unfoldable pub are_digits : List ℕ → Bool
are_digits [] = true
are_digits (c ∷ text) = is_digit c && are_digits text

-- the number that it is, the first digit counting most; n is what the digits before it make
unfoldable pub number_after : ℕ → List ℕ → ℕ
number_after n [] = n
number_after n (c ∷ text) = number_after (16 * n + digit c) text

abbrev pub number : List ℕ → ℕ
number text = number_after 0 text
