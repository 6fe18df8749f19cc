-- Document 01, "Levels" and "Ring and predictors": "Each float operation is rounded once, in the source's order"; sums and largest values start from 0. Definitions only.
use Rattle.std.specs.Prelude.{Bool, true, false, pos, Float, length}
use mathlib.Core.List.{List, foldl}
use Rattle.std.specs.Float.{fin, binary32}
use Rattle.std.specs.Float.Ieee.{add, div, lt, of_int}

abbrev pub plus_zero : Float
plus_zero = fin false 0 (pos 0)

-- the sum from 0, in order
unfoldable pub sum : List Float → Float
sum xs = foldl (add binary32) plus_zero xs

-- the sum, divided by how many there are
unfoldable pub mean : List Float → Float
mean xs = div binary32 (sum xs) (of_int binary32 (pos (length xs)))

-- the larger of two: a number is not below a not-a-number, so from a number on those are passed over
abbrev pub second_if : Bool → Float → Float → Float
second_if true a b = b
second_if false a b = a

abbrev pub larger : Float → Float → Float
larger a b = second_if (lt a b) a b

-- the largest, from 0
unfoldable pub largest : List Float → Float
largest xs = foldl larger plus_zero xs
