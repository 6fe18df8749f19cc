-- Document 01, "Levels": "The float's sign bit, eight exponent bits and 23 fraction bits are taken apart by the program." Definitions only.
use Rattle.std.specs.Prelude.{ℕ, ◌/◌, ◌%◌, ◌^◌, false, eqb, Option, None, Some, Float}
use Rattle.std.specs.Float.{nan, inf, fin, binary32}
use Rattle.std.specs.Float.Ieee.{to_bits}
use Rattle.levels.specs.declared.parts.Parts.{Parts}

-- the three fields of a bit pattern
abbrev pub fields_of : ℕ → Parts
fields_of b = record { negative = eqb (b / 2 ^ 31) 1; exponent = b / 2 ^ 23 % 2 ^ 8; fraction = b % 2 ^ 23 }

-- a not-a-number has no pattern of its own
unfoldable pub parts_of : Float → Option Parts
parts_of nan = None
parts_of (inf s) = Some (fields_of (to_bits binary32 (inf s)))
parts_of (fin s m e) = Some (fields_of (to_bits binary32 (fin s m e)))

-- Rust's `abs`: the same number without its sign
unfoldable pub magnitude_of : Float → Float
magnitude_of nan = nan
magnitude_of (inf s) = inf false
magnitude_of (fin s m e) = fin false m e

-- the bit pattern without its sign bit; 0 for a not-a-number
unfoldable pub magnitude_bits_of : Float → ℕ
magnitude_bits_of nan = 0
magnitude_bits_of (inf s) = to_bits binary32 (inf s) % 2 ^ 31
magnitude_bits_of (fin s m e) = to_bits binary32 (fin s m e) % 2 ^ 31
