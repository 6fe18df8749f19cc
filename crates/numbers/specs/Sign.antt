-- A size with a sign, as an i32 can hold it. Definitions only.
use Rattle.std.specs.Prelude.{ℕ, ◌-◌, ◌^◌, min, Bool, true, false, ℤ, pos, neg_ℤ}

-- n with a sign, held to the range of 32 bits
unfoldable pub signed : Bool → ℕ → ℤ
signed true n = neg_ℤ (pos (min n (2 ^ 31)))
signed false n = pos (min n (2 ^ 31 - 1))
