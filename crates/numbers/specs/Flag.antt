-- Yes and no as numbers: any number but 0 says yes, and 1 is written for it. Definitions only.
use Rattle.std.specs.Prelude.{Bool, true, false, ℕ, zero, suc}

unfoldable pub is_set : ℕ → Bool
is_set zero = false
is_set (suc n) = true

abbrev pub flag_of : Bool → ℕ
flag_of false = 0
flag_of true = 1
