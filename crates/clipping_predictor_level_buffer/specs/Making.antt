-- Document 01: "ring: capacity above 64" is cause 11, which makes no ring, and "Ring capacity below 1 means 1." Definitions only.
use Rattle.std.specs.Prelude.{◌≡◌, Bool, true, false, ℕ, max, leb, ℤ, pos, negsuc, Err, Ok, Result}
use Rattle.numbers.specs.declared.refusal.Refusal.{Refusal}
use Rattle.numbers.specs.declared.refusal.Refusal.TheVariants.{RingRange}
use Rattle.numbers.specs.Said.{said}
use Rattle.clipping_predictor_level_buffer.specs.declared.Made.{Made}
use Rattle.clipping_predictor_level_buffer.specs.Ring.{max_capacity, Emptied}

-- the capacity that a number means
unfoldable pub capacity_of : ℤ → ℕ
capacity_of (pos n) = max 1 n
capacity_of (negsuc n) = 1

abbrev pub accepted_if : Bool → Result (Unit {0}) Refusal
accepted_if true = Ok tt
accepted_if false = Err RingRange

unfoldable pub making_of : ℕ → Result (Unit {0}) Refusal
making_of capacity = accepted_if (leb capacity max_capacity)

-- what stands beside a refusal is an empty ring of capacity 1
abbrev pub capacity_beside : Result (Unit {0}) Refusal → ℕ → ℕ
capacity_beside (Ok tt) capacity = capacity
capacity_beside (Err cause) capacity = 1

pub record MadeOf (capacity : ℤ) (r : Made) : Type 0 where
  pub answer_is : said r.answer ≡ said (making_of (capacity_of capacity))
  pub empty : Emptied (capacity_beside (making_of (capacity_of capacity)) (capacity_of capacity)) r.ring
