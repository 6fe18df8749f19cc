-- How a program ends, and the status that it hands to the system. Definitions only.
use Rattle.std.specs.Prelude.{◌≡◌, ◌⊎◌, ℕ, Result, Ok, Err}
use Rattle.command_line.specs.declared.ending.Failure.{Failure}
use Rattle.command_line.specs.declared.ending.Failure.TheVariants.{Failed, Misused}

-- 0 where all was read and written
abbrev pub status_of : Result Unit Failure → ℕ
status_of (Ok done) = 0
status_of (Err Failed) = 1
status_of (Err Misused) = 2

-- a write
abbrev pub DoneOrFailed : Result Unit Failure → Type 0
DoneOrFailed r = (r ≡ Ok tt) ⊎ (r ≡ Err Failed)

-- how the program ends by a write that ended so
abbrev pub ending_of : {E : Type 0} → Result Unit E → Result Unit Failure
ending_of (Ok done) = Ok tt
ending_of (Err error) = Err Failed
