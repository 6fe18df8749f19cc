-- Where the reading of what the arguments name begins, and what a reading brings. Definitions only.
use Rattle.std.specs.Prelude.{◌≡◌, ℕ, ◌≤◌, false, None, List, length, take}
use Rattle.command_line.specs.declared.input.Input.{Input}
use Rattle.command_line.specs.declared.input.Reading.{Reading}
use Rattle.command_line.specs.declared.input.Reading.TheVariants.{Bytes, Argument, FileEnd, End}

-- behind the program's own name, with nothing open
abbrev pub fresh : {F : Type 0} → Input F
fresh = record { at = 0; dashes = false; named = false; source = None }

-- so many bytes stand at the beginning of a piece
abbrev pub IsPrefixLen : ℕ → List ℕ → Type 0
IsPrefixLen n piece = (n ≤ length piece) × (n ≡ length (take n piece))

-- how many bytes a reading brought
abbrev pub count_of : Reading → ℕ
count_of (Bytes count) = count
count_of Argument = 0
count_of FileEnd = 0
count_of End = 0
