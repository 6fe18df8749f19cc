-- How the beginning of a line is kept: what `lines` says of it. Definitions only.
use Rattle.std.specs.Prelude.{◌≡◌, List, [], ℕ, ◌≤◌, length, take}
use Rattle.frame_lines.specs.declared.lines.Begun.{Begun}
use Rattle.frame_lines.specs.Stream.{kept_characters, ended}

-- in good order; `places` is true of every value of the type
pub record Good (p : Begun) : Type 0 where
  pub within : p.length ≤ kept_characters
  pub places : length p.bytes ≡ kept_characters

-- what is kept
abbrev pub kept : Begun → List ℕ
kept p = take p.length p.bytes

-- r is in good order and keeps a text
pub record Keeps (text : List ℕ) (r : Begun) : Type 0 where
  pub good : Good r
  pub kept_is : kept r ≡ text

-- p keeps the beginning of one line: no line ends in it
pub record GoodBeginning (p : Begun) : Type 0 where
  pub good : Good p
  pub unended : ended (kept p) ≡ []
