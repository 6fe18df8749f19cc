-- The two readers, by the tests on their way. Assumes nothing.
use mathlib.Core.Path.{◌≡◌, ap}
use mathlib.Core.Bool.{Bool, true, false}
use mathlib.Core.List.{List}
use Prim.Native.Nat.{ℕ, ◌≤◌, ◌<◌}
use lib.ListN.{length}
use borrow.Author.Tests.{le-leb, lt-leb}
use Rattle.std.specs.Prelude.{None, Some}
use Rattle.frame_lines.specs.Line.{is_well_formed, fields_of, meaning_if, meaning}
use Rattle.frame_lines.specs.Forgiven.{forgiven, lenient_if, lenient_meaning}

module _ (line : List ℕ) where
  pub short_lenient : length line ≤ 2000 → lenient_meaning line ≡ meaning (forgiven line)
  unfolding lenient_meaning
  short_lenient h = ap (λ (t : Bool). lenient_if t line) (le-leb (length line) 2000 h)

  pub long_lenient : 2000 < length line → lenient_meaning line ≡ None
  unfolding lenient_meaning
  long_lenient h = ap (λ (t : Bool). lenient_if t line) (lt-leb (length line) 2000 h)

pub meant : (line : List ℕ) → is_well_formed line ≡ true → meaning line ≡ Some (fields_of line)
unfolding meaning
meant line e = ap (λ (t : Bool). meaning_if t line) e

pub unmeant : (line : List ℕ) → is_well_formed line ≡ false → meaning line ≡ None
unfolding meaning
unmeant line e = ap (λ (t : Bool). meaning_if t line) e
