-- One spelling of a frame line, and what the lenient reader forgives: the laws of `frame_lines`. Assumes nothing.
use mathlib.Core.Path.{◌≡◌, sym, ap, ◌∙◌}
use mathlib.Core.List.{List}
use Prim.Native.Nat.{ℕ}
use Rattle.std.specs.Prelude.{Some}
use Rattle.frame_lines.specs.Line.{Fields}
use Rattle.frame_lines.specs.Forgiven.{lenient_meaning}
use Rattle.frame_lines.specs.Spelling.{spelling}
use Rattle.frame_lines.proofs.Readers.{long_lenient}
use Rattle.frame_lines.proofs.Lenience.{capitals, one_before, one_behind, one_more}
use Rattle.frame_lines.proofs.OneSpelling.{strict_own, strict_lenient, taken_strictly, taken_short, taken_again, bytes_tell}
use Rattle.claims.specs.OneSpelling.{BlanksAndCapitalsForgiven, OneSpelling}

pub blanks_and_capitals_forgiven : BlanksAndCapitalsForgiven
blanks_and_capitals_forgiven = record { capitals = capitals; several = one_more; before = one_before; behind = one_behind; too_long = long_lenient }

-- what is taken of a spelling is what it was written of
written_twice : (x : List ℕ) (f g : Fields) → lenient_meaning x ≡ Some f → lenient_meaning (spelling f) ≡ Some g → spelling g ≡ spelling f
written_twice x f g p q =
    let both : Some f ≡ Some g = sym (taken_again x f p) ∙ q in
    let same : g ≡ f = cc in
    ap spelling same

pub one_spelling : OneSpelling
one_spelling = record {
  equal_bytes = λ x y f g p q e. ap spelling e;
  equal_meaning = bytes_tell;
  taken_again = taken_again;
  written_twice = written_twice;
  strictly_taken = taken_strictly;
  own_spelling = strict_own;
  leniently_taken = strict_lenient;
  short = taken_short;
}
