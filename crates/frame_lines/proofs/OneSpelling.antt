-- What the lenient reader takes is written in one spelling: the line with its blanks and capitals forgiven. Assumes nothing.
use mathlib.Core.Path.{◌≡◌, refl, sym, ap, ◌∙◌}
use mathlib.Core.Bool.{Bool, true, false}
use mathlib.Core.List.{List}
use Prim.Native.Nat.{ℕ, ◌≤◌}
use native.Mathlib.Omega.{arith}
use lib.Dec.{leb}
use lib.ListN.{length}
use borrow.Author.Tests.{leb-true}
use Rattle.std.specs.Prelude.{Some}
use Rattle.frame_lines.specs.Line.{most_characters, is_well_formed, Fields, fields_of, meaning_if, meaning}
use Rattle.frame_lines.specs.Forgiven.{forgiven, lenient_if, lenient_meaning}
use Rattle.frame_lines.specs.Spelling.{spelling}
use Rattle.frame_lines.proofs.InOrder.{short, own_spelling, nothing_forgiven}
use Rattle.frame_lines.proofs.Readers.{short_lenient}

-- ---- the strict reader

record Strict (x : List ℕ) (f : Fields) : Type 0 where
  well : is_well_formed x ≡ true
  is : fields_of x ≡ f

strict_if : (x : List ℕ) (f : Fields) (t : Bool) → is_well_formed x ≡ t → meaning_if t x ≡ Some f → Strict x f
strict_if x f true p e = record { well = p; is = cc }
strict_if x f false p e = let z : ◌≡◌ {A = ℕ} 0 1 = cc in absurd (omega arith)

strict : (x : List ℕ) (f : Fields) → meaning x ≡ Some f → Strict x f
unfolding meaning
strict x f e = strict_if x f (is_well_formed x) refl e

module _ (x : List ℕ) (f : Fields) (e : meaning x ≡ Some f) where
  s : Strict x f
  s = strict x f e

  -- a line that it takes is its own spelling
  pub strict_own : spelling f ≡ x
  strict_own = ap spelling (sym s.is) ∙ own_spelling x s.well

  pub strict_short : length x ≤ most_characters
  strict_short = short x s.well

  -- and the lenient reader takes it for the same
  pub strict_lenient : lenient_meaning x ≡ Some f
  strict_lenient = short_lenient x strict_short ∙ ap meaning (nothing_forgiven x s.well) ∙ e

-- ---- the lenient reader

record Lenient (line : List ℕ) (f : Fields) : Type 0 where
  within : length line ≤ most_characters
  means : meaning (forgiven line) ≡ Some f

lenient_if_lem : (line : List ℕ) (f : Fields) (t : Bool) → leb (length line) most_characters ≡ t → lenient_if t line ≡ Some f → Lenient line f
lenient_if_lem line f true p e = record { within = leb-true (length line) most_characters p; means = e }
lenient_if_lem line f false p e = let z : ◌≡◌ {A = ℕ} 0 1 = cc in absurd (omega arith)

lenient : (line : List ℕ) (f : Fields) → lenient_meaning line ≡ Some f → Lenient line f
unfolding lenient_meaning
lenient line f e = lenient_if_lem line f (leb (length line) most_characters) refl e

module _ (line : List ℕ) (f : Fields) (e : lenient_meaning line ≡ Some f) where
  l : Lenient line f
  l = lenient line f e

  pub taken_within : length line ≤ most_characters
  taken_within = l.within

  -- its spelling is the line as it was forgiven
  pub taken_spelling : spelling f ≡ forgiven line
  taken_spelling = strict_own (forgiven line) f l.means

  -- which the strict reader takes, with the same meaning
  pub taken_strictly : meaning (spelling f) ≡ Some f
  taken_strictly = ap meaning taken_spelling ∙ l.means

  pub taken_short : length (spelling f) ≤ most_characters
  taken_short = strict_short (spelling f) f taken_strictly

  -- so does the lenient one
  pub taken_again : lenient_meaning (spelling f) ≡ Some f
  taken_again = strict_lenient (spelling f) f taken_strictly

-- equal bytes have one meaning
pub bytes_tell : (x y : List ℕ) (f g : Fields) → lenient_meaning x ≡ Some f → lenient_meaning y ≡ Some g → spelling f ≡ spelling g → f ≡ g
bytes_tell x y f g p q e =
    let both : Some f ≡ Some g = sym (taken_strictly x f p) ∙ ap meaning e ∙ taken_strictly y g q in
    cc
