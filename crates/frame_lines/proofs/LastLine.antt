-- The last line when all pieces of a stream have come: something is kept of one, or nothing is. Assumes nothing.
use mathlib.Core.Path.{◌≡◌, refl, ap}
use mathlib.Core.List.{List, [], ◌∷◌}
use Prim.Native.Nat.{ℕ, ◌<◌}
use native.Mathlib.Nat.{not-suc-le-zero}
use native.Mathlib.Omega.{arith}
use lib.ListN.{length, take}
use lib.Seq.{length-take-le}
use Rattle.frame_lines.specs.declared.lines.Begun.{Begun}
use Rattle.frame_lines.specs.Stream.{last_line}
use Rattle.frame_lines.specs.Feeds.{Good, kept}

one_line : (l : List ℕ) → 0 < length l → last_line l ≡ l ∷ []
one_line [] h = absurd (not-suc-le-zero h)
one_line (b ∷ l) h = refl

pub last_one : (p : Begun) → Good p → 0 < p.length → last_line (kept p) ≡ kept p ∷ []
last_one p good h = one_line (kept p) (omega (arith, length-take-le p.length p.bytes (omega (arith, good.within, good.places))))

pub last_none : (p : Begun) → p.length ≡ 0 → last_line (kept p) ≡ []
last_none p e = ap (λ (n : ℕ). last_line (take n p.bytes)) e
