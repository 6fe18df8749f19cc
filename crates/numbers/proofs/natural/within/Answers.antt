-- `numbers::natural::within` meets its contract: each return by the tests that lead there. Assumes nothing.
use mathlib.Core.Path.{◌≡◌, refl, sym, ap, ◌∙◌}
use mathlib.Core.Logic.{⊎_elim}
use Prim.Native.Nat.{ℕ, ◌<◌, ◌^◌}
use native.Mathlib.Omega.{arith}
use lib.IntN.{ℤ, pos, negsuc, nat_abs}
use mir.Syntax.{w32}
use mir.ValLaws.{to_z-of_z}
use Rattle.std.specs.Prelude.{Some, None, Result, Ok, Err}
use Rattle.std.specs.Int.{FitsUnsignedBits}
use Rattle.std.specs.Result.{OkIff, result_ok}
use Rattle.std.proofs.lemmas.Result.{OkIff-at_ok, OkIff-at_err}
use Rattle.numbers.specs.Natural.{within_of}
use Rattle.numbers.proofs.Signs.{read, abs_mag}
use Rattle.numbers.proofs.Ranges.{under, over, inside}
use Rattle.numbers.proofs.natural.within.Goals as goal

-- ---- what the conversion says of x

module _ {E : Type 0} where
  is_natural : (x : ℤ) (r : Result ℕ E) (n : ℕ) → OkIff r (FitsUnsignedBits 64 x) (nat_abs x) → Some n ≡ result_ok r → x ≡ pos n
  is_natural (pos m) (Ok y) n h e = let q : y ≡ m = (OkIff-at_ok {T = ℕ} {E = E} (Ok y) (FitsUnsignedBits 64 (pos m)) m y h refl).1 in cc
  is_natural (pos m) (Err d) n h e = cc
  is_natural (negsuc m) (Ok y) n h e = absurd (OkIff-at_ok {T = ℕ} {E = E} (Ok y) (FitsUnsignedBits 64 (negsuc m)) (nat_abs (negsuc m)) y h refl).0
  is_natural (negsuc m) (Err d) n h e = cc

  is_none : (low high : ℕ) (x : ℤ) (r : Result ℕ E) → nat_abs x < 2 ^ 64 → OkIff r (FitsUnsignedBits 64 x) (nat_abs x) → None ≡ result_ok r → None ≡ within_of low high x
  unfolding within_of
  is_none low high (pos m) (Ok y) b h e = cc
  is_none low high (pos m) (Err d) b h e = absurd (OkIff-at_err {T = ℕ} {E = E} (Err d) (FitsUnsignedBits 64 (pos m)) m d h refl b)
  is_none low high (negsuc m) r b h e = refl

pub returns-in_err-n : goal.returns-in_err-n
returns-in_err-n c =
    c.from_residual.ensures ∙ is_none c.args.low c.args.high (read c.args.x) _ (rw (to_z-of_z w32 c.args.x c.ranges.x) (omega (arith, abs_mag c.args.x, c.ranges.x.sfits))) c.try_from.ensures c.in_err-n.ensures.value ∙ ap (within_of c.args.low c.args.high) (to_z-of_z w32 c.args.x c.ranges.x)

pub returns-then-n-low : goal.returns-then-n-low
returns-then-n-low c =
    ⊎_elim (under c.args.low c.args.high c.in_ok-n.n) (λ p. over c.args.low c.args.high c.in_ok-n.n p.0 p.1) c.then-n-low.either
    ∙ ap (within_of c.args.low c.args.high) (sym (is_natural (read c.args.x) _ c.in_ok-n.n c.try_from.ensures c.in_ok-n.ensures.value) ∙ to_z-of_z w32 c.args.x c.ranges.x)

pub returns : goal.returns
returns c =
    inside c.args.low c.args.high c.in_ok-n.n c.if-n-low.false c.if-high-n.false
    ∙ ap (within_of c.args.low c.args.high) (sym (is_natural (read c.args.x) _ c.in_ok-n.n c.try_from.ensures c.in_ok-n.ensures.value) ∙ to_z-of_z w32 c.args.x c.ranges.x)
