-- A size with its sign, as the machine makes it and takes it apart. Assumes nothing.
use mathlib.Core.Path.{◌≡◌, refl, sym, ap, subst, ◌∙◌}
use Prim.Native.Nat.{ℕ, zero, suc, ◌-◌, ◌^◌, ◌≤◌, ◌<◌, min}
use native.Mathlib.Omega.{arith}
use mathlib.Core.Bool.{true, false}
use lib.Dec.{T}
use lib.IntN.{ℤ, pos, negsuc, neg_ℤ, nat_abs, ◌-ℤ◌, +ℤ_idl}
use lib.Signed.{mag, lt_z, non_neg}
use borrow.Author.Tests.{ltb-true}
use mir.Syntax.{w32}
use mir.Val.{Fits, SFits, to_z, of_z}
use mir.ValLaws.{to_z-of_z, to_z_pos}
use Rattle.numbers.specs.Sign.{signed}
use Rattle.numbers.proofs.Signs.{clash, read, minus_read, read64}

-- ---- with a sign

neg_mag : (n : ℕ) → mag (neg_ℤ (pos n)) ≤ n
neg_mag zero = omega arith
neg_mag (suc n) = omega arith

module _ (n : ℕ) (h : n < 2 ^ 31) where
  minus_is : pos 0 -ℤ to_z w32 n ≡ neg_ℤ (pos n)
  minus_is = ap (λ (z : ℤ). pos 0 -ℤ z) (to_z_pos w32 n h) ∙ +ℤ_idl (neg_ℤ (pos n))

  pub minus_fits : SFits w32 (pos 0 -ℤ to_z w32 n)
  minus_fits = subst (SFits w32) (sym minus_is) (record { sfits = omega (arith, neg_mag n) })

  pub minus_signed : to_z w32 (of_z w32 (pos 0 -ℤ to_z w32 n)) ≡ signed true n
  unfolding signed
  minus_signed = let e : n ≡ min n (2 ^ 31) = omega arith in to_z-of_z w32 (pos 0 -ℤ to_z w32 n) minus_fits ∙ minus_is ∙ ap (λ (k : ℕ). neg_ℤ (pos k)) e

  pub plus_signed : to_z w32 n ≡ signed false n
  unfolding signed
  plus_signed = let e : n ≡ min n (2 ^ 31 - 1) = omega arith in to_z_pos w32 n h ∙ ap pos e

module _ (n : ℕ) (h : 2 ^ 31 ≤ n) where
  pub minus_held : negsuc 2147483647 ≡ signed true n
  unfolding signed
  minus_held = let e : 2147483648 ≡ min n (2 ^ 31) = omega arith in ap (λ (k : ℕ). neg_ℤ (pos k)) e

  pub plus_held : pos 2147483647 ≡ signed false n
  unfolding signed
  plus_held = let e : 2147483647 ≡ min n (2 ^ 31 - 1) = omega arith in ap pos e

-- ---- without it

-- the turned number of a negative one, as a cast to an unsigned one asks
pub turned : (x : ℤ) → mag x < 2 ^ 31 → lt_z x (pos 0) ≡ true
    → (T (non_neg (read64 (pos 0 -ℤ read64 (read x)))) × Fits w32 (nat_abs (read64 (pos 0 -ℤ read64 (read x))))) × (nat_abs (read64 (pos 0 -ℤ read64 (read x))) ≡ nat_abs x)
turned (pos n) h t = let k = ltb-true n 0 t in absurd (omega arith)
turned (negsuc n) h t =
    subst (λ (z : ℤ). (T (non_neg z) × Fits w32 (nat_abs z)) × (nat_abs z ≡ suc n)) (sym (minus_read (negsuc n) h)) ((tt, record { fits = omega arith }), refl)

-- a number that is not negative, as it stands
pub kept : (x : ℤ) → mag x < 2 ^ 31 → lt_z x (pos 0) ≡ false → T (non_neg x) × Fits w32 (nat_abs x)
kept (pos n) h t = (tt, record { fits = omega arith })
kept (negsuc n) h t = clash t
