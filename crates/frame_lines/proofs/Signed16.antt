-- Sixteen bits as a signed number, as the machine reads them. Assumes nothing.
use mathlib.Core.Path.{◌≡◌, refl, ap}
use mathlib.Core.Bool.{Bool, true, false}
use Prim.Native.Nat.{ℕ, suc, ◌-◌, ◌^◌, ◌<◌}
use native.Mathlib.Omega.{arith}
use lib.Dec.{ltb}
use lib.IntN.{pos, negsuc, neg_ℤ}
use mir.Syntax.{w16}
use mir.Val.{to_z, sel}
use Rattle.frame_lines.specs.Samples.{signed_if, signed16}

read_if : (t : Bool) (n : ℕ) → n < 2 ^ 16 → sel t (pos n) (negsuc (2 ^ 16 - suc n)) ≡ signed_if t n
read_if true n h = refl
read_if false n h = let k : suc (2 ^ 16 - suc n) ≡ 2 ^ 16 - n = omega arith in ap (λ (m : ℕ). neg_ℤ (pos m)) k

pub read_signed : (n : ℕ) → n < 2 ^ 16 → to_z w16 n ≡ signed16 n
unfolding signed16
read_signed n h = read_if (ltb n (2 ^ 15)) n h
