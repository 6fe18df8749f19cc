-- The level of an f32, by the tests that `level` makes of its fields. Assumes nothing.
use mathlib.Core.Path.{◌≡◌, sym, ap, ◌∙◌, subst}
use Prim.Native.Nat.{ℕ, ◌+◌, ◌-◌, ◌*◌, ◌^◌, ◌≤◌, ◌<◌}
use native.Mathlib.Omega.{arith}
use mathlib.Core.Bool.{true, false}
use lib.Dec.{eqb}
use lib.IntN.{pos}
use lib.Ieee.{Float}
use lib.Ieee.Exact.{HasValue}
use Rattle.std.specs.Prelude.{None}
use Rattle.levels.specs.declared.decibels.Decibels.{Decibels}
use Rattle.levels.specs.declared.decibels.Decibels.TheVariants.{Finite, PlusInfinity, NotANumber}
use Rattle.levels.specs.FloatParts.{parts_of}
use Rattle.levels.specs.Decibels.{Bounded}
use Rattle.levels.specs.Level.{digits, decimal, level_of, level_limit, Leveled}
use Rattle.levels.proofs.Pattern.{Stands, none_known}
use Rattle.levels.proofs.Fields.{Signed, signed, special, Small, small, normal}
use Rattle.levels.proofs.Floats.{level_negative, level_small, level_special, level_normal}

pub at_nan : (p : ℕ) (v : Float) → parts_of v ≡ None → NotANumber ≡ level_of p v
unfolding level_of
at_nan p v e = sym (ap (level_of p) (none_known v e))

module _ (p : ℕ) (v : Float) (e t : ℕ) where
  pub at_negative : Stands v true e t → Finite (pos 0) ≡ level_of p v
  at_negative f = sym (level_negative p v f.number (subst (Signed true) (sym f.is) (signed true e t)))

  module _ (f : Stands v false e t) where
    pub at_small : e < 127 → Finite (pos 0) ≡ level_of p v
    at_small h = sym (level_small p v (subst (Small false) (sym f.is) (small false e t h f.t_lt)))

    pub at_infinity : e ≡ 255 → PlusInfinity ≡ level_of p v
    at_infinity h = sym (level_special p v (eqb t 0) f.number (f.is ∙ special false e t h))

    pub at_normal : 127 ≤ e → e < 255 → Finite (pos (decimal p ((e - 127) * 2 ^ 13 + digits 13 ((t + 2 ^ 23) * 2 ^ 8)))) ≡ level_of p v
    at_normal lo hi =
        let k = f.t_lt in
        sym (level_normal p v ((t + 2 ^ 23) * 2 ^ 8) (e - 127) (omega arith) (omega arith)
        (subst (λ (z : Float). HasValue z false ((t + 2 ^ 23) * 2 ^ 8 * 2 ^ (e - 127)) (2 ^ 31)) (sym f.is) (normal false e t lo hi)))

-- ---- what the contract of a level says

pub leveled : (l : Decibels) (n : ℕ) → Finite (pos n) ≡ l → n ≤ level_limit → Leveled l (Finite (pos n))
unfolding Bounded
leveled l n e h = record { is = e; bounded = h }

pub leveled_infinity : (l : Decibels) → PlusInfinity ≡ l → Leveled l PlusInfinity
unfolding Bounded
leveled_infinity l e = record { is = e; bounded = tt }

pub leveled_nan : (l : Decibels) → NotANumber ≡ l → Leveled l NotANumber
unfolding Bounded
leveled_nan l e = record { is = e; bounded = tt }
