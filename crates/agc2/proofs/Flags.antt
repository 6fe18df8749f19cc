-- A speech level and its flag, as the program tests it. Assumes nothing.
use mathlib.Core.Path.{◌≡◌, refl, ap}
use mathlib.Core.Bool.{Bool, not}
use Prim.Native.Nat.{ℕ, zero, suc}
use native.Mathlib.Omega.{arith}
use lib.Dec.{eqb}
use lib.Ieee.{Float}
use borrow.Author.Tests.{ne_eqb}
use Rattle.std.specs.Bool.{then_some}
use Rattle.agc2.specs.Answers.{speech_level_of}

pub level_is : (present : ℕ) (dbfs : Float) → then_some (not (eqb present 0)) dbfs ≡ speech_level_of present dbfs
unfolding speech_level_of
level_is zero dbfs = refl
level_is (suc n) dbfs = ap (λ (b : Bool). then_some (not b) dbfs) (ne_eqb (suc n) 0 (λ e. omega arith))
