-- Yes and no as numbers, and a volume that may be pending, as the program tests and writes them. Assumes nothing.
use mathlib.Core.Path.{◌≡◌, refl, ap}
use mathlib.Core.Bool.{Bool, true, false, not}
use Prim.Native.Nat.{ℕ, zero, suc}
use native.Mathlib.Omega.{arith}
use lib.Dec.{eqb}
use borrow.Author.Tests.{ne_eqb}
use Rattle.std.specs.Prelude.{None, Option, Some}
use Rattle.std.specs.Bool.{then_some}
use Rattle.std.specs.Int.{from_bool}
use Rattle.std.specs.Option.{is_some, unwrap_or}
use Rattle.numbers.specs.Flag.{is_set, flag_of}
use Rattle.input_volume_controller.specs.Plain.{applied_of, is_pending, pending_volume}

pub set_is : (n : ℕ) → not (eqb n 0) ≡ is_set n
unfolding is_set
set_is zero = refl
set_is (suc n) = ap not (ne_eqb (suc n) 0 (λ e. omega arith))

pub flag_is : (b : Bool) → from_bool b ≡ flag_of b
flag_is true = refl
flag_is false = refl

pub applied_is : (pending : Bool) (volume : ℕ) → then_some pending volume ≡ applied_of pending volume
applied_is true volume = refl
applied_is false volume = refl

pub pending_is : (applied : Option ℕ) → is_some applied ≡ is_pending applied
pending_is (Some volume) = refl
pending_is None = refl

pub volume_is : (applied : Option ℕ) → unwrap_or applied 0 ≡ pending_volume applied
volume_is (Some volume) = refl
volume_is None = refl
