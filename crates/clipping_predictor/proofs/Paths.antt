-- What a test leads to, by its outcome and whether it was near. Assumes nothing.
use mathlib.Core.Path.{◌≡◌, refl, sym}
use mathlib.Core.Bool.{Bool, true, false, ◌&&◌, not}
use Rattle.numbers.proofs.Signs.{clash}
use Rattle.clipping_predictor.specs.declared.modes.Estimated.{Estimated}
use Rattle.clipping_predictor.specs.Turned.{beside, tested}

module _ (o n : Bool) (x y : Estimated) where
  pub held_near : n ≡ true → o ≡ true → beside x y ≡ tested o n x y
  held_near e f = rw (e, f)

  pub failed_near : n ≡ true → o ≡ false → beside y x ≡ tested o n x y
  failed_near e f = rw (e, f)

  pub held_sure : n ≡ false → o ≡ true → x ≡ tested o n x y
  held_sure e f = rw (e, f)

  pub failed_sure : n ≡ false → o ≡ false → y ≡ tested o n x y
  failed_sure e f = rw (e, f)

-- a test that surely holds, or fails
pub sure_both : (o n : Bool) → (o && not n) ≡ true → (o ≡ true) × (n ≡ false)
sure_both true true e = clash (sym e)
sure_both true false e = (refl, refl)
sure_both false n e = clash (sym e)
