-- The rules of the gain table, each a test that is computed over the whole table and then carried to every entry. Assumes nothing.
use mathlib.Core.Path.{◌≡◌, refl}
use Prim.Native.Nat.{ℕ, ◌≤◌, ◌<◌}
use lib.Dec.{leb, leb→le}
use lib.IntN.{pos, negsuc, nat_abs}
use lib.Signed.{le_z, le_z_yes, ◌≤ℤ◌, ≤ℤ_refl}
use Rattle.numbers.proofs.Signs.{≤ℤ-trans}
use Rattle.numbers.proofs.Tables.{at_each, in_order}
use Rattle.gain_map.specs.GainMap.{gain_map, gain}

-- THE RULE: a higher volume never has a lower gain
pub never_falls : (v w : ℕ) → v ≤ w → w < 256 → gain v ≤ℤ gain w
unfolding gain gain_map
never_falls v w p h = in_order (pos 0) ◌≤ℤ◌ ≤ℤ_refl (λ x y z. ≤ℤ-trans) le_z (λ x y. le_z_yes) gain_map tt v w p h

-- the table goes from -56 dB to 64 dB
pub ends : (gain 0 ≡ negsuc 55) × (gain 255 ≡ pos 64)
unfolding gain gain_map
ends = (refl, refl)

-- no gain is more than 64 dB from 0
pub gain_size : (v : ℕ) → v < 256 → nat_abs (gain v) ≤ 64
unfolding gain gain_map
gain_size v h = leb→le (nat_abs (gain v)) 64 (at_each (pos 0) (λ z. leb (nat_abs z) 64) gain_map tt v h)
