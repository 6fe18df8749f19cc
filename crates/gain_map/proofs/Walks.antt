-- What the walks do, in terms of volumes: each stops at the first volume on its way where the table difference reaches the wanted change, or at its end. Assumes nothing.
use mathlib.Core.Path.{◌≡◌, ap, ◌∙◌}
use mathlib.Core.Bool.{true, false}
use Prim.Native.Nat.{ℕ, zero, suc, ◌-◌, ◌≤◌, ◌<◌, min}
use native.Mathlib.Omega.{arith}
use lib.IntN.{ℤ, pos, negsuc, ◌-ℤ◌}
use lib.Signed.{le_z}
use Rattle.numbers.proofs.First.{first_is}
use Rattle.gain_map.specs.GainMap.{gain}
use Rattle.gain_map.specs.VolumeUpdate.{risen, fallen, rise, fall, walk}

-- going up from base, r is the first volume where the table has risen by what is wanted, or max where none below it has
pub record FirstUp (wanted : ℤ) (base max r : ℕ) : Type 0 where
  pub from : base ≤ r
  pub to : r ≤ max
  pub before : (u : ℕ) → base ≤ u → u < r → le_z wanted (gain u -ℤ gain base) ≡ false
  pub here : r < max → le_z wanted (gain r -ℤ gain base) ≡ true

-- a rise ends there
pub rise_first : (wanted : ℤ) (base max : ℕ) → base ≤ max → FirstUp wanted base max (rise wanted base max)
unfolding rise
rise_first wanted base max h =
    let f = first_is (risen wanted base) (max - base) in
    record {
      from = omega arith;
      to = omega arith;
      before = λ u l k. ap (λ (v : ℕ). le_z wanted (gain v -ℤ gain base)) (omega arith) ∙ f.before (u - base) (omega arith);
      here = λ k. f.here (omega arith);
    }

-- going down from base, r is the first volume where the table has fallen as far as is wanted, or low where none above it has; a base at or below low stays
pub record FirstDown (wanted : ℤ) (base low r : ℕ) : Type 0 where
  pub from : r ≤ base
  pub to : min base low ≤ r
  pub before : (u : ℕ) → r < u → u ≤ base → le_z (gain u -ℤ gain base) wanted ≡ false
  pub here : low < r → le_z (gain r -ℤ gain base) wanted ≡ true

-- a fall ends there
pub fall_first : (wanted : ℤ) (base low : ℕ) → FirstDown wanted base low (fall wanted base low)
unfolding fall
fall_first wanted base low =
    let f = first_is (fallen wanted base) (base - low) in
    record {
      from = omega arith;
      to = omega arith;
      before = λ u l k. ap (λ (v : ℕ). le_z (gain v -ℤ gain base) wanted) (omega arith) ∙ f.before (base - u) (omega arith);
      here = λ k. f.here (omega arith);
    }

-- THE RANGE: whatever is wanted, a walk ends from the lower of volume and minimum to the maximum
pub walk_range : (wanted : ℤ) (v low max : ℕ) → v ≤ max → (min v low ≤ walk wanted v low max) × (walk wanted v low max ≤ max)
unfolding walk
walk_range (pos zero) v low max h = omega arith
walk_range (pos (suc n)) v low max h = let r = rise_first (pos (suc n)) v max h in omega arith
walk_range (negsuc n) v low max h = let r = fall_first (negsuc n) v low in omega arith

-- a volume at or below the minimum is not lowered
pub no_fall_at_minimum : (n v low max : ℕ) → v ≤ low → walk (negsuc n) v low max ≡ v
unfolding walk
no_fall_at_minimum n v low max h = let r = fall_first (negsuc n) v low in omega arith
