-- The tests of the settings, one way through each at a time, and what they give. Assumes nothing.
use mathlib.Core.Path.{◌≡◌, refl, sym, ap, subst⁻¹}
use mathlib.Core.Bool.{Bool, true, false, cond, ◌&&◌, ◌||◌}
use Prim.Native.Nat.{ℕ, ◌≤◌}
use native.Mathlib.Omega.{arith}
use lib.Dec.{T}
use lib.IntN.{ℤ, pos, negsuc, nat_abs}
use lib.Signed.{le_z, ◌≤ℤ◌}
use lib.Ieee.{Float, lt, eq, le}
use Rattle.std.specs.Prelude.{Some, None, Err, Ok}
use Rattle.std.specs.declared.cmp.Ordering.TheVariants.{Less, Equal, Greater}
use Rattle.std.specs.Ordering.{is_some_and, is_le, partial_le, float_partial_cmp}
use borrow.Author.Tests.{le-leb, leb-true}
use Rattle.numbers.proofs.Signs.{clash}
use Rattle.numbers.specs.declared.refusal.Refusal.TheVariants.{MinimumVolume, ClippedLevelStep, WaitFrames, TargetRange, SpeechThreshold}
use Rattle.mono_input_volume_controller.specs.declared.config.Config.{Config}
use Rattle.mono_input_volume_controller.specs.declared.config.Settings.{Settings}
use Rattle.mono_input_volume_controller.specs.SpeechLevel.{lowest_db, highest_db, GoodTargets}
use Rattle.mono_input_volume_controller.specs.Config.{in_range, both_in_range, volumes_in_range, step_in_range, waits_in_range, targets_in_range, thresholds_in_range, settings_from, settings_of, InOrder}

-- ---- the tests

-- the order of floats, as a comparison of two of them answers it
le_compared : (less same more : Bool) → is_some_and is_le (cond less (Some Less) (cond same (Some Equal) (cond more (Some Greater) None))) ≡ (less || same)
le_compared true same more = refl
le_compared false true more = refl
le_compared false false true = refl
le_compared false false false = refl

pub partial_le_is : (x y : Float) → partial_le float_partial_cmp x y ≡ le x y
unfolding le
partial_le_is x y = le_compared (lt x y) (eq x y) (lt y x)

-- ---- what the tests give

pub both_true : (a b : Bool) → (a && b) ≡ true → (a ≡ true) × (b ≡ true)
both_true true b e = (refl, e)
both_true false b e = clash (sym e)

low_most : (n : ℕ) (x : ℤ) → le_z (pos 0) x ≡ true → le_z x (pos n) ≡ true → nat_abs x ≤ n
low_most n (pos k) a b = leb-true k n b
low_most n (negsuc k) a b = clash (sym a)

from_one : (x : ℤ) → le_z (pos 1) x ≡ true → le_z (pos 0) x ≡ true
from_one (pos k) a = le-leb 0 k (omega arith)
from_one (negsuc k) a = a

one_least : (x : ℤ) → le_z (pos 1) x ≡ true → 1 ≤ nat_abs x
one_least (pos k) a = leb-true 1 k a
one_least (negsuc k) a = clash (sym a)

pub range_most : (n : ℕ) (x : ℤ) → in_range (pos 0) (pos n) x ≡ true → nat_abs x ≤ n
unfolding in_range
range_most n x e = let t = both_true _ _ e in low_most n x t.0 t.1

pub range_one : (n : ℕ) (x : ℤ) → in_range (pos 1) (pos n) x ≡ true → (1 ≤ nat_abs x) × (nat_abs x ≤ n)
unfolding in_range
range_one n x e = let t = both_true _ _ e in (one_least x t.0, low_most n x (from_one x t.0) t.1)

pub both_most : (n : ℕ) (x y : ℤ) → both_in_range (pos 0) (pos n) x y ≡ true → (nat_abs x ≤ n) × (nat_abs y ≤ n)
unfolding both_in_range
both_most n x y e = let t = both_true _ _ e in (range_most n x t.0, range_most n y t.1)

range_both : (low high x : ℤ) → in_range low high x ≡ true → (low ≤ℤ x) × (x ≤ℤ high)
unfolding in_range
range_both low high x e = let t = both_true (le_z low x) (le_z x high) e in (record { le = subst⁻¹ T t.0 tt }, record { le = subst⁻¹ T t.1 tt })

-- targets that pass their test are in good order
pub targets_good : (max min : ℤ) → both_in_range lowest_db highest_db max min ≡ true → GoodTargets min max
unfolding both_in_range
targets_good max min e =
    let t = both_true _ _ e in
    let b = range_both lowest_db highest_db max t.0 in
    let a = range_both lowest_db highest_db min t.1 in
    record { min_low = a.0; min_high = a.1; max_low = b.0; max_high = b.1 }

-- ---- the first cause that holds

module _ (c : Config) where
  pub first_volumes : volumes_in_range c ≡ false → Err MinimumVolume ≡ settings_of c
  unfolding settings_of
  first_volumes a = rw a

  module _ (volumes : volumes_in_range c ≡ true) where
    pub first_step : step_in_range c ≡ false → Err ClippedLevelStep ≡ settings_of c
    unfolding settings_of
    first_step a = rw (volumes, a)

    module _ (step : step_in_range c ≡ true) where
      pub first_waits : waits_in_range c ≡ false → Err WaitFrames ≡ settings_of c
      unfolding settings_of
      first_waits a = rw (volumes, step, a)

      module _ (waits : waits_in_range c ≡ true) where
        pub first_targets : targets_in_range c ≡ false → Err TargetRange ≡ settings_of c
        unfolding settings_of
        first_targets a = rw (volumes, step, waits, a)

        pub first_thresholds : targets_in_range c ≡ true → thresholds_in_range c ≡ false → Err SpeechThreshold ≡ settings_of c
        unfolding settings_of
        first_thresholds a b = rw (volumes, step, waits, a, b)

  pub no_cause : (s : Settings) → InOrder c → s ≡ settings_from c → Ok s ≡ settings_of c
  unfolding settings_of
  no_cause s o e = rw (o.volumes, o.step, o.waits, o.targets, o.thresholds) (ap Ok e)
