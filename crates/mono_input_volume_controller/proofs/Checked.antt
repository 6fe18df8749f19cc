-- Settings that pass their tests are in good order, and the default settings pass them. Assumes nothing.
use mathlib.Core.Path.{◌≡◌, refl, subst}
use mathlib.Core.Bool.{Bool, true, false}
use Prim.Native.Nat.{ℕ}
use native.Mathlib.Omega.{arith}
use lib.Ieee
use Rattle.numbers.specs.declared.refusal.Refusal.{Refusal}
use Rattle.std.specs.Prelude.{Result, Ok}
use Rattle.mono_input_volume_controller.specs.declared.config.Config.{Config}
use Rattle.mono_input_volume_controller.specs.declared.config.Settings.{Settings}
use Rattle.mono_input_volume_controller.specs.Config.{defaults, in_range, both_in_range, in_unit, both_in_unit, volumes_in_range, step_in_range, waits_in_range, targets_in_range, thresholds_in_range, checked_if, settings_from, settings_of}
use Rattle.mono_input_volume_controller.specs.Config as Config
use Rattle.mono_input_volume_controller.proofs.Settings.{range_one, both_most, targets_good}

-- the default settings pass the tests
pub defaults_in_order : Config.InOrder defaults
unfolding defaults in_range both_in_range in_unit both_in_unit Ieee.of_bits Ieee.of_int Ieee.le
defaults_in_order = record { volumes = refl; step = refl; waits = refl; targets = refl; thresholds = refl }

-- settings that pass them are in good order
pub good_settings : (c : Config) → Config.InOrder c → Config.Good (settings_from c)
unfolding settings_from
good_settings c o =
    let v = both_most 255 _ _ o.volumes in
    let w = both_most 65535 _ _ o.waits in
    let s = range_one 255 _ o.step in
    record {
      least_le = v.0;
      floor_le = v.1;
      step_low = s.0;
      step_le = s.1;
      clipped_wait_le = w.0;
      targets = targets_good _ _ o.targets;
      wait_low = omega arith;
      wait_le = omega (arith, w.1);
    }

injected : {s t : Settings} → ◌≡◌ {A = Result Settings Refusal} (Ok s) (Ok t) → s ≡ t
injected e = cc

checked : (c : Config) (s : Settings) (a b d e f : Bool) → volumes_in_range c ≡ a → step_in_range c ≡ b → waits_in_range c ≡ d → targets_in_range c ≡ e → thresholds_in_range c ≡ f → checked_if a b d e f (settings_from c) ≡ Ok s
    → Config.Good s
checked c s true true true true true p q r t u e = subst Config.Good (injected e) (good_settings c (record { volumes = p; step = q; waits = r; targets = t; thresholds = u }))
checked c s true true true true false p q r t u e = let z : ◌≡◌ {A = ℕ} 0 1 = cc in absurd (omega arith)
checked c s true true true false f p q r t u e = let z : ◌≡◌ {A = ℕ} 0 1 = cc in absurd (omega arith)
checked c s true true false e' f p q r t u e = let z : ◌≡◌ {A = ℕ} 0 1 = cc in absurd (omega arith)
checked c s true false d e' f p q r t u e = let z : ◌≡◌ {A = ℕ} 0 1 = cc in absurd (omega arith)
checked c s false b d e' f p q r t u e = let z : ◌≡◌ {A = ℕ} 0 1 = cc in absurd (omega arith)

pub checked_good : (c : Config) (s : Settings) → settings_of c ≡ Ok s → Config.Good s
unfolding settings_of
checked_good c s e = checked c s _ _ _ _ _ refl refl refl refl refl e
