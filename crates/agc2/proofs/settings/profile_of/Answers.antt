-- `settings::profile_of` meets its contract. Assumes nothing.
use mathlib.Core.Path.{◌≡◌, refl, sym, ap}
use Prim.Native.Nat.{ℕ, zero, suc}
use Rattle.mono_input_volume_controller.specs.declared.profile.Profile.TheVariants.{Classroom}
use Rattle.numbers.specs.Flag.{is_set}
use Rattle.agc2.specs.Settings.{profile_of}
use Rattle.agc2.proofs.settings.profile_of.Goals as goal

other : (n : ℕ) → (n ≡ 0 → ⊥) → Classroom ≡ profile_of n
unfolding is_set
other zero a = absurd (a refl)
other (suc n) a = refl

pub returns-then-number-eq0 : goal.returns-then-number-eq0
unfolding is_set
returns-then-number-eq0 c = sym (ap profile_of c.if-number-eq0.true)

pub returns : goal.returns
returns c = other c.args.number c.if-number-eq0.false
