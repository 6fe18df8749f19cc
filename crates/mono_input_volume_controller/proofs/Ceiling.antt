-- Document 01: "a lowered ceiling stays until the user passes it or initialise". `set_input_volume` and `process` leave the ceiling, or lift it to a user's volume above it. Assumes nothing.
use mathlib.Core.Path.{◌≡◌, refl}
use mathlib.Core.Bool.{Bool, true, false}
use Prim.Native.Nat.{ℕ, ◌+◌, ◌≤◌, ◌<◌, min, max}
use native.Mathlib.Omega.{arith}
use lib.Dec.{eqb, ltb}
use lib.IntN.{ℤ}
use lib.Ieee.{Float}
use Rattle.std.specs.Prelude.{None, Option, Some}
use Rattle.gain_map.specs.VolumeUpdate.{walk}
use Rattle.mono_input_volume_controller.specs.declared.mono.MonoInputVolumeController.{MonoInputVolumeController}
use Rattle.mono_input_volume_controller.specs.MonoState.{max_input_volume, flags, counts}
use Rattle.mono_input_volume_controller.specs.Mono.{volume_quantization_slack, is_users, unless_same, unless_users, unless_muted, with_input_volume}
use Rattle.mono_input_volume_controller.specs.MonoProcess.{stays_muted, unless_stays_muted, checked_volume_and_reset, held_error, is_zero, unless_zero, updated_input_volume, if_check, settled, speech_frames, may_act, corrected, waited, unless_waited, counted, processed}
use Rattle.mono_input_volume_controller.proofs.Users.{apart, users_exactly}

-- a ceiling before and after a call: it does not fall, and where it rises, it is the user's volume that passed it
pub record Passed (before last volume after : ℕ) : Type 0 where
  pub from : before ≤ after
  pub by_user : before < after → (after ≡ volume) × (volume_quantization_slack < apart last volume)

-- the same of a channel's state
abbrev pub PassedOf : MonoInputVolumeController → MonoInputVolumeController → Type 0
PassedOf m n = Passed m.ceiling m.last m.volume n.ceiling

stays : (a b c : ℕ) → Passed a b c a
stays a b c = record { from = omega arith; by_user = λ h. absurd (omega arith) }

-- ---- `set_input_volume`

unless_same_lem : (t : Bool) (new : ℕ) (m : MonoInputVolumeController) → PassedOf m (unless_same t new m)
unless_same_lem true new m = stays m.ceiling m.last m.volume
unless_same_lem false new m = stays m.ceiling m.last m.volume

unless_users_lem : (t : Bool) (new : ℕ) (m : MonoInputVolumeController) → is_users m.last m.volume ≡ t → PassedOf m (unless_users t new m)
unless_users_lem true new m e = record { from = omega arith; by_user = λ h. (omega arith, (users_exactly m.last m.volume).0 e) }
unless_users_lem false new m e = unless_same_lem (eqb new m.last) new m

unless_muted_lem : (t : Bool) (new : ℕ) (m : MonoInputVolumeController) → PassedOf m (unless_muted t new m)
unless_muted_lem true new m = stays m.ceiling m.last m.volume
unless_muted_lem false new m = unless_users_lem (is_users m.last m.volume) new m refl

pub set_passed : (new : ℕ) (m : MonoInputVolumeController) → PassedOf m (with_input_volume new m)
unfolding with_input_volume
set_passed new m = unless_muted_lem (eqb m.volume 0) (min new m.ceiling) m

-- ---- `process`

unless_zero_lem : (t : Bool) (e : ℤ) (m : MonoInputVolumeController) → PassedOf m (unless_zero t e m)
unless_zero_lem true e m = stays m.ceiling m.last m.volume
unless_zero_lem false e m = set_passed (walk e m.last m.least max_input_volume) m

correct_passed : (e : Option ℤ) (m : MonoInputVolumeController) → PassedOf m (corrected e m)
unfolding corrected updated_input_volume
correct_passed None m = stays m.ceiling m.last m.volume
correct_passed (Some z) m = unless_zero_lem (is_zero (held_error z)) (held_error z) m

wait_passed : (t : Bool) (e : Option ℤ) (m : MonoInputVolumeController) → PassedOf m (waited t e m)
unfolding waited
wait_passed true e m = correct_passed e m
wait_passed false e m = stays m.ceiling m.last m.volume

unless_waited_lem : (t : Bool) (e : Option ℤ) (s : ℕ) (m : MonoInputVolumeController) → PassedOf m (unless_waited t e s m)
unless_waited_lem true e s m = stays m.ceiling m.last m.volume
unless_waited_lem false e s m = wait_passed (may_act s m) e (counts 0 0 m.first m)

count_passed : (e : Option ℤ) (s : ℕ) (m : MonoInputVolumeController) → PassedOf m (counted e s m)
unfolding counted
count_passed e s m = unless_waited_lem (ltb (m.frames + 1) m.wait) e s m

-- the check takes the volume for the last one, so that it is not the user's after it
unless_stays_muted_lem : (t : Bool) (v : ℕ) (m n : MonoInputVolumeController) → PassedOf (unless_stays_muted t v m) n → PassedOf m n
unless_stays_muted_lem true v m n p = p
unless_stays_muted_lem false v m n p = record { from = p.from; by_user = λ h. absurd (omega (arith, (p.by_user h).1)) }

if_check_lem : (t : Bool) (m n : MonoInputVolumeController) → PassedOf (if_check t m) n → PassedOf m n
unfolding checked_volume_and_reset
if_check_lem true m n p = unless_stays_muted_lem (stays_muted m.startup m.volume) (max m.volume m.least) (flags m.used false m.startup m) n p
if_check_lem false m n p = p

pub process_passed : (e : Option ℤ) (p : Float) (m : MonoInputVolumeController) → PassedOf m (processed e p m)
unfolding processed settled
process_passed e p m =
    let s = if_check m.check m in
    if_check_lem m.check m (processed e p m) (count_passed e (speech_frames p s) s)
