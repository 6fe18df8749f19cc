-- Each call of a channel keeps its good order. Assumes nothing.
use mathlib.Core.Path.{◌≡◌, refl, subst⁻¹}
use mathlib.Core.Bool.{Bool, true, false}
use Prim.Native.Nat.{ℕ, ◌+◌, ◌≤◌, min, max}
use native.Mathlib.Omega.{arith}
use lib.Dec.{ltb, leb, eqb}
use lib.IntN.{ℤ}
use lib.Ieee.{Float, le}
use borrow.Author.Tests.{ltb-true}
use Rattle.std.specs.Prelude.{None, Option, Some}
use Rattle.gain_map.specs.VolumeUpdate.{walk}
use Rattle.mono_input_volume_controller.specs.declared.mono.MonoInputVolumeController.{MonoInputVolumeController}
use Rattle.mono_input_volume_controller.specs.MonoState.{max_input_volume, Good, Becomes, counts, flags}
use Rattle.mono_input_volume_controller.specs.Mono.{handled_capture_output_used_change, is_users, taken_from_user, unless_same, unless_users, unless_muted, with_input_volume, lowered, lower_ceiling, unless_at_floor, handled_clipping}
use Rattle.mono_input_volume_controller.specs.MonoProcess.{stays_muted, unless_stays_muted, checked_volume_and_reset, held_error, is_zero, unless_zero, updated_input_volume, if_check, settled, one_more_if, speech_frames, may_act, corrected, waited, unless_waited, counted, processed}

-- what a definition says, in good order, is what a call hands back
pub becomes : {said r : MonoInputVolumeController} → r ≡ said → Good said → Becomes said r
becomes e g = record { is = e; good = subst⁻¹ Good e g }

pub good_switched : (on : Bool) (m : MonoInputVolumeController) → Good m → Good (handled_capture_output_used_change on m)
unfolding handled_capture_output_used_change
good_switched on m g = omega arith

-- ---- `set_input_volume` and `handle_clipping`

pub good_taken : (m : MonoInputVolumeController) → Good m → Good (taken_from_user m)
good_taken m g = omega arith

unless_same_lem : (t : Bool) (n : ℕ) (m : MonoInputVolumeController) → n ≤ max_input_volume → Good m → Good (unless_same t n m)
unless_same_lem true n m h g = g
unless_same_lem false n m h g = omega arith

unless_users_lem : (t : Bool) (n : ℕ) (m : MonoInputVolumeController) → n ≤ max_input_volume → Good m → Good (unless_users t n m)
unless_users_lem true n m h g = good_taken m g
unless_users_lem false n m h g = unless_same_lem (eqb n m.last) n m h g

unless_muted_lem : (t : Bool) (n : ℕ) (m : MonoInputVolumeController) → n ≤ max_input_volume → Good m → Good (unless_muted t n m)
unless_muted_lem true n m h g = g
unless_muted_lem false n m h g = unless_users_lem (is_users m.last m.volume) n m h g

pub good_set : (v : ℕ) (m : MonoInputVolumeController) → Good m → Good (with_input_volume v m)
unfolding with_input_volume
good_set v m g = unless_muted_lem (eqb m.volume 0) (min v m.ceiling) m (omega arith) g

pub good_restarted : (first : Bool) (m : MonoInputVolumeController) → Good m → Good (counts 0 0 first m)
good_restarted first m g = omega arith

unless_at_floor_lem : (t : Bool) (n : ℕ) (m : MonoInputVolumeController) → Good m → Good (unless_at_floor t n m)
unless_at_floor_lem true n m g = g
unless_at_floor_lem false n m g = good_restarted false (with_input_volume n m) (good_set n m g)

good_lower : (step : ℕ) (m : MonoInputVolumeController) → Good m → Good (lower_ceiling step m)
good_lower step m g = omega arith

pub good_clipped : (step : ℕ) (m : MonoInputVolumeController) → Good m → Good (handled_clipping step m)
unfolding handled_clipping
good_clipped step m g = unless_at_floor_lem (leb m.last m.floor) (lowered m step m.last) (lower_ceiling step m) (good_lower step m g)

-- ---- the check

unless_stays_muted_lem : (t : Bool) (v : ℕ) (m : MonoInputVolumeController) → v ≤ max_input_volume → Good m → Good (unless_stays_muted t v m)
unless_stays_muted_lem true v m h g = g
unless_stays_muted_lem false v m h g = omega arith

pub good_checked : (m : MonoInputVolumeController) → Good m → Good (checked_volume_and_reset m)
unfolding checked_volume_and_reset
good_checked m g = unless_stays_muted_lem (stays_muted m.startup m.volume) (max m.volume m.least) m (omega arith) g

good_unasked : (m : MonoInputVolumeController) → Good m → Good (flags m.used false m.startup m)
good_unasked m g = omega arith

if_check_lem : (t : Bool) (m : MonoInputVolumeController) → Good m → Good (if_check t m)
if_check_lem true m g = good_checked (flags m.used false m.startup m) (good_unasked m g)
if_check_lem false m g = g

pub good_settled : (m : MonoInputVolumeController) → Good m → Good (settled m)
unfolding settled
good_settled m g = if_check_lem m.check m g

-- ---- the error, and one frame

unless_zero_lem : (t : Bool) (e : ℤ) (m : MonoInputVolumeController) → Good m → Good (unless_zero t e m)
unless_zero_lem true e m g = g
unless_zero_lem false e m g = good_set (walk e m.last m.least max_input_volume) m g

pub good_updated : (e : ℤ) (m : MonoInputVolumeController) → Good m → Good (updated_input_volume e m)
unfolding updated_input_volume
good_updated e m g = unless_zero_lem (is_zero (held_error e)) (held_error e) m g

pub good_corrected : (e : Option ℤ) (m : MonoInputVolumeController) → Good m → Good (corrected e m)
unfolding corrected
good_corrected None m g = g
good_corrected (Some z) m g = good_updated z m g

pub good_waited : (t : Bool) (e : Option ℤ) (m : MonoInputVolumeController) → Good m → Good (waited t e m)
unfolding waited
good_waited true e m g = good_corrected e m g
good_waited false e m g = g

unless_waited_lem : (t : Bool) (e : Option ℤ) (s : ℕ) (m : MonoInputVolumeController) → ltb (m.frames + 1) m.wait ≡ t → s ≤ m.frames + 1 → Good m → Good (unless_waited t e s m)
unless_waited_lem true e s m w h g = let k = ltb-true (m.frames + 1) m.wait w in omega arith
unless_waited_lem false e s m w h g = good_waited (may_act s m) e (counts 0 0 m.first m) (good_restarted m.first m g)

pub good_counted : (e : Option ℤ) (s : ℕ) (m : MonoInputVolumeController) → s ≤ m.frames + 1 → Good m → Good (counted e s m)
unfolding counted
good_counted e s m h g = unless_waited_lem (ltb (m.frames + 1) m.wait) e s m refl h g

one_more : (t : Bool) (n : ℕ) → one_more_if t n ≤ n + 1
one_more true n = omega arith
one_more false n = omega arith

-- no more frames of speech than frames
pub speech_most : (p : Float) (m : MonoInputVolumeController) → Good m → speech_frames p m ≤ m.frames + 1
unfolding speech_frames
speech_most p m g = omega (arith, one_more (le m.probability p) m.speech)

pub good_not_first : (m : MonoInputVolumeController) → Good m → Good (counts m.frames m.speech false m)
good_not_first m g = omega arith

pub good_processed : (e : Option ℤ) (p : Float) (m : MonoInputVolumeController) → Good m → Good (processed e p m)
unfolding processed
good_processed e p m g =
    let s = good_settled m g in
    good_not_first (counted e (speech_frames p (settled m)) (settled m)) (good_counted e (speech_frames p (settled m)) (settled m) (speech_most p (settled m) s) s)
