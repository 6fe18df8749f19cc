-- Every call of a channel keeps the settings that the channel carries, and, but for initialise and the capture switch, whether its output is used. Assumes nothing.
use mathlib.Core.Path.{◌≡◌, refl, ap, ◌∙◌}
use mathlib.Core.Bool.{Bool, true, false}
use mathlib.Core.List.{List, map, map-map}
use Prim.Native.Nat.{ℕ, ◌+◌, min, max}
use lib.Dec.{ltb, leb, eqb}
use lib.IntN.{ℤ}
use lib.Ieee.{Float}
use Rattle.std.specs.Prelude.{None, Option, Some}
use Rattle.gain_map.specs.VolumeUpdate.{walk}
use Rattle.mono_input_volume_controller.specs.declared.mono.MonoInputVolumeController.{MonoInputVolumeController}
use Rattle.input_volume_controller.specs.Channels.{ChannelCall, Initialize, CaptureOutputUsed, StreamAnalogLevel, Clipping, Process, called, each_called}
use Rattle.mono_input_volume_controller.specs.MonoState.{max_input_volume, volumes, flags, counts}
use Rattle.mono_input_volume_controller.specs.Mono.{handled_capture_output_used_change, is_users, unless_same, unless_users, unless_muted, with_input_volume, lowered, lower_ceiling, unless_at_floor, handled_clipping}
use Rattle.mono_input_volume_controller.specs.MonoProcess.{stays_muted, unless_stays_muted, checked_volume_and_reset, held_error, is_zero, unless_zero, updated_input_volume, if_check, settled, speech_frames, may_act, corrected, waited, unless_waited, counted, processed}
use Rattle.claims.proofs.Lists.{map_same}

-- a channel with all wiped out but its settings and whether its output is used
abbrev lasting : MonoInputVolumeController → MonoInputVolumeController
lasting m = counts 0 0 true (flags m.used true true (volumes 0 0 0 m))

-- and with that wiped out too
abbrev pub core : MonoInputVolumeController → MonoInputVolumeController
core m = flags true true true (lasting m)

module _ (m : MonoInputVolumeController) where
  unless_same_lem : (t : Bool) (new : ℕ) → lasting (unless_same t new m) ≡ lasting m
  unless_same_lem true new = refl
  unless_same_lem false new = refl

  unless_users_lem : (t : Bool) (new : ℕ) → lasting (unless_users t new m) ≡ lasting m
  unless_users_lem true new = refl
  unless_users_lem false new = unless_same_lem (eqb new m.last) new

  unless_muted_lem : (t : Bool) (new : ℕ) → lasting (unless_muted t new m) ≡ lasting m
  unless_muted_lem true new = refl
  unless_muted_lem false new = unless_users_lem (is_users m.last m.volume) new

  lasting_set : (new : ℕ) → lasting (with_input_volume new m) ≡ lasting m
  unfolding with_input_volume
  lasting_set new = unless_muted_lem (eqb m.volume 0) (min new m.ceiling)

  unless_at_floor_lem : (t : Bool) (new : ℕ) → lasting (unless_at_floor t new m) ≡ lasting m
  unless_at_floor_lem true new = refl
  unless_at_floor_lem false new = lasting_set new

  unless_stays_muted_lem : (t : Bool) (volume : ℕ) → lasting (unless_stays_muted t volume m) ≡ lasting m
  unless_stays_muted_lem true volume = refl
  unless_stays_muted_lem false volume = refl

  lasting_checked : lasting (checked_volume_and_reset m) ≡ lasting m
  unfolding checked_volume_and_reset
  lasting_checked = unless_stays_muted_lem (stays_muted m.startup m.volume) (max m.volume m.least)

  unless_zero_lem : (t : Bool) (error : ℤ) → lasting (unless_zero t error m) ≡ lasting m
  unless_zero_lem true error = refl
  unless_zero_lem false error = lasting_set (walk error m.last m.least max_input_volume)

  lasting_corrected : (error : Option ℤ) → lasting (corrected error m) ≡ lasting m
  unfolding corrected updated_input_volume
  lasting_corrected None = refl
  lasting_corrected (Some error) = unless_zero_lem (is_zero (held_error error)) (held_error error)

  lasting_waited : (t : Bool) (error : Option ℤ) → lasting (waited t error m) ≡ lasting m
  unfolding waited
  lasting_waited true error = lasting_corrected error
  lasting_waited false error = refl

if_check_lem : (t : Bool) (m : MonoInputVolumeController) → lasting (if_check t m) ≡ lasting m
if_check_lem true m = lasting_checked (flags m.used false m.startup m)
if_check_lem false m = refl

lasting_settled : (m : MonoInputVolumeController) → lasting (settled m) ≡ lasting m
unfolding settled
lasting_settled m = if_check_lem m.check m

unless_waited_lem : (t : Bool) (error : Option ℤ) (speech : ℕ) (m : MonoInputVolumeController) → lasting (unless_waited t error speech m) ≡ lasting m
unless_waited_lem true error speech m = refl
unless_waited_lem false error speech m = lasting_waited (counts 0 0 m.first m) (may_act speech m) error

lasting_counted : (error : Option ℤ) (speech : ℕ) (m : MonoInputVolumeController) → lasting (counted error speech m) ≡ lasting m
unfolding counted
lasting_counted error speech m = unless_waited_lem (ltb (m.frames + 1) m.wait) error speech m

pub lasting_processed : (error : Option ℤ) (probability : Float) (m : MonoInputVolumeController) → lasting (processed error probability m) ≡ lasting m
unfolding processed
lasting_processed error probability m = lasting_counted error (speech_frames probability (settled m)) (settled m) ∙ lasting_settled m

pub lasting_clipped : (step : ℕ) (m : MonoInputVolumeController) → lasting (handled_clipping step m) ≡ lasting m
unfolding handled_clipping
lasting_clipped step m = unless_at_floor_lem (lower_ceiling step m) (leb m.last m.floor) (lowered m step m.last)

-- every call
pub core_called : (call : ChannelCall) (m : MonoInputVolumeController) → core (called call m) ≡ core m
unfolding called handled_capture_output_used_change
core_called Initialize m = refl
core_called (CaptureOutputUsed on) m = refl
core_called (StreamAnalogLevel volume) m = refl
core_called (Clipping step) m = ap (flags true true true) (lasting_clipped step m)
core_called (Process error probability) m = ap (flags true true true) (lasting_processed error probability m)

-- and so of all channels
pub cores_called : (call : ChannelCall) (channels : List MonoInputVolumeController) → map core (each_called call channels) ≡ map core channels
cores_called call channels = map-map core (called call) channels ∙ map_same (λ m. core (called call m)) core channels (core_called call)
