-- Document 01, "Volume steps and one channel": one frame of a channel, by the source's `process`, `check_volume_and_reset` and `update_input_volume`. Definitions only.
use Rattle.std.specs.Prelude.{Bool, true, false, ℕ, ◌+◌, ◌-◌, min, max, ltb, eqb, ℤ, pos, negsuc, Float, None, Option, Some}
use Rattle.std.specs.Float.{binary32}
use Rattle.std.specs.Float.Ieee.{le, div, of_int}
use Rattle.gain_map.specs.VolumeUpdate.{walk}
use Rattle.mono_input_volume_controller.specs.declared.mono.MonoInputVolumeController.{MonoInputVolumeController}
use Rattle.mono_input_volume_controller.specs.MonoState.{max_input_volume, volumes, flags, counts}
use Rattle.mono_input_volume_controller.specs.Mono.{with_input_volume}

-- ---- `check_volume_and_reset`

-- a volume of 0 is the user's wish, but not at the startup
unfoldable pub stays_muted : Bool → ℕ → Bool
stays_muted true volume = false
stays_muted false volume = eqb volume 0

-- any other volume is raised to the minimum and is the last one
abbrev pub unless_stays_muted : Bool → ℕ → MonoInputVolumeController → MonoInputVolumeController
unless_stays_muted true volume m = m
unless_stays_muted false volume m = counts 0 0 true (flags m.used m.check false (volumes m.ceiling volume volume m))

unfoldable pub checked_volume_and_reset : MonoInputVolumeController → MonoInputVolumeController
unfolding stays_muted
checked_volume_and_reset m = unless_stays_muted (stays_muted m.startup m.volume) (max m.volume m.least) m

-- ---- `update_input_volume`

-- MAX_ABS_RMS_ERROR_DBFS
abbrev pub max_abs_rms_error_dbfs : ℕ
max_abs_rms_error_dbfs = 15

-- "It is held to -15 to 15 before use."
unfoldable pub held_error : ℤ → ℤ
held_error (pos n) = pos (min n max_abs_rms_error_dbfs)
held_error (negsuc n) = negsuc (min n (max_abs_rms_error_dbfs - 1))

abbrev pub is_zero : ℤ → Bool
is_zero (pos n) = eqb n 0
is_zero (negsuc n) = false

-- an error of 0 changes nothing; any other asks for the volume step from the last volume
abbrev pub unless_zero : Bool → ℤ → MonoInputVolumeController → MonoInputVolumeController
unless_zero true error m = m
unless_zero false error m = with_input_volume (walk error m.last m.least max_input_volume) m

unfoldable pub updated_input_volume : ℤ → MonoInputVolumeController → MonoInputVolumeController
unfolding held_error with_input_volume
updated_input_volume error m = unless_zero (is_zero (held_error error)) (held_error error) m

-- ---- `process`

-- "the pending check runs first in `process`", once
abbrev pub if_check : Bool → MonoInputVolumeController → MonoInputVolumeController
if_check true m = checked_volume_and_reset (flags m.used false m.startup m)
if_check false m = m

unfoldable pub settled : MonoInputVolumeController → MonoInputVolumeController
unfolding checked_volume_and_reset
settled m = if_check m.check m

-- a frame whose speech probability reaches the threshold is one of speech
abbrev pub one_more_if : Bool → ℕ → ℕ
one_more_if true n = n + 1
one_more_if false n = n

unfoldable pub speech_frames : Float → MonoInputVolumeController → ℕ
speech_frames probability m = one_more_if (le m.probability probability) m.speech

-- the error may act where the share of speech frames in the wait reaches the threshold: one rounded division. On a first frame it never does.
abbrev pub unless_first : Bool → Bool → Bool
unless_first true enough = false
unless_first false enough = enough

unfoldable pub may_act : ℕ → MonoInputVolumeController → Bool
may_act speech m = unless_first m.first (le m.ratio (div binary32 (of_int binary32 (pos speech)) (of_int binary32 (pos m.wait))))

-- "Absent means no error"
unfoldable pub corrected : Option ℤ → MonoInputVolumeController → MonoInputVolumeController
unfolding updated_input_volume
corrected None m = m
corrected (Some error) m = updated_input_volume error m

-- with speech enough in the wait, the error acts
unfoldable pub waited : Bool → Option ℤ → MonoInputVolumeController → MonoInputVolumeController
unfolding corrected
waited true error m = corrected error m
waited false error m = m

-- one frame more; at the end of the wait the counts start anew, and the error may act
abbrev pub unless_waited : Bool → Option ℤ → ℕ → MonoInputVolumeController → MonoInputVolumeController
unless_waited true error speech m = counts (m.frames + 1) speech m.first m
unless_waited false error speech m = waited (may_act speech m) error (counts 0 0 m.first m)

unfoldable pub counted : Option ℤ → ℕ → MonoInputVolumeController → MonoInputVolumeController
unfolding may_act waited
counted error speech m = unless_waited (ltb (m.frames + 1) m.wait) error speech m

-- the next frame is no first one
abbrev pub not_first : MonoInputVolumeController → MonoInputVolumeController
not_first m = counts m.frames m.speech false m

unfoldable pub processed : Option ℤ → Float → MonoInputVolumeController → MonoInputVolumeController
unfolding settled speech_frames counted
processed error probability m = not_first (counted error (speech_frames probability (settled m)) (settled m))
