-- Document 01, "Volume steps and one channel": "A channel behaves as `MonoInputVolumeController`". One definition for each function of the source: the making, initialise, the capture
-- switch, the applied volume, a volume that is set, and clipping. Definitions only.
use Rattle.std.specs.Prelude.{Bool, true, false, ◌||◌, ℕ, ◌+◌, ◌-◌, min, max, leb, ltb, eqb}
use Rattle.mono_input_volume_controller.specs.declared.config.Settings.{Settings}
use Rattle.mono_input_volume_controller.specs.declared.mono.MonoInputVolumeController.{MonoInputVolumeController}
use Rattle.mono_input_volume_controller.specs.MonoState.{max_input_volume, volumes, flags, counts}

-- ---- `new`, `initialize`, `handle_capture_output_used_change`, `set_stream_analog_level`

-- a fresh channel: volumes 0 below the highest ceiling, a check asked for, at its startup
abbrev pub created : Settings → MonoInputVolumeController
created s = record {
  least = s.least;
  floor = s.floor;
  ceiling = max_input_volume;
  last = 0;
  used = true;
  check = true;
  startup = true;
  volume = 0;
  wait = s.update_wait;
  frames = 0;
  speech = 0;
  first = true;
  probability = s.speech_probability;
  ratio = s.speech_ratio;
}

-- "Initialise keeps startup, last and recommended volume"; the ceiling is the highest again
abbrev pub initialized : MonoInputVolumeController → MonoInputVolumeController
initialized m = counts 0 0 true (flags true true m.startup (volumes max_input_volume m.last m.volume m))

-- whether a check is asked for after the switch: output that was not used, and now is, asks for one
unfoldable pub check_asked : Bool → Bool → Bool → Bool
check_asked check true on = check
check_asked check false true = true
check_asked check false false = check

-- a switch to what is so already changes nothing
unfoldable pub handled_capture_output_used_change : Bool → MonoInputVolumeController → MonoInputVolumeController
unfolding check_asked
handled_capture_output_used_change on m = flags on (check_asked m.check m.used on) m.startup m

-- the applied volume is the recommended one until another is set
abbrev pub with_stream_analog_level : ℕ → MonoInputVolumeController → MonoInputVolumeController
with_stream_analog_level volume m = volumes m.ceiling m.last volume m

-- ---- `set_input_volume`

-- VOLUME_QUANTIZATION_SLACK
abbrev pub volume_quantization_slack : ℕ
volume_quantization_slack = 25

-- "a volume is taken as the user's if it differs from the last by more than 25"
unfoldable pub is_users : ℕ → ℕ → Bool
is_users last here = ltb (last + volume_quantization_slack) here || ltb (here + volume_quantization_slack) last

-- the user's volume becomes the last one; "a lowered ceiling stays until the user passes it"
abbrev pub taken_from_user : MonoInputVolumeController → MonoInputVolumeController
taken_from_user m = counts 0 0 false (volumes (max m.ceiling m.volume) m.volume m.volume m)

-- a new volume that is the last one already changes nothing
abbrev pub unless_same : Bool → ℕ → MonoInputVolumeController → MonoInputVolumeController
unless_same true new m = m
unless_same false new m = volumes m.ceiling new new m

-- where the volume is the user's, the new one is dropped
abbrev pub unless_users : Bool → ℕ → MonoInputVolumeController → MonoInputVolumeController
unless_users true new m = taken_from_user m
unless_users false new m = unless_same (eqb new m.last) new m

-- a volume of 0 is left alone
abbrev pub unless_muted : Bool → ℕ → MonoInputVolumeController → MonoInputVolumeController
unless_muted true new m = m
unless_muted false new m = unless_users (is_users m.last m.volume) new m

-- the new volume is held to the ceiling
unfoldable pub with_input_volume : ℕ → MonoInputVolumeController → MonoInputVolumeController
with_input_volume new m = unless_muted (eqb m.volume 0) (min new m.ceiling) m

-- ---- `handle_clipping`

-- lowered by a step, down to the floor
abbrev pub lowered : MonoInputVolumeController → ℕ → ℕ → ℕ
lowered m step volume = max m.floor (volume - step)

-- the ceiling falls, whether the volume does or not
abbrev pub lower_ceiling : ℕ → MonoInputVolumeController → MonoInputVolumeController
lower_ceiling step m = volumes (lowered m step m.ceiling) m.last m.volume m

-- a last volume at or below the floor is not lowered, and the counts go on
abbrev pub unless_at_floor : Bool → ℕ → MonoInputVolumeController → MonoInputVolumeController
unless_at_floor true new m = m
unless_at_floor false new m = counts 0 0 false (with_input_volume new m)

unfoldable pub handled_clipping : ℕ → MonoInputVolumeController → MonoInputVolumeController
unfolding with_input_volume
handled_clipping step m = unless_at_floor (leb m.last m.floor) (lowered m step m.last) (lower_ceiling step m)
