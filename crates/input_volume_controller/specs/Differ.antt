-- Document 02 (iii): whether two drops return different states: one lowers the channels and empties the rings and the other does not, or both do and a channel comes out different. That this is so
-- is proved (proofs/Marks.antt). Definitions only.
use Rattle.std.specs.Prelude.{Bool, true, false, not, ◌||◌, List, [], ◌∷◌, ℕ, max, ltb}
use Rattle.mono_input_volume_controller.specs.declared.mono.MonoInputVolumeController.{MonoInputVolumeController}
use Rattle.mono_input_volume_controller.specs.SameVolumes.{same_volumes}
use Rattle.input_volume_controller.specs.Channels.{Clipping, each_called}
use Rattle.input_volume_controller.specs.Control.{Control}

-- whether a channel of two lists has other volumes
unfoldable pub other_volumes : List MonoInputVolumeController → List MonoInputVolumeController → Bool
unfolding same_volumes
other_volumes [] ns = false
other_volumes (m ∷ ms) [] = false
other_volumes (m ∷ ms) (n ∷ ns) = not (same_volumes m n) || other_volumes ms ns

-- whether two steps leave a channel different
unfoldable pub lower_differently : ℕ → ℕ → List MonoInputVolumeController → Bool
unfolding other_volumes
lower_differently step other ms = other_volumes (each_called (Clipping step) ms) (each_called (Clipping other) ms)

-- by whether each of two drops lowers the channels, and whether they lower them differently
abbrev pub differ_if : Bool → Bool → Bool → Bool
differ_if true true differently = differently
differ_if true false differently = true
differ_if false true differently = true
differ_if false false differently = false

-- a drop of 0 is none; `clipped`: clipping was detected, and lowers the channels in any case
unfoldable pub differ : Bool → Control → ℕ → ℕ → Bool
unfolding lower_differently
differ clipped c drop other =
    differ_if (clipped || ltb 0 drop) (clipped || ltb 0 other) (lower_differently (max c.settings.step drop) (max c.settings.step other) c.channels)
