-- Which channel gets which volume. Document 02 (xiv): "A frame gives the volumes of all channels as one set": the first volume is the first channel's, and so on. After an accepted frame each channel is what it was
-- before, given its own volume of the set and, where clipping is seen or predicted, lowered by one step that is the same for all. A refused frame changes nothing (`RefusedCalls`). Definitions only.
use Rattle.std.specs.Prelude.{◌≡◌, false, List, ℕ, ◌<◌, T, ℤ, pos, nat_abs, Float, length, get_or, Option, None, Some}
use Rattle.mono_input_volume_controller.specs.declared.mono.MonoInputVolumeController.{MonoInputVolumeController}
use Rattle.input_volume_controller.specs.Channels.{StreamAnalogLevel, Clipping, called}
use Rattle.input_volume_controller.specs.declared.limits.Limits.{Limits}
use Rattle.input_volume_controller.specs.Controller.{Controller}
use Rattle.input_volume_controller.specs.Calls.{frame, step}
use Rattle.claims.specs.Past.{is_accepted}
use Rattle.claims.specs.Depends.{state_of}

-- a channel's volume in a set whose volumes are numbers
abbrev pub volume_at : List ℤ → ℕ → ℕ
volume_at volumes channel = nat_abs (get_or volumes channel (pos 0))

-- lowered by a step, or not at all
abbrev pub lowered_by : Option ℕ → MonoInputVolumeController → MonoInputVolumeController
lowered_by None m = m
lowered_by (Some amount) m = called (Clipping amount) m

-- of a controller before the frame and after it
pub record EachTook (volumes : List ℤ) (before after : Controller) : Type 0 where
  pub lowering : Option ℕ
  -- "With capture off, frames only set the volume"
  pub off : before.control.used ≡ false → lowering ≡ None
  pub count : length after.control.channels ≡ length before.control.channels
  pub each : (channel : ℕ) → channel < length before.control.channels
      → state_of channel after ≡ lowered_by lowering (called (StreamAnalogLevel (volume_at volumes channel)) (state_of channel before))

-- THE CLAIM, from any state
abbrev pub EachTakesItsOwn : Type 0
EachTakesItsOwn =
    (c : Controller) (most : Limits) (volumes : List ℤ) (samples : ℕ) (lent : List Float) → T (is_accepted most (length c.control.channels) volumes samples lent)
    → EachTook volumes c (step c (frame most volumes samples lent)).state
