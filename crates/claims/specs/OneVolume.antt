-- One volume for all channels. Document 01's frame has one volume, and document 02 (xiv) "the volumes of all channels as one set in place of its one volume". The entries with one volume
-- (`InputVolumeController::analyze_input_audio`, a frame of the static library with one, a frame line) are defined as the set of equal volumes (`AnalyzedOf`). Here stands document 01's frame, and the claim that it is
-- what they do; the spotter's entry with one volume differs from them by cause 18 alone (`ShortFrames`). Definitions only.
use Rattle.std.specs.Prelude.{◌≡◌, Bool, true, false, List, ℕ, ◌≤◌, ℤ, Float, length, None, Option, Some}
use Rattle.numbers.specs.declared.refusal.Refusal.TheVariants.{InputVolume, FrameSize}
use Rattle.numbers.specs.Natural.{within_of}
use Rattle.clipping_predictor.specs.Predictor.{max_channels, frame_fits}
use Rattle.clipping_predictor.specs.AllRings.{predicted_by}
use Rattle.mono_input_volume_controller.specs.MonoState.{max_input_volume}
use Rattle.input_volume_controller.specs.Channels.{StreamAnalogLevel}
use Rattle.input_volume_controller.specs.Volumes.{equal_volumes}
use Rattle.input_volume_controller.specs.Limits.{plain_limits}
use Rattle.input_volume_controller.specs.Control.{Control, with_applied, each_channel}
use Rattle.input_volume_controller.specs.ControlCalls.{aggregated}
use Rattle.input_volume_controller.specs.Controller.{Controller}
use Rattle.input_volume_controller.specs.Reply.{Stepped}
use Rattle.input_volume_controller.specs.Frame.{refused_with, if_used}
use Rattle.input_volume_controller.specs.Calls.{frame, step}

-- a frame's volume enters every channel, and is pending from now on
unfoldable pub with_applied_input_volume : ℕ → Control → Control
unfolding aggregated
with_applied_input_volume volume c = aggregated (with_applied (Some volume) (each_channel (StreamAnalogLevel volume) c))

-- causes 8, "a volume not 0 to 255", and 9, in that order, hand the state back
abbrev pub unless_one_refused : Option ℕ → Bool → ℕ → List Float → Controller → Stepped
unless_one_refused None fits samples lent c = refused_with InputVolume c
unless_one_refused (Some volume) false samples lent c = refused_with FrameSize c
unless_one_refused (Some volume) true samples lent c = if_used c.control.used samples lent (record { control = with_applied_input_volume volume c.control; predictor = c.predictor })

-- the frame; all that comes after its volume is applied is as with a set
unfoldable pub analyze_with_one_volume : ℤ → ℕ → List Float → Controller → Stepped
unfolding predicted_by
analyze_with_one_volume volume samples lent c = unless_one_refused (within_of 0 max_input_volume volume) (frame_fits (length c.control.channels) samples lent) samples lent c

-- THE CLAIM, of the plain entry and every controller with 1 to 8 channels; none that is made has others
abbrev pub OneVolume : Type 0
OneVolume = (c : Controller) (volume : ℤ) (samples : ℕ) (lent : List Float) → 1 ≤ length c.control.channels → length c.control.channels ≤ max_channels
    → step c (frame plain_limits (equal_volumes volume (length c.control.channels)) samples lent) ≡ analyze_with_one_volume volume samples lent c
