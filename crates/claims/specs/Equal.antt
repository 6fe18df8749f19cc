-- All channels as one. Document 02 (xiii): "after any sequence of accepted and refused calls all channel states are equal and the controlling channel is 0, for every channel count at once", and (xiv): this
-- holds "where every set accepted so far had equal volumes". What the replies depend on is the second half (Depends.antt).
-- It reaches the code by the contracts of `InputVolumeController::{new, with_predictor, classroom, classroom_with_predictor, in_profile, analyze_input_audio, analyze_input_audio_each,
-- spotter_analyze_input_audio, spotter_analyze_input_audio_each, recommend_input_volume, initialize, handle_capture_output_used_change}`: the first five hand back a fresh controller (`CreatedOf`,
-- `CreatedWith`, `CreatedIn`), each other one step of the definition (`Does`), so a run of the functions is a run of `after` (Run.antt); `AsOneInCode` and `AsOneInLibrary` say so. Definitions only.
use Rattle.std.specs.Prelude.{◌≡◌, List, ℕ, T, ℤ, length, replicate}
use Rattle.clipping_predictor.specs.declared.settings.Settings as Predictor
use Rattle.mono_input_volume_controller.specs.declared.config.Settings.{Settings}
use Rattle.mono_input_volume_controller.specs.declared.mono.MonoInputVolumeController.{MonoInputVolumeController}
use Rattle.input_volume_controller.specs.Control.{Control}
use Rattle.input_volume_controller.specs.Controller.{fresh_with}
use Rattle.input_volume_controller.specs.Volumes.{equal_volumes}
use Rattle.input_volume_controller.specs.Calls.{Call, frame, recommendation, initialise, capture_switch, after}
use Rattle.claims.specs.Every.{Every}
use Rattle.claims.specs.Past.{is_accepted}

-- the channels are `count` times one state, and the first of them controls
pub record AsOne (count : ℕ) (c : Control) : Type 0 where
  pub state : MonoInputVolumeController
  pub equal : c.channels ≡ replicate count state
  pub first : c.controlling ≡ 0

-- a set of equal volumes
pub record AllEqual (volumes : List ℤ) : Type 0 where
  pub volume : ℤ
  pub equal : volumes ≡ equal_volumes volume (length volumes)

-- a set, if it is accepted, has equal volumes
abbrev pub EvenCall : ℕ → Call → Type 0
EvenCall count (frame most volumes samples lent) = T (is_accepted most count volumes samples lent) → AllEqual volumes
EvenCall count (recommendation probability level) = Unit {0}
EvenCall count initialise = Unit {0}
EvenCall count (capture_switch on) = Unit {0}

-- "where every set accepted so far had equal volumes": of a controller with so many channels
abbrev pub EvenCalls : ℕ → List Call → Type 0
EvenCalls count calls = Every (EvenCall count) calls

-- THE CLAIM, for any predictor, any settings and any count of channels
abbrev pub EqualChannels : Type 0
EqualChannels = (predictor : Predictor.Settings) (s : Settings) (count : ℕ) (calls : List Call) → EvenCalls count calls → AsOne count (after (fresh_with predictor s count) calls).control
