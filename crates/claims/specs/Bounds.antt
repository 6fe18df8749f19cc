-- Bounds. Document 01: "With capture on and an applied volume above 0, every recommendation lies from min_input_volume to 255." And every volume that is answered is from 0 to 255. Of a set the lowest is the
-- applied volume (`LowestIsApplied`). It reaches the code by the contracts of `InputVolumeController::{new, with_predictor, classroom, classroom_with_predictor, in_profile, analyze_input_audio,
-- analyze_input_audio_each, spotter_analyze_input_audio, spotter_analyze_input_audio_each, recommend_input_volume, initialize, handle_capture_output_used_change}`: what the makings hand back is `makingIn`
-- (`CreatedOf`, `CreatedWith`, `CreatedIn`), each other call one step of the definition, and its reply (`Does`), so a run of the functions is a run of `after` (Run.antt). Definitions only.
use Rattle.std.specs.Prelude.{◌≡◌, true, List, ℕ, ◌≤◌, ℤ, pos, ◌≤ℤ◌, Float, Ok, Option, Some}
use Rattle.clipping_predictor.specs.declared.settings.ClippingPredictorConfig.{ClippingPredictorConfig}
use Rattle.mono_input_volume_controller.specs.declared.config.Config.{Config}
use Rattle.mono_input_volume_controller.specs.declared.profile.Profile.{Profile}
use Rattle.input_volume_controller.specs.Controller.{Controller}
use Rattle.input_volume_controller.specs.Profile.{making_in}
use Rattle.input_volume_controller.specs.Reply.{Reply, volume}
use Rattle.input_volume_controller.specs.Calls.{Call, recommendation, step, after, answer_of}

-- z lies from low to 255
pub record Within (low z : ℤ) : Type 0 where
  pub least : low ≤ℤ z
  pub most : z ≤ℤ pos 255

-- a recommendation of a volume from low to 255
pub record RecommendsFrom (low : ℤ) (r : Reply) : Type 0 where
  pub recommended : ℤ
  pub is : r ≡ volume recommended
  pub within : Within low recommended

-- with capture on and an applied volume above 0, every recommendation is such
abbrev pub InBounds : ℤ → Controller → Type 0
InBounds low c = (applied : ℕ) → c.control.used ≡ true → c.control.applied ≡ Some applied → 1 ≤ applied
    → (probability : Float) (level : Option Float) → RecommendsFrom low (step c (recommendation probability level)).reply

-- of any call: a volume that is its reply, and the controller's volume after it
pub record AnswersVolumes (c : Controller) (call : Call) : Type 0 where
  pub reply : (z : ℤ) → (step c call).reply ≡ volume z → Within (pos 0) z
  pub after : (answer_of (step c call)).volume ≤ 255

-- THE CLAIM, after any calls on a controller that was made, within any profile and with any predictor
pub record Bounds : Type 0 where
  pub recommendations : (profile : Profile) (channels : ℤ) (config : Config) (predictor : ClippingPredictorConfig) → (making_in profile channels config predictor).answer ≡ Ok tt
      → (calls : List Call) → InBounds config.min_input_volume (after (making_in profile channels config predictor).controller calls)
  pub answered : (profile : Profile) (channels : ℤ) (config : Config) (predictor : ClippingPredictorConfig) → (making_in profile channels config predictor).answer ≡ Ok tt
      → (calls : List Call) (call : Call) → AnswersVolumes (after (making_in profile channels config predictor).controller calls) call
