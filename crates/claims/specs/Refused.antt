-- A refused call changes nothing, for every call, state and input, and the number is the first cause in the table's order that holds. Document 01: "A call tests the causes about its own inputs .. in rising
-- number, and returns the first that holds. On 1 to 7 nothing is made; 8, 9, .. leave the whole state as before"; document 02 (ii) and (iv) put 14 and 15 behind 7, and (xiv) tests 20, then 8, then 9 of a
-- frame, (viii) 18 last, and of a making within the classroom profile (xii) 19 last. It reaches the code by the contracts of `InputVolumeController::{new, with_predictor, classroom, classroom_with_predictor,
-- in_profile, analyze_input_audio, analyze_input_audio_each, spotter_analyze_input_audio, spotter_analyze_input_audio_each, recommend_input_volume, initialize, handle_capture_output_used_change}`: what the
-- makings hand back is `making_in` (`CreatedIn`; `CreatedOf` and `CreatedWith` are it within the plain profile), each other call one `step` (`Does`); and a refused frame hands back the very struct
-- (`AnalyzedEachOf`, `same`), its unused places too. Definitions only.
use Rattle.std.specs.Prelude.{◌≡◌, ℕ, ℤ, length, Option, None, Some}
use Rattle.numbers.specs.Said.{refused, refusal_in, said}
use Rattle.clipping_predictor.specs.declared.settings.ClippingPredictorConfig.{ClippingPredictorConfig}
use Rattle.mono_input_volume_controller.specs.declared.config.Config.{Config}
use Rattle.mono_input_volume_controller.specs.declared.profile.Profile.{Profile}
use Rattle.mono_input_volume_controller.specs.Config.{defaults, settings_from}
use Rattle.input_volume_controller.specs.Controller.{Controller, base_predictor, fresh}
use Rattle.input_volume_controller.specs.Profile.{making_in}
use Rattle.input_volume_controller.specs.Reply.{Reply, mark, refusal, volume, done}
use Rattle.input_volume_controller.specs.Calls.{Call, step}
use Rattle.claims.specs.Causes.{first_of, call_causes, settings_causes, profile_faults, making_causes}

-- the number that a reply refuses with
abbrev pub refused_by : Reply → Option ℕ
refused_by (mark near) = None
refused_by (refusal number) = Some number
refused_by (volume v) = None
refused_by Reply.none = None
refused_by done = None

-- THE CLAIM
pub record RefusedCalls : Type 0 where
  pub unchanged : (c : Controller) (call : Call) (number : ℕ) → (step c call).reply ≡ refusal number → (step c call).state ≡ c
  pub first : (c : Controller) (call : Call) → refused_by (step c call).reply ≡ first_of (call_causes (length c.control.channels) call)
  pub making : (profile : Profile) (channels : ℤ) (config : Config) (predictor : ClippingPredictorConfig)
      → refusal_in (said (making_in profile channels config predictor).answer) ≡ first_of (making_causes profile channels config predictor)
  -- the base's predictor has no fault: with it the causes are 1 to 6, and those of the profile
  pub making_by_default : (profile : Profile) (channels : ℤ) (config : Config)
      → refusal_in (said (making_in profile channels config base_predictor).answer) ≡ first_of (settings_causes channels config (profile_faults profile config))
  -- beside a refusal there always stands the same controller, of one channel with the default settings and the base's predictor
  pub unmade : (profile : Profile) (channels : ℤ) (config : Config) (predictor : ClippingPredictorConfig) (number : ℕ) → said (making_in profile channels config predictor).answer ≡ refused number
      → (making_in profile channels config predictor).controller ≡ fresh (settings_from defaults) 1
