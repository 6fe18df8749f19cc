-- None. Document 01: 'The recommendation is "none" exactly if no frame was accepted since the making, the last initialise, or the last recommendation with capture on, whichever came latest.' It reaches the
-- code by the contracts of `InputVolumeController::{new, with_predictor, classroom, classroom_with_predictor, in_profile, analyze_input_audio, analyze_input_audio_each, spotter_analyze_input_audio,
-- spotter_analyze_input_audio_each, recommend_input_volume, initialize, handle_capture_output_used_change}`: the first five hand back a fresh controller (`CreatedOf`, `CreatedWith`, `CreatedIn`), each other
-- one step of the definition, and its reply (`Does`), so a run of the functions is a run of `after` (Run.antt). Definitions only.
use Rattle.std.specs.Prelude.{◌≡◌, Bool, true, false, not, ◌&&◌, ◌||◌, ◌↔◌, List, [], ◌∷◌, reverse, ℕ, Float, Option}
use Rattle.clipping_predictor.specs.declared.settings.Settings as Predictor
use Rattle.mono_input_volume_controller.specs.declared.config.Settings.{Settings}
use Rattle.input_volume_controller.specs.Controller.{fresh_with}
use Rattle.input_volume_controller.specs.Reply.{none}
use Rattle.input_volume_controller.specs.Calls.{Call, frame, recommendation, initialise, capture_switch, step, after}
use Rattle.claims.specs.Past.{capture_on, is_accepted}

-- a frame was accepted since the latest of the three, looked for from the newest call back
unfoldable pub frame_since : ℕ → List Call → Bool
frame_since channels (frame most volumes samples lent ∷ before) = is_accepted most channels volumes samples lent || frame_since channels before
frame_since channels (capture_switch on ∷ before) = frame_since channels before
-- a recommendation with capture off is passed over
frame_since channels (recommendation probability level ∷ before) = not (capture_on true before) && frame_since channels before
frame_since channels (initialise ∷ before) = false
-- the making
frame_since channels [] = false

-- THE CLAIM, over every list of calls from a fresh controller
abbrev pub NoneExactly : Type 0
NoneExactly = (predictor : Predictor.Settings) (s : Settings) (count : ℕ) (calls : List Call) (probability : Float) (level : Option Float)
    → ((step (after (fresh_with predictor s count) calls) (recommendation probability level)).reply ≡ none) ↔ (frame_since count (reverse calls) ≡ false)
