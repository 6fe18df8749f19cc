-- Controllers from their making on, within any profile and with any predictor: one of the code whose making was accepted and that has had some calls; and demand 3 in these words, "two controllers with equal settings": two whose
-- making within the same profile, with the same channel count, configuration and predictor, was accepted. Definitions only.
use Rattle.std.specs.Prelude.{◌≡◌, Bool, List, ◌++◌, ℕ, T, ℤ, pos, Float, Ok}
use Rattle.std.specs.Float.Ieee.{le}
use Rattle.clipping_predictor_level_buffer.specs.Statistics.{plus_zero}
use Rattle.clipping_predictor.specs.declared.settings.ClippingPredictorConfig.{ClippingPredictorConfig}
use Rattle.mono_input_volume_controller.specs.declared.config.Config.{Config}
use Rattle.mono_input_volume_controller.specs.declared.profile.Profile.{Profile}
use Rattle.mono_input_volume_controller.specs.declared.profile.Profile.TheVariants.{Classroom}
use Rattle.mono_input_volume_controller.specs.Config.{settings_from}
use Rattle.input_volume_controller.specs.declared.InputVolumeController.{InputVolumeController}
use Rattle.input_volume_controller.specs.declared.Created.{Created}
use Rattle.input_volume_controller.specs.Controller.{Controller, base_predictor}
use Rattle.input_volume_controller.specs.Profile.{making_in, CreatedIn}
use Rattle.input_volume_controller.specs.Calls.{Call, Answer}
use Rattle.claims.specs.Run.{Run, SoundAlike}
use Rattle.claims.specs.LeadIn.{quiet, quiet_for, LeadIn, calls_of}
use Rattle.claims.specs.TwoPasts.{AlikeAfter, enough_for, enough}

-- what `InputVolumeController::in_profile` handed back, or one of the makings that are it at a profile or with the base's predictor (`new`, `with_predictor`, `classroom`, `classroom_with_predictor`), is what its
-- contract says, it was no refusal, and c is that controller after these calls, of which this was heard
pub record MadeAndHad (profile : Profile) (channels : ℤ) (config : Config) (predictor : ClippingPredictorConfig) (calls : List Call) (heard : List Answer) (c : InputVolumeController) : Type 0 where
  pub made : Created
  pub created : CreatedIn profile channels config predictor made
  pub accepted : made.answer ≡ Ok tt
  pub run : Run made.controller calls heard c

-- ---- two pasts

-- "The clipped-ratio threshold must be zero or more"
abbrev pub ThresholdFromZero : Config → Type 0
ThresholdFromZero config = T (le plus_zero config.clipped_ratio_threshold)

-- a making that is accepted, with such a threshold
pub record MayBeCompared (profile : Profile) (channels : ℕ) (config : Config) (predictor : ClippingPredictorConfig) : Type 0 where
  pub accepted : (making_in profile (pos channels) config predictor).answer ≡ Ok tt
  pub ratio : ThresholdFromZero config

-- two controllers of such a making cannot be told apart after the same lead-in with so many accepted frames, each of them still, whatever their pasts: in the definition, and in the code
pub record AlikeAfterLeadIn (profile : Profile) (channels : ℕ) (config : Config) (predictor : ClippingPredictorConfig) (is_still : ℕ → List Float → Bool) (least : ℕ) : Type 0 where
  pub defined : (l : LeadIn channels is_still least) → AlikeAfter (making_in profile (pos channels) config predictor).controller (calls_of channels is_still l)
  pub in_code : (l : LeadIn channels is_still least) (past other : List Call) (one two : List Answer) (a b : InputVolumeController)
      → MadeAndHad profile (pos channels) config predictor (past ++ calls_of channels is_still l) one a → MadeAndHad profile (pos channels) config predictor (other ++ calls_of channels is_still l) two b → SoundAlike a b

-- by a controller's own predictor and settings, as its making takes them: which frames are quiet, and how many it takes
abbrev pub quiet_in : Controller → ℕ → ℕ → List Float → Bool
quiet_in c channels = quiet_for c.predictor.settings channels

abbrev pub enough_in : Controller → ℕ
enough_in c = enough_for c.predictor.settings c.control.settings

-- cannot be told apart after a lead-in that is quiet and long for their own predictor and settings
abbrev pub ComparedAsMade : Profile → ℕ → Config → ClippingPredictorConfig → Type 0
ComparedAsMade profile channels config predictor =
    let new = (making_in profile (pos channels) config predictor).controller in AlikeAfterLeadIn profile channels config predictor (quiet_in new channels) (enough_in new)

-- THE CLAIM, by document 02 (iv): for every predictor that a making takes, within every profile
abbrev pub TwoPasts : Type 0
TwoPasts = (profile : Profile) (channels : ℕ) (config : Config) (predictor : ClippingPredictorConfig) → MayBeCompared profile channels config predictor → ComparedAsMade profile channels config predictor

-- THE CLAIM within the classroom, by document 02 (xii): "The quiet-past comparison needs no word on the clipped-ratio threshold". That the plain one needs a word is `word_needed` (Needed.antt)
abbrev pub TwoPastsInClassroom : Type 0
TwoPastsInClassroom =
    (channels : ℕ) (config : Config) (predictor : ClippingPredictorConfig) → (making_in Classroom (pos channels) config predictor).answer ≡ Ok tt → ComparedAsMade Classroom channels config predictor

-- its corollary with the base's predictor, by document 01: quiet is every sample from -29,000 to 29,000, and the frames are the larger of 14 and the clipping wait plus 4
abbrev pub TwoPastsByDefault : Type 0
TwoPastsByDefault =
    (profile : Profile) (channels : ℕ) (config : Config) → MayBeCompared profile channels config base_predictor → AlikeAfterLeadIn profile channels config base_predictor quiet (enough (settings_from config))
