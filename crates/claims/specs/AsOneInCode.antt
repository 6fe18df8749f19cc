-- The claims `EqualChannels` and `DependsOnOne`, of the code and of the static library: of every controller that a making handed back, whether it accepted or refused, after any run of its calls,
-- accepted and refused, in which every set accepted had equal volumes; what follows may have any sets. Definitions only.
use Rattle.std.specs.Prelude.{◌≡◌, List, map, ℕ, ◌<◌, ℤ}
use Rattle.clipping_predictor.specs.declared.settings.ClippingPredictorConfig.{ClippingPredictorConfig}
use Rattle.mono_input_volume_controller.specs.declared.config.Config.{Config}
use Rattle.mono_input_volume_controller.specs.declared.profile.Profile.{Profile}
use Rattle.input_volume_controller.specs.declared.InputVolumeController.{InputVolumeController}
use Rattle.input_volume_controller.specs.declared.Created.{Created}
use Rattle.input_volume_controller.specs.Controller.{view_of}
use Rattle.input_volume_controller.specs.Profile.{CreatedIn}
use Rattle.input_volume_controller.specs.Calls.{Call, Answer}
use Rattle.agc2.specs.declared.answers.Agc2Controller.{Agc2Controller}
use Rattle.agc2.specs.Whole.{whole_of}
use Rattle.agc2.specs.Calls as Library
use Rattle.claims.specs.Run.{Run}
use Rattle.claims.specs.Library.{Numbers, Heard, LibraryRun}
use Rattle.claims.specs.Equal.{AsOne, EvenCalls}
use Rattle.claims.specs.Depends.{AgreeInAll, replies_in}

abbrev pub channels_in : InputVolumeController → ℕ
channels_in c = c.control.channels.count

-- ---- the code

-- what `InputVolumeController::in_profile` handed back, or one of the makings that are it at a profile or with the base's predictor (`new`, `with_predictor`, `classroom`, `classroom_with_predictor`), is what its
-- contract says, and c is that controller after some calls, of which this was heard; every set accepted so far had equal volumes
pub record HasPast (c : InputVolumeController) : Type 0 where
  pub profile : Profile
  pub channels : ℤ
  pub config : Config
  pub predictor : ClippingPredictorConfig
  pub made : Created
  pub created : CreatedIn profile channels config predictor made
  pub calls : List Call
  pub heard : List Answer
  pub run : Run made.controller calls heard c
  pub even : EvenCalls (channels_in made.controller) calls

-- THE CLAIM, of the code
pub record AsOneInCode : Type 0 where
  pub equal : (c : InputVolumeController) → HasPast c → AsOne (channels_in c) (view_of c).control
  pub depends : (a b : InputVolumeController) → HasPast a → HasPast b → (channel : ℕ) → channel < channels_in a → AgreeInAll channel (view_of a) (view_of b)
      → (calls : List Call) (one other : List Answer) (c d : InputVolumeController) → Run a calls one c → Run b calls other d → replies_in one ≡ replies_in other

-- ---- the static library

-- the same of `agc2_new_in_profile_by_value`, of `agc2_new_with_predictor_by_value` and `agc2_new_by_value`, which are it within the plain profile, and of the exported calls
pub record HasLibraryPast (c : Agc2Controller) : Type 0 where
  pub profile : Profile
  pub channels : ℤ
  pub config : Config
  pub predictor : ClippingPredictorConfig
  pub made : Agc2Controller
  pub created : Library.CreatedIn profile channels config predictor made
  pub calls : List Call
  pub heard : List Heard
  pub run : LibraryRun made calls heard c
  pub even : EvenCalls (channels_in (whole_of made)) calls

-- of what is heard the numbers that the calls answer alone: a frame's refusal and mark, a recommendation's flag and volume
abbrev pub numbers_in : List Heard → List Numbers
numbers_in all = map (λ (h : Heard). h.numbers) all

-- THE CLAIM, of the static library
pub record AsOneInLibrary : Type 0 where
  pub equal : (c : Agc2Controller) → HasLibraryPast c → AsOne (channels_in (whole_of c)) (view_of (whole_of c)).control
  pub depends : (a b : Agc2Controller) → HasLibraryPast a → HasLibraryPast b → (channel : ℕ) → channel < channels_in (whole_of a) → AgreeInAll channel (view_of (whole_of a)) (view_of (whole_of b))
      → (calls : List Call) (one other : List Heard) (c d : Agc2Controller) → LibraryRun a calls one c → LibraryRun b calls other d → numbers_in one ≡ numbers_in other
