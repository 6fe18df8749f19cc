-- Document 02 (xii): a making within a profile, for everybody or for a classroom. Definitions only.
use Rattle.std.specs.Prelude.{Bool, true, false, ℤ, Err, Ok, Result}
use Rattle.numbers.specs.declared.refusal.Refusal.{Refusal}
use Rattle.numbers.specs.declared.refusal.Refusal.TheVariants.{ClassroomProfile}
use Rattle.clipping_predictor.specs.declared.settings.ClippingPredictorConfig.{ClippingPredictorConfig}
use Rattle.mono_input_volume_controller.specs.declared.config.Config.{Config}
use Rattle.mono_input_volume_controller.specs.declared.profile.Profile.{Profile}
use Rattle.mono_input_volume_controller.specs.Profile.{takes}
use Rattle.input_volume_controller.specs.declared.Created.{Created}
use Rattle.input_volume_controller.specs.Controller.{Making, unmade, making_with, CreatedAs}

-- of settings that a profile doesn't take: a refusal of the plain controller stays
abbrev pub refused_outside : Result (Unit {0}) Refusal → Making → Making
refused_outside (Ok tt) plain = unmade ClassroomProfile
refused_outside (Err cause) plain = plain

-- "It refuses with 19 settings that the plain controller takes and the profile doesn't": the plain controller's making, by whether the profile takes the settings
abbrev pub within_profile : Bool → Making → Making
within_profile true plain = plain
within_profile false plain = refused_outside plain.answer plain

-- the making of a controller within a profile, with any predictor; within `Plain` it is the plain controller's
abbrev pub making_in : Profile → ℤ → Config → ClippingPredictorConfig → Making
making_in profile channels config predictor = within_profile (takes profile config) (making_with channels config predictor)

-- what the contracts of the makings say, over the profile
abbrev pub CreatedIn : Profile → ℤ → Config → ClippingPredictorConfig → Created → Type 0
CreatedIn profile channels config predictor r = CreatedAs (making_in profile channels config predictor) r
