-- Document 01, "What a call can say no to", as a table: for each call on a controller, and for its making, the causes about its inputs in their order (rising number, but of a frame 20 first: 20, 8, 9 and 18), and
-- the first that holds. Definitions only.
use Rattle.std.specs.Prelude.{Bool, true, false, not, ◌&&◌, ◌||◌, List, [], ◌∷◌, ◌++◌, ℕ, ◌*◌, ltb, eqb, ℤ, pos, negsuc, ◌+ℤ◌, Float, length, Option, None, Some}
use Rattle.std.specs.Int.Signed.{lt_z, le_z}
use Rattle.std.specs.Float.{binary32}
use Rattle.std.specs.Float.Ieee.{le, of_int}
use Rattle.clipping_predictor.specs.declared.settings.ClippingPredictorConfig.{ClippingPredictorConfig}
use Rattle.mono_input_volume_controller.specs.declared.config.Config.{Config}
use Rattle.mono_input_volume_controller.specs.declared.profile.Profile.{Profile}
use Rattle.mono_input_volume_controller.specs.declared.profile.Profile.TheVariants.{Plain, Classroom}
use Rattle.input_volume_controller.specs.declared.limits.Limits.{Limits}
use Rattle.input_volume_controller.specs.Calls.{Call, frame, recommendation, initialise, capture_switch}

-- a cause of the table: its number, and whether it holds
pub record Cause : Type 0 where
  pub number : ℕ
  pub holds : Bool

-- "returns the first that holds"
abbrev pub first_if : Bool → ℕ → Option ℕ → Option ℕ
first_if true number later = Some number
first_if false number later = later

abbrev pub first_of : List Cause → Option ℕ
first_of [] = None
first_of (cause ∷ causes) = first_if cause.holds cause.number (first_of causes)

-- "not 0 to 255", and the like
abbrev pub outside : ℤ → ℤ → ℤ → Bool
outside low high x = lt_z x low || lt_z high x

-- any volume of a set
abbrev pub any_outside : List ℤ → Bool
any_outside [] = false
any_outside (volume ∷ volumes) = outside (pos 0) (pos 255) volume || any_outside volumes

-- "not 0 to 1, or not a number": a not-a-number is in no order
abbrev pub outside_unit : Float → Bool
outside_unit x = not (le (of_int binary32 (pos 0)) x && le x (of_int binary32 (pos 1)))

-- "more channels or samples per channel than its own limits"
abbrev pub is_over : Limits → ℕ → ℕ → Bool
is_over most channels samples = ltb most.channels channels || ltb most.samples samples

-- a frame through an entry with these limits, with the count of channels
abbrev pub frame_causes : Limits → ℕ → List ℤ → ℕ → List Float → List Cause
frame_causes most channels volumes samples lent =
    -- "a set whose length isn't the channel count"
    record { number = 20; holds = not (eqb (length volumes) channels) }
    -- "a set with any volume outside 0 to 255"
    ∷ record { number = 8; holds = any_outside volumes }
    -- "samples per channel not 1 to 480, or lent samples not channels × that"
    ∷ record { number = 9; holds = ltb samples 1 || (ltb 480 samples || not (eqb (length lent) (channels * samples))) }
    -- document 02 (viii), "after all refusals of the larger entry"
    ∷ record { number = 18; holds = is_over most channels samples }
    ∷ []

-- no other call on a controller can be refused
abbrev pub call_causes : ℕ → Call → List Cause
call_causes channels (frame most volumes samples lent) = frame_causes most channels volumes samples lent
call_causes channels (recommendation probability level) = []
call_causes channels initialise = []
call_causes channels (capture_switch on) = []

-- ---- a predictor's configuration

-- every window fault but that of the sum: "window and reference length at least 1, delay at least 0, delay + reference above window"
abbrev pub windows_out : ℤ → ℤ → ℤ → Bool
windows_out window reference delay = lt_z window (pos 1) || (lt_z reference (pos 1) || (lt_z delay (pos 0) || le_z (delay +ℤ reference) window))

-- "a sum of delay and reference above 64"
abbrev pub sum_out : ℤ → ℤ → Bool
sum_out reference delay = lt_z (pos 64) (delay +ℤ reference)

-- "threshold and margin within -200,000 to 200,000 thousandths"; `negsuc 199999` is -200,000
abbrev pub levels_out : ℤ → ℤ → Bool
levels_out threshold margin = outside (negsuc 199999) (pos 200000) threshold || outside (negsuc 199999) (pos 200000) margin

-- "7 stays for every other window fault, and is tested before 14, which is tested before 15": so 14 is said where the sum is the windows' one fault, and 15 where the windows are in order.
-- "Causes 1 and 7 are tested also for a predictor that is off", and "what document 01 says of 7 otherwise holds for all three": the switch stands in no cause
abbrev pub predictor_faults : ClippingPredictorConfig → List Cause
predictor_faults c =
    record { number = 7; holds = windows_out c.window_length c.reference_window_length c.reference_window_delay }
    ∷ record { number = 14; holds = sum_out c.reference_window_length c.reference_window_delay }
    ∷ record { number = 15; holds = levels_out c.clipping_threshold c.crest_factor_margin }
    ∷ []

-- ---- the making

-- causes 1 to 6, and what comes after them
abbrev pub settings_causes : ℤ → Config → List Cause → List Cause
settings_causes channels config later =
    -- "channel count not 1 to 8"
    record { number = 1; holds = outside (pos 1) (pos 8) channels }
    -- "min_input_volume or clipped_level_min not 0 to 255"
    ∷ record { number = 2; holds = outside (pos 0) (pos 255) config.min_input_volume || outside (pos 0) (pos 255) config.clipped_level_min }
    -- "clipped_level_step not 1 to 255"
    ∷ record { number = 3; holds = outside (pos 1) (pos 255) config.clipped_level_step }
    -- "clipped_wait_frames or update_input_volume_wait_frames not 0 to 65,535"
    ∷ record { number = 4; holds = outside (pos 0) (pos 65535) config.clipped_wait_frames || outside (pos 0) (pos 65535) config.update_input_volume_wait_frames }
    -- "a target not -90 to 30 dBFS"; `negsuc 89` is -90
    ∷ record { number = 5; holds = outside (negsuc 89) (pos 30) config.target_range_max_dbfs || outside (negsuc 89) (pos 30) config.target_range_min_dbfs }
    -- "speech probability or speech ratio threshold not 0 to 1, or not a number"
    ∷ record { number = 6; holds = outside_unit config.speech_probability_threshold || outside_unit config.speech_ratio_threshold }
    ∷ later

-- document 02 (xii), of each condition of the classroom its opposite
abbrev pub outside_classroom : Config → Bool
outside_classroom config =
    -- "predictor on"
    not config.enable_clipping_predictor
    -- "min_input_volume 20 to 70"
    || (outside (pos 20) (pos 70) config.min_input_volume
    -- "clipped_level_min at least min_input_volume"
    || (lt_z config.clipped_level_min config.min_input_volume
    -- "lower target at most the upper"
    || (lt_z config.target_range_max_dbfs config.target_range_min_dbfs
    -- "both waits at least 100"
    || ((lt_z config.clipped_wait_frames (pos 100) || lt_z config.update_input_volume_wait_frames (pos 100))
    -- "clipped-ratio threshold 0 to 1"
    || outside_unit config.clipped_ratio_threshold))))

-- "It refuses with 19 settings that the plain controller takes and the profile doesn't"
abbrev pub profile_faults : Profile → Config → List Cause
profile_faults Plain config = []
profile_faults Classroom config = record { number = 19; holds = outside_classroom config } ∷ []

-- "It refuses faults of windows, threshold or margin as a predictor's making does, after number 6 and also with the predictor off"; the profile's come after all of them
abbrev pub making_causes : Profile → ℤ → Config → ClippingPredictorConfig → List Cause
making_causes profile channels config predictor = settings_causes channels config (predictor_faults predictor ++ profile_faults profile config)
