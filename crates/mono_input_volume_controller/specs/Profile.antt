-- Document 02 (xii), the classroom profile: "Group teaching uses a narrow set". For whom a controller is made, and which settings its making then takes, of those that the plain making takes. Definitions only.
use Rattle.std.specs.Prelude.{Bool, true, ◌&&◌, List, [], ◌∷◌, pos}
use Rattle.std.specs.Int.Signed.{le_z}
use Rattle.mono_input_volume_controller.specs.declared.config.Config.{Config}
use Rattle.mono_input_volume_controller.specs.declared.profile.Profile.{Profile}
use Rattle.mono_input_volume_controller.specs.declared.profile.Profile.TheVariants.{Plain, Classroom}
use Rattle.mono_input_volume_controller.specs.Config.{in_range, in_unit}

-- the six conditions of the classroom
unfoldable pub classroom_conditions : Config → List Bool
unfolding in_range in_unit
classroom_conditions c =
    -- "predictor on"
    c.enable_clipping_predictor
    -- "min_input_volume 20 to 70"
    ∷ in_range (pos 20) (pos 70) c.min_input_volume
    -- "clipped_level_min at least min_input_volume"
    ∷ le_z c.min_input_volume c.clipped_level_min
    -- "lower target at most the upper"
    ∷ le_z c.target_range_min_dbfs c.target_range_max_dbfs
    -- "both waits at least 100"
    ∷ (le_z (pos 100) c.clipped_wait_frames && le_z (pos 100) c.update_input_volume_wait_frames)
    -- "clipped-ratio threshold 0 to 1": a not-a-number is in no order
    ∷ in_unit c.clipped_ratio_threshold
    ∷ []

-- every condition of a list
unfoldable pub all_hold : List Bool → Bool
all_hold [] = true
all_hold (condition ∷ conditions) = condition && all_hold conditions

-- the plain controller takes all settings that its making does not refuse, the classroom those that meet its conditions
abbrev pub takes : Profile → Config → Bool
takes Plain c = true
takes Classroom c = all_hold (classroom_conditions c)
