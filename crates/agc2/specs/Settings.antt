-- The settings as C has them, any bits, and as the controller has them. Definitions only.
use Rattle.std.specs.Prelude.{Bool, true, false, ℕ}
use Rattle.numbers.specs.Flag.{is_set, flag_of}
use Rattle.clipping_predictor.specs.declared.settings.ClippingPredictorConfig.{ClippingPredictorConfig}
use Rattle.clipping_predictor.specs.Settings as Predictor
use Rattle.mono_input_volume_controller.specs.declared.config.Config.{Config}
use Rattle.mono_input_volume_controller.specs.declared.profile.Profile.{Profile}
use Rattle.mono_input_volume_controller.specs.declared.profile.Profile.TheVariants.{Plain, Classroom}
use Rattle.input_volume_controller.specs.Plain.{mode_of, mode_number}
use Rattle.agc2.specs.declared.settings.Agc2Config.{Agc2Config}
use Rattle.agc2.specs.declared.settings.Agc2PredictorConfig.{Agc2PredictorConfig}

abbrev pub config_of : Agc2Config → Config
config_of c = record {
  min_input_volume = c.min_input_volume;
  clipped_level_min = c.clipped_level_min;
  clipped_level_step = c.clipped_level_step;
  clipped_ratio_threshold = c.clipped_ratio_threshold;
  clipped_wait_frames = c.clipped_wait_frames;
  enable_clipping_predictor = is_set c.enable_clipping_predictor;
  target_range_max_dbfs = c.target_range_max_dbfs;
  target_range_min_dbfs = c.target_range_min_dbfs;
  update_input_volume_wait_frames = c.update_input_volume_wait_frames;
  speech_probability_threshold = c.speech_probability_threshold;
  speech_ratio_threshold = c.speech_ratio_threshold;
}

abbrev pub in_numbers : Config → Agc2Config
in_numbers c = record {
  min_input_volume = c.min_input_volume;
  clipped_level_min = c.clipped_level_min;
  clipped_level_step = c.clipped_level_step;
  clipped_ratio_threshold = c.clipped_ratio_threshold;
  clipped_wait_frames = c.clipped_wait_frames;
  enable_clipping_predictor = flag_of c.enable_clipping_predictor;
  target_range_max_dbfs = c.target_range_max_dbfs;
  target_range_min_dbfs = c.target_range_min_dbfs;
  update_input_volume_wait_frames = c.update_input_volume_wait_frames;
  speech_probability_threshold = c.speech_probability_threshold;
  speech_ratio_threshold = c.speech_ratio_threshold;
}

-- of a predictor: modes as numbers, 0 event, 1 adaptive, and any other fixed. It has no switch of its own, since the controller's settings have it
unfoldable pub predictor_config_of : Agc2PredictorConfig → ClippingPredictorConfig
predictor_config_of c = Predictor.config_of false (mode_of c.mode) c.window_length c.reference_window_length c.reference_window_delay c.clipping_threshold c.crest_factor_margin

abbrev pub predictor_in_numbers : ClippingPredictorConfig → Agc2PredictorConfig
predictor_in_numbers c = record {
  mode = mode_number c.mode;
  window_length = c.window_length;
  reference_window_length = c.reference_window_length;
  reference_window_delay = c.reference_window_delay;
  clipping_threshold = c.clipping_threshold;
  crest_factor_margin = c.crest_factor_margin;
}

-- a profile as a number: 0 plain, and any other the classroom, which takes less
abbrev pub profile_if : Bool → Profile
profile_if true = Classroom
profile_if false = Plain

abbrev pub profile_of : ℕ → Profile
profile_of number = profile_if (is_set number)
