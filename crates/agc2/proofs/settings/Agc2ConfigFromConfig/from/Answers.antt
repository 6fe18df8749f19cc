-- `Agc2ConfigFromConfig`: `from` gives what `in_numbers` says. Assumes nothing.
use mathlib.Core.Path.{◌∙◌}
use Rattle.numbers.proofs.Signs.{again}
use Rattle.input_volume_controller.proofs.Flags.{flag_is}
use Rattle.agc2.proofs.settings.Agc2ConfigFromConfig.from.Goals as goal

pub returns : goal.returns
returns c =
    λ i. record {
      min_input_volume = again c.args.c.min_input_volume c.struct_told-1.given.0.1 i;
      clipped_level_min = again c.args.c.clipped_level_min c.struct_told-1.given.1.0.1 i;
      clipped_level_step = again c.args.c.clipped_level_step c.struct_told-1.given.1.1.0.1 i;
      clipped_ratio_threshold = c.args.c.clipped_ratio_threshold;
      clipped_wait_frames = again c.args.c.clipped_wait_frames c.struct_told-1.given.1.1.1.1.0.1 i;
      enable_clipping_predictor = (c.from.ensures ∙ flag_is c.args.c.enable_clipping_predictor) i;
      target_range_max_dbfs = again c.args.c.target_range_max_dbfs c.struct_told-1.given.1.1.1.1.1.1.0.1 i;
      target_range_min_dbfs = again c.args.c.target_range_min_dbfs c.struct_told-1.given.1.1.1.1.1.1.1.0.1 i;
      update_input_volume_wait_frames = again c.args.c.update_input_volume_wait_frames c.struct_told-1.given.1.1.1.1.1.1.1.1.0.1 i;
      speech_probability_threshold = c.args.c.speech_probability_threshold;
      speech_ratio_threshold = c.args.c.speech_ratio_threshold;
    }
