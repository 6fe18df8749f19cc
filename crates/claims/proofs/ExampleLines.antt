-- Document 01's example lines, computed. Assumes nothing.
use mathlib.Core.Path.{refl}
use lib.Ieee.{div, le, of_int, of_bits}
use Rattle.numbers.specs.Listed.{listed}
use Rattle.numbers.specs.Natural.{within_of, at_least_of}
use Rattle.frame_lines.specs.Digits.{is_digit, digit, are_digits, number_after}
use Rattle.frame_lines.specs.Samples.{signed16, are_samples, samples_in}
use Rattle.frame_lines.specs.Line.{head_is_good, is_framed, is_well_formed, fields_of, meaning}
use Rattle.frame_lines.specs.Lines.{lines_of}
use Rattle.frame_lines.specs.Answer.{digit_character, decimal, volume_text, number_text}
use Rattle.clipping_predictor_level_buffer.specs.Metrics.{partial_metrics}
use Rattle.clipping_predictor.specs.Settings as Predictors
use Rattle.clipping_predictor.specs.Turned.{estimated}
use Rattle.clipping_predictor.specs.Estimate.{estimate_tree}
use Rattle.clipping_predictor.specs.Predictor.{push_each, frame_fits}
use Rattle.mono_input_volume_controller.specs.Config.{defaults, settings_of}
use Rattle.mono_input_volume_controller.specs.Mono.{is_users}
use Rattle.clipping_predictor_level_buffer.specs.Clipped.{count_of, clipped_in, total}
use Rattle.clipping_predictor.specs.MostClipped.{most_clipped}
use Rattle.input_volume_controller.specs.ClippedRatio.{clipped_ratio_of}
use Rattle.input_volume_controller.specs.Volumes.{numbers_of, lowest_of}
use Rattle.input_volume_controller.specs.Channels.{called, each_given, aggregate_of}
use Rattle.input_volume_controller.specs.ControlCalls.{with_applied_input_volumes, lower_channels}
use Rattle.input_volume_controller.specs.Controller.{making_with}
use Rattle.input_volume_controller.specs.Differ.{differ}
use Rattle.input_volume_controller.specs.Frame.{analyze_input_audio}
use Rattle.input_volume_controller.specs.Recommendation.{recommend_input_volume}
use Rattle.frame_answers.specs.LineStep.{volume_in, line_step}
use Rattle.frame_answers.specs.Texts.{text_of, text_of_lines, start_controller, output_of}
use Rattle.claims.specs.ExampleLines.{bytes_of, ExampleLines}

-- THE CLAIM
pub example_lines : ExampleLines
unfolding bytes_of lines_of is_digit digit are_digits number_after signed16 are_samples samples_in head_is_good is_framed is_well_formed fields_of meaning digit_character decimal volume_text number_text text_of text_of_lines start_controller output_of line_step volume_in making_with Predictors.settings_of Predictors.checked Predictors.levels_in_range at_least_of defaults settings_of analyze_input_audio recommend_input_volume within_of listed frame_fits count_of clipped_in total most_clipped clipped_ratio_of called is_users aggregate_of with_applied_input_volumes lowest_of each_given numbers_of lower_channels push_each partial_metrics estimate_tree estimated differ of_int of_bits div le
example_lines = refl
