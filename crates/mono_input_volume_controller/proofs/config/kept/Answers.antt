-- `config::kept` meets its contract: each number in range is its own size. Assumes nothing.
use mathlib.Core.Path.{◌≡◌, ap, ◌∙◌}
use Prim.Native.Nat.{max}
use native.Mathlib.Omega.{arith}
use lib.IntN.{nat_abs}
use Rattle.numbers.proofs.Signs.{again}
use Rattle.mono_input_volume_controller.specs.Config.{settings_from}
use Rattle.mono_input_volume_controller.proofs.Settings.{range_one, both_most}
use Rattle.mono_input_volume_controller.proofs.config.kept.Goals as goal

pub overflow_cast-result : goal.overflow_cast-result
overflow_cast-result c =
    omega (arith, c.unsigned_abs.ensures.value ∙ ap nat_abs (again c.args.config.min_input_volume c.struct_told-1.given.0.1), (both_most 255 c.args.config.min_input_volume c.args.config.clipped_level_min c.requires.volumes).0)

pub overflow_cast-result-2 : goal.overflow_cast-result-2
overflow_cast-result-2 c =
    omega (arith, c.unsigned_abs-2.ensures.value ∙ ap nat_abs (again c.args.config.clipped_level_min c.struct_told-2-1.given.1.0.1), (both_most 255 c.args.config.min_input_volume c.args.config.clipped_level_min c.requires.volumes).1)

pub overflow_cast-result-3 : goal.overflow_cast-result-3
overflow_cast-result-3 c =
    omega (arith, c.unsigned_abs-3.ensures.value ∙ ap nat_abs (again c.args.config.clipped_level_step c.struct_told-3-1.given.1.1.0.1), (range_one 255 c.args.config.clipped_level_step c.requires.step).1)

pub returns : goal.returns
unfolding settings_from
returns c =
    let least_one : c.max.result ≡ max 1 c.unsigned_abs-5.result = omega (arith, c.max.ensures) in
    λ i. record {
      least = (c.unsigned_abs.ensures.value ∙ ap nat_abs (again c.args.config.min_input_volume c.struct_told-6-1.given.0.1)) i;
      floor = (c.unsigned_abs-2.ensures.value ∙ ap nat_abs (again c.args.config.clipped_level_min c.struct_told-6-1.given.1.0.1)) i;
      step = (c.unsigned_abs-3.ensures.value ∙ ap nat_abs (again c.args.config.clipped_level_step c.struct_told-6-1.given.1.1.0.1)) i;
      clipped_ratio = c.args.config.clipped_ratio_threshold;
      clipped_wait = (c.unsigned_abs-4.ensures.value ∙ ap nat_abs (again c.args.config.clipped_wait_frames c.struct_told-6-1.given.1.1.1.1.0.1)) i;
      predicts = c.args.config.enable_clipping_predictor;
      max_target = again c.args.config.target_range_max_dbfs c.struct_told-6-1.given.1.1.1.1.1.1.0.1 i;
      min_target = again c.args.config.target_range_min_dbfs c.struct_told-6-1.given.1.1.1.1.1.1.1.0.1 i;
      update_wait = (least_one ∙ ap (max 1) (c.unsigned_abs-5.ensures.value ∙ ap nat_abs (again c.args.config.update_input_volume_wait_frames c.struct_told-6-1.given.1.1.1.1.1.1.1.1.0.1))) i;
      speech_probability = c.args.config.speech_probability_threshold;
      speech_ratio = c.args.config.speech_ratio_threshold;
    }
