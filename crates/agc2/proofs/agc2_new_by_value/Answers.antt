-- `agc2_new_by_value` meets its contract: the base's predictor in numbers stands for it. Assumes nothing.
use mathlib.Core.Path.{refl, ap, ◌∙◌}
use Rattle.mono_input_volume_controller.specs.declared.profile.Profile.TheVariants.{Plain}
use Rattle.input_volume_controller.specs.Controller.{Making}
use Rattle.input_volume_controller.proofs.Profiles.{made_at}
use Rattle.agc2.specs.Settings.{predictor_config_of}
use Rattle.agc2.specs.Calls.{CreatedAs}
use Rattle.agc2.proofs.Handed.{base_back}
use Rattle.agc2.proofs.agc2_new_by_value.Goals as goal

pub returns : goal.returns
returns c =
    made_at (λ (m : Making). CreatedAs m c.agc2_new_with_predictor_by_value.result) Plain c.args.num_capture_channels c.ranges.num_capture_channels.sfits refl (ap predictor_config_of c.agc2_default_predictor_config.ensures ∙ base_back)
    c.agc2_new_with_predictor_by_value.ensures
