-- `agc2_new_with_predictor_by_value` meets its contract: it is the making within the plain profile. Assumes nothing.
use mathlib.Core.Path.{refl}
use Rattle.numbers.specs.Flag.{is_set}
use Rattle.mono_input_volume_controller.specs.declared.profile.Profile.TheVariants.{Plain}
use Rattle.input_volume_controller.specs.Controller.{Making}
use Rattle.input_volume_controller.proofs.Profiles.{made_at}
use Rattle.agc2.specs.Calls.{CreatedAs}
use Rattle.agc2.proofs.agc2_new_with_predictor_by_value.Goals as goal

pub returns : goal.returns
unfolding is_set
returns c =
    made_at (λ (m : Making). CreatedAs m c.agc2_new_in_profile_by_value.result) Plain c.args.num_capture_channels c.ranges.num_capture_channels.sfits refl refl
    c.agc2_new_in_profile_by_value.ensures
