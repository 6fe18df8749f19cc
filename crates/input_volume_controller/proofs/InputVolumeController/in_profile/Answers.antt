-- `InputVolumeController::in_profile` meets its contract: what was decided is built. Assumes nothing.
use mathlib.Core.Path.{refl}
use native.Mathlib.Omega.{arith}
use mir.Syntax.{w32}
use mir.ValLaws.{to_z_pos}
use Rattle.input_volume_controller.specs.Controller.{Making, AnsweredAs}
use Rattle.input_volume_controller.proofs.Built.{built}
use Rattle.input_volume_controller.proofs.Profiles.{made_at}
use Rattle.input_volume_controller.proofs.InputVolumeController.in_profile.Goals as goal

pub returns : goal.returns
returns c =
    let h = made_at (λ (m : Making). AnsweredAs m c.answered-answer.result.0 c.answered-answer.result.1) c.args.profile c.args.num_capture_channels c.ranges.num_capture_channels.sfits refl refl c.answered-answer.ensures in
    built c.answered-answer.result.0 c.answered-answer.result.1 c.fresh_control.result c.create_clipping_predictor-made.result _ h.0 h.1 (to_z_pos w32 c.answered-answer.result.1.channels (omega (arith, h.1.high))) c.fresh_control.ensures c.create_clipping_predictor-made.ensures
