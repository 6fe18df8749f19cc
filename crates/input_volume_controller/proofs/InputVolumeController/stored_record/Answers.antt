-- `InputVolumeController::stored_record` meets its contract. Assumes nothing.
use mathlib.Core.Path.{◌∙◌}
use native.Mathlib.Omega.{arith}
use Rattle.input_volume_controller.specs.Controller.{view_of}
use Rattle.input_volume_controller.proofs.Whole.{stored_none, stored_some}
use Rattle.input_volume_controller.proofs.InputVolumeController.stored_record.Goals as goal

pub returns-then-predictor-channel : goal.returns-then-predictor-channel
unfolding view_of
returns-then-predictor-channel c = stored_none c.args.self.predictor _ _ c.if-predictor-channel.true

pub offset_bounds-predictor-channel : goal.offset_bounds-predictor-channel
offset_bounds-predictor-channel c = omega (arith, c.requires.predictor.channels_high, c.if-predictor-channel.false)

pub bounds-predictor-channel : goal.bounds-predictor-channel
bounds-predictor-channel c = omega (arith, c.requires.predictor.channels_high, c.if-predictor-channel.false)

pub stored_at-requires : goal.stored_at-requires
stored_at-requires c = (c.requires.predictor.each c.args.channel c.if-predictor-channel.false).ring

pub returns : goal.returns
unfolding view_of
returns c = c.stored_at.ensures ∙ stored_some c.args.self.predictor _ _ c.if-predictor-channel.false
