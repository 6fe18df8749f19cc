-- `agc2_stored_record_by_value` meets its contract. Assumes nothing.
use mathlib.Core.Path.{ap, ◌∙◌}
use mathlib.Core.List.{[]}
use lib.ListN.{get_or}
use Rattle.clipping_predictor_level_buffer.specs.Ring.{stored_at}
use Rattle.input_volume_controller.specs.declared.InputVolumeController.{InputVolumeController}
use Rattle.input_volume_controller.specs.Controller.{view_of}
use Rattle.agc2.specs.Answers.{record_of}
use Rattle.agc2.proofs.Handed.{in_order}
use Rattle.agc2.proofs.agc2_stored_record_by_value.Goals as goal

pub stored_record-requires : goal.stored_record-requires
stored_record-requires c = in_order c.whole.ensures c.requires

pub returns : goal.returns
returns c =
    c.from.ensures ∙ ap record_of (c.stored_record.ensures ∙ ap (λ (x : InputVolumeController). stored_at (get_or (view_of x).predictor.rings c.args.channel []) c.args.i) c.whole.ensures)
