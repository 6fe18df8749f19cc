-- `analyzed` meets its contract. Assumes nothing.
use mathlib.Core.Path.{subst}
use Rattle.input_volume_controller.specs.declared.InputVolumeController.{InputVolumeController}
use Rattle.input_volume_controller.specs.VolumeSet.{SetOf}
use Rattle.input_volume_controller.proofs.Whole.{of_set}
use Rattle.agc2.specs.Given.{volumes_for}
use Rattle.agc2.proofs.Handed.{in_order, framed}
use Rattle.agc2.proofs.analyzed.Goals as goal

pub analyze_volumes-analyzed-requires : goal.analyze_volumes-analyzed-requires
analyze_volumes-analyzed-requires c = in_order c.whole-c.ensures c.requires

pub returns : goal.returns
returns c =
    framed c.analyze_volumes-analyzed.result c.whole-c.ensures c.from-numbers.ensures c.beside.ensures
    (of_set c.args.most c.whole-c.result (in_order c.whole-c.ensures c.requires) _ c.set_for-set.result
    (subst (λ (x : InputVolumeController). SetOf (volumes_for x.control.channels.count c.args.volumes) c.set_for-set.result) c.whole-c.ensures c.set_for-set.ensures)
    c.args.samples_per_channel c.args.samples.now c.analyze_volumes-analyzed.ensures)
