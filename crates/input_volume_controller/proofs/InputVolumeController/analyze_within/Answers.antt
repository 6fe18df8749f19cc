-- `InputVolumeController::analyze_within` meets its contract: as many equal volumes as there are channels. Assumes nothing.
use mathlib.Core.Path.{subst}
use lib.IntN.{ℤ}
use Rattle.numbers.proofs.Signs.{again}
use Rattle.input_volume_controller.specs.Volumes.{equal_volumes}
use Rattle.input_volume_controller.specs.VolumeSet.{SetOf}
use Rattle.input_volume_controller.proofs.Whole.{of_set}
use Rattle.input_volume_controller.proofs.InputVolumeController.analyze_within.Goals as goal

pub returns : goal.returns
returns c =
    -- the c.args.applied_input_volume as the machine reads it back
    let equal = subst (λ (v : ℤ). SetOf (equal_volumes v c.args.self.control.channels.count) c.equal_volumes.result) (again c.args.applied_input_volume c.ranges.applied_input_volume.sfits) c.equal_volumes.ensures in
    of_set c.args.most c.args.self c.requires (equal_volumes c.args.applied_input_volume c.args.self.control.channels.count) _ equal c.args.samples_per_channel c.args.frame.now c.analyze_volumes.ensures
