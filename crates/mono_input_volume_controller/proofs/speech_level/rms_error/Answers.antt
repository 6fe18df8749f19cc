-- `rms_error` meets its contract. Assumes nothing.
use mathlib.Core.Path.{◌∙◌}
use Rattle.numbers.proofs.Signs.{again}
use Rattle.mono_input_volume_controller.proofs.Errors.{absent, present}
use Rattle.mono_input_volume_controller.proofs.speech_level.rms_error.Goals as goal

pub returns-in-None : goal.returns-in-None
returns-in-None c = absent _ _ _ c.in-None.is

pub returns-in-Some : goal.returns-in-Some
returns-in-Some c =
    let min-is = again c.args.min c.ranges.min.sfits in
    let max_is = again c.args.max c.ranges.max.sfits in
    present _ _ _ _ _ _ _ _ c.in-Some.is c.hold.ensures min-is max_is (again c.error_of.result c.error_of.type_inv ∙ c.error_of.ensures)
