-- The controller that the numbers of C stand for, and a controller in numbers. Definitions only.
use Rattle.std.specs.Prelude.{ℕ, pos}
use Rattle.input_volume_controller.specs.declared.InputVolumeController.{InputVolumeController}
use Rattle.input_volume_controller.specs.Controller.{together}
use Rattle.input_volume_controller.specs.Plain.{whole_control, plain_control, whole_predictor, plain_predictor}
use Rattle.agc2.specs.declared.answers.Agc2Controller.{Agc2Controller}

abbrev pub whole_of : Agc2Controller → InputVolumeController
whole_of c = together (whole_control c.control.control) (whole_predictor c.predictor)

-- beside an answer; no recommendation has been answered since
abbrev pub beside_of : ℕ → ℕ → InputVolumeController → Agc2Controller
beside_of refusal near c = record {
  refusal = refusal;
  near = near;
  control = record { present = 0; volume = pos 0; control = plain_control c.control };
  predictor = plain_predictor c.predictor;
}
