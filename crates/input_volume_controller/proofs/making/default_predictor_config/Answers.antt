-- `making::default_predictor_config` meets its contract. Assumes nothing.
use mathlib.Core.Path.{refl}
use Rattle.input_volume_controller.proofs.making.default_predictor_config.Goals as goal

pub returns : goal.returns
returns c = refl
