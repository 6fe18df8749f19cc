-- `agc2::version::agc2_version` meets its contract. Assumes nothing.
use mathlib.Core.Path.{refl}
use Rattle.agc2.proofs.version.agc2_version.Goals as goal

pub returns : goal.returns
returns c = refl
