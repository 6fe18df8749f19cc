-- `agc2::layout::agc2_layout_1` meets its contract, number by number. Assumes nothing.
use mathlib.Core.Path.{refl}
use Rattle.agc2.proofs.layout.agc2_layout_1.Goals as goal

pub returns : goal.returns
returns c = refl
