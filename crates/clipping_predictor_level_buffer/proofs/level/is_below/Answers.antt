-- `clipping_predictor_level_buffer::level::is_below` meets its contract: the constant is the whole number 32767. Assumes nothing.
use mathlib.Core.Path.{ap}
use lib.IntN.{pos}
use lib.Ieee
use lib.Ieee.{Float, binary32, lt, of_int}
use Rattle.clipping_predictor_level_buffer.proofs.level.is_below.Goals as goal

pub returns : goal.returns
unfolding Ieee.of_bits Ieee.of_int
returns c = ap (λ (m : Float). lt m (of_int binary32 (pos 32767))) c.magnitude.ensures
