-- `clipping_predictor_level_buffer::level::magnitude` meets its contract: a magnitude's bits are those of a number. Assumes nothing.
use mathlib.Core.Path.{sym, ap, subst}
use mathlib.Core.Bool.{not}
use Prim.Native.Nat.{ℕ}
use lib.Dec.{T}
use lib.Ieee.{binary32, nan_bits, of_bits}
use Rattle.levels.proofs.BitOrder.{no_nan_bits}
use Rattle.clipping_predictor_level_buffer.proofs.PeakBits.{sample_within}
use Rattle.clipping_predictor_level_buffer.proofs.level.magnitude.Goals as goal

pub float_from_bits-result : goal.float_from_bits-result
float_from_bits-result c = subst (λ (p : ℕ). T (not (nan_bits binary32 p))) (sym c.magnitude_bits.ensures) (no_nan_bits _ (sample_within _ (subst T (sym c.well_formed.0.1) tt)))

pub returns : goal.returns
returns c = ap (of_bits binary32) c.magnitude_bits.ensures
