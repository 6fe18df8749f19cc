-- `gain_map::difference_above` meets its contract: the two bits of the volume in its word. Assumes nothing.
use mathlib.Core.Path.{ap, ◌∙◌}
use Prim.Native.Nat.{ℕ, ◌*◌, ◌/◌, ◌%◌, ◌^◌}
use native.Mathlib.Nat.{lt_of_le_of_lt}
use native.Mathlib.Omega.{arith}
use lib.Bits.{and_le_r, and_mask}
use Rattle.gain_map.specs.Differences.{difference}
use Rattle.gain_map.proofs.difference_above.Goals as goal

pub overflow_cast-result-2 : goal.overflow_cast-result-2
overflow_cast-result-2 c = record { fits = lt_of_le_of_lt {m = 3} (and_le_r (c.packed_differences.result / 2 ^ (2 * (c.args.volume % 32))) 3) (omega arith) }

pub returns : goal.returns
unfolding difference
returns c =
    and_mask (c.packed_differences.result / 2 ^ (2 * (c.args.volume % 32))) 2 ∙ ap (λ (w : ℕ). w / 2 ^ (2 * (c.args.volume % 32)) % 4) c.packed_differences.ensures
