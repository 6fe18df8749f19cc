-- `volume_set::bytes_of` meets its contract: place by place, and the first volume outside ends it. Assumes nothing.
use mathlib.Core.Path.{◌≡◌}
use mathlib.Core.List.{List}
use Prim.Native.Nat.{ℕ}
use lib.IntN.{ℤ}
use lib.ListN.{replicate}
use Rattle.std.specs.Prelude.{Some}
use Rattle.numbers.proofs.Arrays.{Replaced}
use Rattle.clipping_predictor.specs.Predictor.{max_channels}
use Rattle.input_volume_controller.proofs.Sets.{number_at}
use Rattle.input_volume_controller.proofs.volume_set.bytes_of.Given as goal

abbrev pub TakenAt : List ℤ → ℕ → ℕ → ℕ → Type 0
TakenAt volumes i old new = number_at volumes i ≡ Some new

abbrev pub invariant-loop-i : goal.invariant-loop-i
invariant-loop-i l = Replaced 0 (TakenAt l.volumes) l.i (replicate max_channels 0) l.levels
