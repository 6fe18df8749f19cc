-- Frames of one sample, of which the examples are made: of zero, of 30,000, and of 32,767, which is clipped. Assumes nothing.
use mathlib.Core.Bool.{false}
use mathlib.Core.List.{[], ◌∷◌}
use Prim.Native.Nat.{ℕ}
use lib.IntN.{pos}
use lib.Ieee.{fin}
use Rattle.clipping_predictor_level_buffer.specs.Statistics.{plus_zero}
use Rattle.input_volume_controller.specs.Limits.{plain_limits}
use Rattle.input_volume_controller.specs.Calls.{Call, frame}

abbrev pub still : ℕ → Call
still volume = frame plain_limits (pos volume ∷ []) 1 (plus_zero ∷ [])

abbrev pub loud : ℕ → Call
loud volume = frame plain_limits (pos volume ∷ []) 1 (fin false 1875 (pos 4) ∷ [])

abbrev pub clipped : ℕ → Call
clipped volume = frame plain_limits (pos volume ∷ []) 1 (fin false 32767 (pos 0) ∷ [])
