-- `measuring::most_clipped` meets its contract: channel by channel, each with the part of the frame that is its own. Assumes nothing.
use mathlib.Core.Path.{◌≡◌}
use mathlib.Core.List.{[]}
use Prim.Native.Nat.{◌≤◌}
use Rattle.clipping_predictor_level_buffer.specs.Clipped.{clipped_in}
use Rattle.clipping_predictor.specs.Predictor.{part_of}
use Rattle.clipping_predictor.proofs.MostClipped.{most_before}
use Rattle.clipping_predictor.proofs.measuring.most_clipped.Given as goal

abbrev pub invariant-loop-c : goal.invariant-loop-c
invariant-loop-c l = (l.most ≡ most_before [] clipped_in (part_of l.samples l.frame) l.first l.c) × (l.c ≤ l.first)
