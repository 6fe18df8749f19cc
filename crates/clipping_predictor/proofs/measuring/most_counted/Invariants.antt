-- `measuring::most_counted` meets its contract: channel by channel. Assumes nothing.
use mathlib.Core.Path.{◌≡◌}
use mathlib.Core.List.{map, foldl}
use Prim.Native.Nat.{max}
use lib.ListN.{take}
use Rattle.clipping_predictor_level_buffer.specs.Metrics.{clipped_of}
use Rattle.clipping_predictor.proofs.measuring.most_counted.Given as goal

abbrev pub invariant-loop-level : goal.invariant-loop-level
invariant-loop-level l = l.most ≡ foldl max 0 (map clipped_of (take l.level-index l.level-items))
