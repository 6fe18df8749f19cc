-- `ClippingPredictor::heard_levels` meets its contract: channel by channel, each with its level; where nothing is heard, no channel. Assumes nothing.
use mathlib.Core.Path.{◌≡◌}
use mathlib.Core.List.{List}
use Prim.Native.Nat.{ℕ}
use lib.ListN.{get_or}
use Rattle.numbers.proofs.Arrays.{Replaced}
use Rattle.clipping_predictor_level_buffer.specs.declared.level.Level.{Level}
use Rattle.clipping_predictor_level_buffer.specs.Ring.{no_level}
use Rattle.clipping_predictor.specs.Predictor.{no_ring}
use Rattle.clipping_predictor.proofs.Frames.{Kept, PushedAt, entering}
use Rattle.clipping_predictor.proofs.Joins.{predicted_before}
use Rattle.clipping_predictor.proofs.ClippingPredictor.heard_levels.Given as goal

abbrev pub level : List Level → ℕ → Level
level items c = get_or items c no_level

abbrev pub invariant-loop-c : goal.invariant-loop-c
invariant-loop-c l =
    Kept l.initial.p l.p × Replaced no_ring (PushedAt l.levels.items) l.c l.initial.p.rings l.p.rings × (l.e ≡ predicted_before l.question l.initial.p.settings (entering l.initial.p (level l.levels.items)).rings l.c)
