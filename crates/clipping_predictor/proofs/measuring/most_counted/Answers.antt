-- `measuring::most_counted` meets its contract: channel by channel. Assumes nothing.
use mathlib.Core.Path.{ap, sym, ◌∙◌}
use mathlib.Core.List.{List, map, foldl}
use Prim.Native.Nat.{ℕ, max, ◌≤◌}
use native.Mathlib.Omega.{arith}
use lib.ListN.{length, get_or, take, length-take}
use lib.Seq.{take_all}
use Rattle.std.proofs.lemmas.List.{get_or-take}
use Rattle.numbers.proofs.Listed.{listed_of}
use Rattle.clipping_predictor_level_buffer.specs.declared.level.Level.{Level}
use Rattle.clipping_predictor_level_buffer.specs.Ring.{no_level}
use Rattle.clipping_predictor_level_buffer.specs.Metrics.{clipped_of}
use Rattle.clipping_predictor_level_buffer.proofs.Folds.{folded_more}
use Rattle.clipping_predictor.specs.MostClipped.{most_counted}
use Rattle.clipping_predictor.proofs.measuring.most_counted.Goals as goal

pub loop-level-preserved : goal.loop-level-preserved
loop-level-preserved c =
    let items = take c.args.first c.args.levels.items in
    c.max-most.ensures ∙ ap (λ (m : ℕ). max m (clipped_of (get_or items c.loop-level.level-index no_level))) c.loop-level.invariant ∙ sym (folded_more max clipped_of no_level 0 items c.loop-level.level-index c.loop-level-test.true)

pub returns : goal.returns
unfolding most_counted
returns c =
    let items = take c.args.first c.args.levels.items in
    let room : c.args.first ≤ length c.args.levels.items = omega arith in
    c.loop-level.invariant
    ∙ ap (λ (l : List Level). foldl max 0 (map clipped_of l)) (take_all c.loop-level.level-index items c.loop-level-test.false)
    ∙ ap (λ (l : List Level). foldl max 0 (map clipped_of l)) (listed_of items no_level _ c.args.first (omega (arith, length-take c.args.first c.args.levels.items, room)) (λ i h. get_or-take c.args.first c.args.levels.items i no_level h))
