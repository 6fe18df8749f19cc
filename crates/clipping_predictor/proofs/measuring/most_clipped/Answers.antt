-- `measuring::most_clipped` meets its contract: channel by channel, each with the part of the frame that is its own. Assumes nothing.
use mathlib.Core.Path.{refl, sym, ap, ◌∙◌}
use mathlib.Core.List.{[]}
use Prim.Native.Nat.{max}
use native.Mathlib.Omega.{arith}
use lib.ListN.{length}
use Rattle.clipping_predictor_level_buffer.specs.Clipped.{clipped_in}
use Rattle.clipping_predictor.specs.Predictor.{part_of}
use Rattle.clipping_predictor.specs.MostClipped.{most_clipped}
use Rattle.clipping_predictor.proofs.FrameLevels.{a_part}
use Rattle.clipping_predictor.proofs.MostClipped.{one_more, all}
use Rattle.clipping_predictor.proofs.measuring.most_clipped.Goals as goal

pub loop-c-init : goal.loop-c-init
loop-c-init c = (refl, omega arith)

pub part-requires : goal.part-requires
part-requires c =
    let p = a_part c.args.channels c.args.samples c.args.frame.now c.loop-c.c (omega arith) c.requires.1 c.requires.2 in
    (p.within, p.short)

pub clipped_in-requires : goal.clipped_in-requires
clipped_in-requires c =
    let p = a_part c.args.channels c.args.samples c.args.frame.now c.loop-c.c (omega arith) c.requires.1 c.requires.2 in
    omega (arith, ap length c.part.ensures, p.long, p.most)

pub loop-c-preserved : goal.loop-c-preserved
loop-c-preserved c =
    let here = c.clipped_in.ensures ∙ ap clipped_in c.part.ensures in
    (c.max-most.ensures ∙ (λ j. max (c.loop-c.invariant.0 j) (here j)) ∙ sym (one_more [] clipped_in (part_of c.args.samples c.args.frame.now) c.args.first c.loop-c.c (omega arith)), omega arith)

pub returns : goal.returns
unfolding most_clipped
returns c = c.loop-c.invariant.0 ∙ all [] clipped_in (part_of c.args.samples c.args.frame.now) c.args.first c.loop-c.c (omega arith)
