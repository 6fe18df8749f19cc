-- `clipping_predictor::measuring::levels_of` meets its contract: two channels a turn, and the one that is left. Assumes nothing.
use mathlib.Core.Path.{sym, ap, ◌∙◌}
use Prim.Native.Nat.{◌+◌, ◌*◌, ◌-◌}
use native.Mathlib.Omega.{arith}
use lib.ListN.{length, length-replicate}
use Rattle.std.specs.Result.{is_ok}
use Rattle.numbers.proofs.Arrays.{replaced_more}
use Rattle.clipping_predictor_level_buffer.specs.declared.level.Level.{Level}
use Rattle.clipping_predictor_level_buffer.specs.Level.{frame_record}
use Rattle.clipping_predictor_level_buffer.specs.Ring.{no_level}
use Rattle.clipping_predictor.specs.Predictor.{max_channels}
use Rattle.clipping_predictor.specs.FrameLevels.{silence, silent}
use Rattle.clipping_predictor.proofs.FrameLevels.{MeasuredAt, is_array, so_many, same_Ok, is_measured, are_measured, a_part}
use Rattle.clipping_predictor.proofs.measuring.levels_of.Goals as goal

-- ---- two channels a turn

pub part-first-requires : goal.part-first-requires
part-first-requires c = let p = a_part c.args.channels c.args.samples c.args.frame.now (2 * c.loop-pair.pair) (omega arith) c.requires.0 c.requires.1 in (p.within, p.short)

pub part-second-requires : goal.part-second-requires
part-second-requires c = let p = a_part c.args.channels c.args.samples c.args.frame.now (2 * c.loop-pair.pair + 1) (omega arith) c.requires.0 c.requires.1 in (p.within, p.short)

pub unwrap-requires : goal.unwrap-requires
unwrap-requires c =
    let p = a_part c.args.channels c.args.samples c.args.frame.now (2 * c.loop-pair.pair) (omega arith) c.requires.0 c.requires.1 in
    let n = a_part c.args.channels c.args.samples c.args.frame.now (2 * c.loop-pair.pair + 1) (omega arith) c.requires.0 c.requires.1 in
    let first = ap length c.part-first.ensures ∙ p.long in
    let second = ap length c.part-second.ensures ∙ n.long in
    ap is_ok (are_measured _ _ c.measure_two.result (omega (arith, first, p.least)) (omega (arith, first, p.most)) (second ∙ sym first) c.measure_two.ensures)

pub loop-pair-preserved : goal.loop-pair-preserved
loop-pair-preserved c =
    let p = a_part c.args.channels c.args.samples c.args.frame.now (2 * c.loop-pair.pair) (omega arith) c.requires.0 c.requires.1 in
    let n = a_part c.args.channels c.args.samples c.args.frame.now (2 * c.loop-pair.pair + 1) (omega arith) c.requires.0 c.requires.1 in
    let first = ap length c.part-first.ensures ∙ p.long in
    let second = ap length c.part-second.ensures ∙ n.long in
    let levels = same_Ok _ _ (sym c.unwrap.ensures ∙ are_measured _ _ c.measure_two.result (omega (arith, first, p.least)) (omega (arith, first, p.most)) (second ∙ sym first) c.measure_two.ensures) in
    let places = length-replicate max_channels silence in
    let one = replaced_more no_level (MeasuredAt c.args.samples c.args.frame.now) silent (2 * c.loop-pair.pair) c.loop-pair.r.items c.unwrap.result.0 c.loop-pair.invariant (omega (arith, c.loop-pair-test.true, c.requires.0, places))
    (ap (λ (t : Level × Level). t.0) levels ∙ ap frame_record c.part-first.ensures) in
    let two = replaced_more no_level (MeasuredAt c.args.samples c.args.frame.now) silent (2 * c.loop-pair.pair + 1) _ c.unwrap.result.1 one (omega (arith, c.loop-pair-test.true, c.requires.0, places))
    (ap (λ (t : Level × Level). t.1) levels ∙ ap frame_record c.part-second.ensures) in
    so_many c.args.channels c.args.samples c.args.frame.now (2 * c.loop-pair.pair + 1 + 1) (2 * (c.loop-pair.pair + 1)) _ (omega arith) two

-- ---- the last one of an odd count

pub part-requires : goal.part-requires
part-requires c = let p = a_part c.args.channels c.args.samples c.args.frame.now (c.args.channels - 1) (omega arith) c.requires.0 c.requires.1 in (p.within, p.short)

pub unwrap-requires-then-channels-eq1 : goal.unwrap-requires-then-channels-eq1
unwrap-requires-then-channels-eq1 c =
    let p = a_part c.args.channels c.args.samples c.args.frame.now (c.args.channels - 1) (omega arith) c.requires.0 c.requires.1 in
    let m = ap length c.part.ensures ∙ p.long in
    ap is_ok (is_measured _ c.measure.result (omega (arith, m, p.least)) (omega (arith, m, p.most)) c.measure.ensures)

pub returns-then-channels-eq1 : goal.returns-then-channels-eq1
returns-then-channels-eq1 c =
    let p = a_part c.args.channels c.args.samples c.args.frame.now (c.args.channels - 1) (omega arith) c.requires.0 c.requires.1 in
    let m = ap length c.part.ensures ∙ p.long in
    let level = same_Ok _ _ (sym c.unwrap-then-channels-eq1.ensures ∙ is_measured _ c.measure.result (omega (arith, m, p.least)) (omega (arith, m, p.most)) c.measure.ensures) in
    let before = so_many c.args.channels c.args.samples c.args.frame.now (2 * c.loop-pair.pair) (c.args.channels - 1) c.loop-pair.r.items (omega arith) c.loop-pair.invariant in
    let one = replaced_more no_level (MeasuredAt c.args.samples c.args.frame.now) silent (c.args.channels - 1) c.loop-pair.r.items _ before (omega (arith, c.requires.0, length-replicate max_channels silence))
    (level ∙ ap frame_record c.part.ensures) in
    is_array c.args.channels c.args.samples c.args.frame.now _ (so_many c.args.channels c.args.samples c.args.frame.now (c.args.channels - 1 + 1) c.args.channels _ (omega arith) one)

pub returns-else-channels-eq1 : goal.returns-else-channels-eq1
returns-else-channels-eq1 c =
    is_array c.args.channels c.args.samples c.args.frame.now c.loop-pair.r.items (so_many c.args.channels c.args.samples c.args.frame.now (2 * c.loop-pair.pair) c.args.channels c.loop-pair.r.items (omega arith) c.loop-pair.invariant)
