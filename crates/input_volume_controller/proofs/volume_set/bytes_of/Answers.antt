-- `volume_set::bytes_of` meets its contract: place by place, and the first volume outside ends it. Assumes nothing.
use mathlib.Core.Path.{◌≡◌, sym, ap, ◌∙◌}
use native.Mathlib.Omega.{arith}
use lib.IntN.{pos}
use lib.ListN.{get_or, replicate}
use Rattle.numbers.specs.Natural.{within_of}
use Rattle.numbers.proofs.Ranges.{told}
use Rattle.numbers.proofs.Signs.{again}
use Rattle.mono_input_volume_controller.specs.MonoState.{max_input_volume}
use Rattle.numbers.proofs.Arrays.{replaced_more}
use Rattle.clipping_predictor.specs.Predictor.{max_channels}
use Rattle.input_volume_controller.specs.VolumeSet.{level_at, levels_of, volumes_in}
use Rattle.input_volume_controller.proofs.Sets.{number_at, numbers_listed, numbers_outside}
use Rattle.input_volume_controller.proofs.volume_set.bytes_of.Invariants.{TakenAt}
use Rattle.input_volume_controller.proofs.volume_set.bytes_of.Goals as goal

pub returns-in_err-levels : goal.returns-in_err-levels
unfolding volumes_in
returns-in_err-levels c low high =
    let v = get_or c.args.volumes.now c.loop-i.i (pos 0) in
    let tested : number_at c.args.volumes.now c.loop-i.i ≡ c.within.result =
    ap (within_of 0 max_input_volume) (sym (again v c.within-arg-1.given)) ∙ sym c.within.ensures in
    rw c.from_residual.ensures (numbers_outside c.args.volumes.now c.loop-i.i (omega arith) (tested ∙ c.in_err-levels.was))

pub overflow_cast-levels : goal.overflow_cast-levels
overflow_cast-levels c =
    let t = told 0 max_input_volume _ _ (sym c.within.ensures ∙ c.in_ok-levels.was) in omega (arith, t.most)

pub loop-i-preserved : goal.loop-i-preserved
loop-i-preserved c =
    let v = get_or c.args.volumes.now c.loop-i.i (pos 0) in
    let tested : number_at c.args.volumes.now c.loop-i.i ≡ c.within.result =
    ap (within_of 0 max_input_volume) (sym (again v c.within-arg-1.given)) ∙ sym c.within.ensures in
    replaced_more 0 (TakenAt c.args.volumes.now) (replicate max_channels 0) c.loop-i.i c.loop-i.levels _ c.loop-i.invariant (omega (arith, c.if-volumes-gt-MAX_CHANNELS.false)) (tested ∙ c.in_ok-levels.was)

pub returns : goal.returns
unfolding volumes_in levels_of
returns c low high = numbers_listed c.args.volumes.now (level_at c.loop-i.levels) (λ i h. c.loop-i.invariant.done i (omega arith))
