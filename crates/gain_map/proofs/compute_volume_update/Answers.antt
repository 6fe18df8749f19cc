-- `gain_map::compute_volume_update` meets its contract: each return by the answers that lead there. Assumes nothing.
use mathlib.Core.Path.{◌≡◌, ap, ◌∙◌}
use native.Mathlib.Omega.{arith}
use lib.IntN.{ℤ, pos}
use mir.Syntax.{w32}
use mir.Val.{SFits}
use mir.ValLaws.{to_z-of_z}
use Rattle.std.proofs.lemmas.Int.{ints}
use Rattle.std.specs.Prelude.{Ok}
use Rattle.numbers.proofs.Asked.{asked_none, asked_some, handed_on}
use Rattle.numbers.proofs.Signs.{read}
use Rattle.numbers.proofs.Ranges.{told}
use Rattle.numbers.specs.Said.{said}
use Rattle.gain_map.specs.VolumeUpdate.{volume_update_of}
use Rattle.gain_map.proofs.Paths.{no_minimum, no_volume, no_maximum, above_maximum, steps_to}
use Rattle.gain_map.proofs.compute_volume_update.Goals as goal

-- the step for the numbers as the machine reads them back
back : (g v n x : ℤ) → SFits w32 g → SFits w32 v → SFits w32 n → SFits w32 x → volume_update_of (read g) (read v) (read n) (read x) ≡ volume_update_of g v n x
back g v n x a b d e = λ i. volume_update_of (to_z-of_z w32 g a i) (to_z-of_z w32 v b i) (to_z-of_z w32 n d i) (to_z-of_z w32 x e i)

pub returns-in_err-min : goal.returns-in_err-min
returns-in_err-min c =
    ap said
    (handed_on _ _ _ _ c.from_residual.ensures.1 c.ok_or.ensures.value c.in_err-min.was ∙ no_minimum _ _ _ _ (asked_none _ _ _ _ c.within.ensures c.ok_or.ensures.value c.in_err-min.was)
    ∙ back _ _ _ _ c.ranges.gain_error_db c.ranges.input_volume c.ranges.min_input_volume c.ranges.max_input_volume)

pub returns-in_err-volume : goal.returns-in_err-volume
returns-in_err-volume c =
    ap said
    (handed_on _ _ _ _ c.from_residual-in_err-volume.ensures.1 c.ok_or-2.ensures.value c.in_err-volume.was
    ∙ no_volume _ _ _ _ _ (asked_some _ _ _ _ c.within.ensures c.ok_or.ensures.value c.in_ok-min.was) (asked_none _ _ _ _ c.within-2.ensures c.ok_or-2.ensures.value c.in_err-volume.was)
    ∙ back _ _ _ _ c.ranges.gain_error_db c.ranges.input_volume c.ranges.min_input_volume c.ranges.max_input_volume)

pub returns-in_err-max : goal.returns-in_err-max
returns-in_err-max c =
    ap said
    (handed_on _ _ _ _ c.from_residual-in_err-max.ensures.1 c.ok_or-3.ensures.value c.in_err-max.was
    ∙ no_maximum _ _ _ _ _ (asked_some _ _ _ _ c.within.ensures c.ok_or.ensures.value c.in_ok-min.was) _ (asked_some _ _ _ _ c.within-2.ensures c.ok_or-2.ensures.value c.in_ok-volume.was)
    (asked_none _ _ _ _ c.within-3.ensures c.ok_or-3.ensures.value c.in_err-max.was)
    ∙ back _ _ _ _ c.ranges.gain_error_db c.ranges.input_volume c.ranges.min_input_volume c.ranges.max_input_volume)

pub returns-then-max-volume : goal.returns-then-max-volume
returns-then-max-volume c =
    ap said
    (above_maximum _ _ _ _ _ (asked_some _ _ _ _ c.within.ensures c.ok_or.ensures.value c.in_ok-min.was) _ (asked_some _ _ _ _ c.within-2.ensures c.ok_or-2.ensures.value c.in_ok-volume.was) _
    (asked_some _ _ _ _ c.within-3.ensures c.ok_or-3.ensures.value c.in_ok-max.was) c.if-max-volume.true
    ∙ back _ _ _ _ c.ranges.gain_error_db c.ranges.input_volume c.ranges.min_input_volume c.ranges.max_input_volume)

pub overflow_cast-volume : goal.overflow_cast-volume
overflow_cast-volume c = omega (arith, told _ _ _ _ (asked_some _ _ _ _ c.within-2.ensures c.ok_or-2.ensures.value c.in_ok-volume.was))

pub overflow_cast-min : goal.overflow_cast-min
overflow_cast-min c = omega (arith, told _ _ _ _ (asked_some _ _ _ _ c.within.ensures c.ok_or.ensures.value c.in_ok-min.was))

pub overflow_cast-max : goal.overflow_cast-max
overflow_cast-max c = omega (arith, told _ _ _ _ (asked_some _ _ _ _ c.within-3.ensures c.ok_or-3.ensures.value c.in_ok-max.was))

pub returns : goal.returns
returns c =
    ap said
    (ap Ok (omega (arith, ints, c.walk_from.type_inv, c.from.ensures) ∙ ap pos c.walk_from.ensures)
    ∙ steps_to _ _ _ _ _ (asked_some _ _ _ _ c.within.ensures c.ok_or.ensures.value c.in_ok-min.was) _ (asked_some _ _ _ _ c.within-2.ensures c.ok_or-2.ensures.value c.in_ok-volume.was) _
    (asked_some _ _ _ _ c.within-3.ensures c.ok_or-3.ensures.value c.in_ok-max.was) c.if-max-volume.false
    ∙ back _ _ _ _ c.ranges.gain_error_db c.ranges.input_volume c.ranges.min_input_volume c.ranges.max_input_volume)
