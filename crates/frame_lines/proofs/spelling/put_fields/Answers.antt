-- `frame_lines::spelling::put_fields` meets its contract: each turn puts one field. Assumes nothing.
use native.Mathlib.Omega.{arith}
use Rattle.frame_lines.proofs.Walking.{starts, count_fits, field_fits, blank_fits, stepped, walked}
use Rattle.frame_lines.proofs.spelling.put_fields.Goals as goal

pub loop-from-init : goal.loop-from-init
loop-from-init c = starts _ _ _ c.behind_blanks-from.ensures

pub put_small-requires : goal.put_small-requires
put_small-requires c =
    field_fits _ _ c.requires _ _ _ _ c.loop-from.invariant c.loop-from-test.true _ c.field_end-end.ensures

pub bounds-out-length : goal.bounds-out-length
bounds-out-length c =
    blank_fits _ _ c.requires _ _ _ _ c.loop-from.invariant c.loop-from-test.true _ c.field_end-end.ensures _ c.put_small.ensures

pub overflow_add-count : goal.overflow_add-count
overflow_add-count c =
    omega (arith, c.requires, count_fits _ _ c.requires _ _ _ _ c.loop-from.invariant c.loop-from-test.true _ c.field_end-end.ensures)

pub loop-from-preserved : goal.loop-from-preserved
loop-from-preserved c =
    stepped _ _ c.requires _ _ _ _ c.loop-from.invariant c.loop-from-test.true _ c.field_end-end.ensures
    _ c.put_small.ensures _ c.behind_blanks-from-in-loop-from.ensures

pub returns : goal.returns
returns c = walked _ _ c.requires _ _ _ _ c.loop-from.invariant (omega (arith, c.loop-from-test.false))
