-- `clipping_predictor_level_buffer::level::counted` meets its contract: where all magnitudes lie below the end of the scale nothing is added. Assumes nothing.
use mathlib.Core.Path.{sym, subst}
use mathlib.Core.Bool.{◌&&◌}
use native.Mathlib.Omega.{arith}
use lib.Dec.{T}
use Rattle.clipping_predictor_level_buffer.proofs.Clipped.{count_most}
use Rattle.clipping_predictor_level_buffer.proofs.NotClipped.{four_below}
use Rattle.clipping_predictor_level_buffer.proofs.level.counted.Goals as goal

pub returns-then-is_below-4 : goal.returns-then-is_below-4
returns-then-is_below-4 c =
    four_below c.args.clipped c.args.w c.args.x c.args.y c.args.z (subst T (sym c.well_formed.1.0.1) tt) (subst T (sym c.well_formed.1.1.0.1) tt) (subst T (sym c.well_formed.1.1.1.0.1) tt) (subst T (sym c.well_formed.1.1.1.1.0.1) tt)
    (λ i. (sym c.if-is_below.ensures i && sym c.if-is_below-2.ensures i) && (sym c.if-is_below-3.ensures i && sym c.if-is_below-4.ensures i))

-- each count is 0 or 1
pub overflow_add-result : goal.overflow_add-result
overflow_add-result c = omega (arith, c.count_of.ensures, count_most c.args.w)

pub overflow_add-result-2 : goal.overflow_add-result-2
overflow_add-result-2 c = omega (arith, c.count_of.ensures, count_most c.args.w, c.count_of-2.ensures, count_most c.args.x)

pub overflow_add-result-3 : goal.overflow_add-result-3
overflow_add-result-3 c =
    omega (arith, c.count_of.ensures, count_most c.args.w, c.count_of-2.ensures, count_most c.args.x, c.count_of-3.ensures, count_most c.args.y)

pub overflow_add-result-4 : goal.overflow_add-result-4
overflow_add-result-4 c =
    omega
    (arith, c.count_of.ensures, count_most c.args.w, c.count_of-2.ensures, count_most c.args.x, c.count_of-3.ensures, count_most c.args.y, c.count_of-4.ensures, count_most c.args.z)
