-- `levels::rounding::whole_part` meets its contract, by the range of the exponent. Assumes nothing.
use native.Mathlib.Omega.{arith}
use Prim.Native.Nat.{◌-◌}
use Rattle.levels.proofs.Whole.{none, bit_small, cut, lifted, held_31}
use Rattle.levels.proofs.rounding.whole_part.Goals as goal

pub returns-then-exponent-lt126 : goal.returns-then-exponent-lt126
returns-then-exponent-lt126 c = none c.args.exponent c.args.fraction c.if-exponent-lt126.true c.requires.1

pub overflow_add-result : goal.overflow_add-result
overflow_add-result c = let small = bit_small (150 - c.args.exponent - 1) (omega arith) in omega arith

pub returns-then-exponent-lt150 : goal.returns-then-exponent-lt150
returns-then-exponent-lt150 c = cut c.args.exponent c.args.fraction c.if-exponent-lt126.false c.if-exponent-lt150.true c.requires.1

pub returns-then-exponent-lt158 : goal.returns-then-exponent-lt158
returns-then-exponent-lt158 c = lifted c.args.exponent c.args.fraction c.if-exponent-lt150.false c.if-exponent-lt158.true c.requires.1

pub returns : goal.returns
returns c = held_31 c.args.exponent c.args.fraction c.if-exponent-lt158.false
