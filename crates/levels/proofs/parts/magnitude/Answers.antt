-- `levels::parts::magnitude` meets its contract: the pattern with the sign bit clear is the magnitude's. Assumes nothing.
use mathlib.Core.Path.{sym, subst, ◌∙◌}
use native.Mathlib.Omega.{arith}
use lib.Dec.{T}
use lib.Ieee.{binary32, fits}
use Rattle.levels.proofs.Pattern.{Stands, stands}
use Rattle.levels.proofs.Unsigned.{of_nan, made, made_number}
use Rattle.levels.proofs.parts.magnitude.Goals as goal
use Rattle.levels.proofs.parts.magnitude.Goals.{In-Some, Start}

-- what owning an f32 tells: the format holds it
fit : (c : Start) → T (fits binary32 c.args.x)
fit c = subst T (sym c.well_formed.0.1) tt

-- x is what its fields stand for
fields : (c : In-Some) → Stands c.args.x c.in-Some.field-0.negative c.in-Some.field-0.exponent c.in-Some.field-0.fraction
fields c = stands _ (fit c.before.before) _ _ _ (sym c.take_apart.ensures ∙ c.in-Some.is)

pub returns-in_default : goal.returns-in_default
returns-in_default c = of_nan _ (sym c.take_apart.ensures ∙ c.in_default.is)

pub overflow_add-result : goal.overflow_add-result
overflow_add-result c = let f = fields c in omega arith

pub float_from_bits-result : goal.float_from_bits-result
float_from_bits-result c = made_number _ _ _ _ (fields c)

pub returns : goal.returns
returns c = made _ _ _ _ (fields c)
