-- `levels::parts::magnitude_bits` meets its contract: a mask of low ones is a remainder. Assumes nothing.
use Rattle.std.proofs.Common.{sym, ap, ◌∙◌}
use Rattle.levels.specs.FloatParts.{magnitude_bits_of}
use Rattle.levels.proofs.Pattern.{nan_only}
use Rattle.levels.proofs.BitOrder.{bits_of_nan, masked_bits}
use Rattle.levels.proofs.parts.magnitude_bits.Goals as goal

pub returns-then-is_nan : goal.returns-then-is_nan
returns-then-is_nan c = sym (ap magnitude_bits_of (nan_only c.args.x (sym c.is_nan.ensures.value ∙ c.if-is_nan.true)) ∙ bits_of_nan)

pub returns : goal.returns
returns c = masked_bits c.args.x (sym c.is_nan.ensures.value ∙ c.if-is_nan.false)
