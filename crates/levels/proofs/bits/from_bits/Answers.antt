-- `levels::bits::from_bits` meets its contract: a pattern above that of infinity is a not-a-number's, and 0 / 0 is one. Assumes nothing.
use mathlib.Core.Path.{sym}
use lib.Ieee
use Rattle.levels.proofs.Pattern.{nan_pattern, number_pattern}
use Rattle.levels.proofs.bits.from_bits.Goals as goal

pub returns-then-bits-gt2139095040 : goal.returns-then-bits-gt2139095040
unfolding Ieee.div Ieee.of_bits
returns-then-bits-gt2139095040 c = sym (nan_pattern c.args.bits c.if-bits-gt2139095040.true)

pub float_from_bits-result : goal.float_from_bits-result
float_from_bits-result c = number_pattern c.args.bits c.if-bits-gt2139095040.false
