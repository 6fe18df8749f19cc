-- `levels::bits::to_bits` meets its contract. Assumes nothing.
use Rattle.std.proofs.Common.{sym, ap, ◌∙◌}
use lib.Ieee.{binary32, to_bits}
use Rattle.levels.proofs.Pattern.{nan_only}
use Rattle.levels.proofs.bits.to_bits.Goals as goal

pub returns-then-is_nan : goal.returns-then-is_nan
unfolding to_bits
returns-then-is_nan c = sym (ap (to_bits binary32) (nan_only c.args.x (sym c.is_nan.ensures.value ∙ c.if-is_nan.true)))
