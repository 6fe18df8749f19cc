-- `levels::parts::take_apart` meets its contract: a mask of low ones is a remainder. Assumes nothing.
use Rattle.std.proofs.Common.{sym, ◌∙◌}
use Rattle.levels.proofs.Pattern.{is_nan_lem, masked}
use Rattle.levels.proofs.parts.take_apart.Goals as goal

pub returns-then-is_nan : goal.returns-then-is_nan
returns-then-is_nan c = is_nan_lem c.args.x (sym c.is_nan.ensures.value ∙ c.if-is_nan.true)

pub returns : goal.returns
returns c = masked c.args.x (sym c.is_nan.ensures.value ∙ c.if-is_nan.false)
