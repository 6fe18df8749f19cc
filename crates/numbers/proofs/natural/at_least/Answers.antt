-- `numbers::natural::at_least` meets its contract: no i32 lies above the high end. Assumes nothing.
use mathlib.Core.Path.{ap, ◌∙◌}
use native.Mathlib.Omega.{arith}
use mir.Syntax.{w32}
use mir.ValLaws.{to_z-of_z}
use Rattle.numbers.specs.Natural.{within_of}
use Rattle.numbers.proofs.Ranges.{at_least_is}
use Rattle.numbers.proofs.natural.at_least.Goals as goal

pub returns : goal.returns
returns c =
    let s = c.before in
    c.within.ensures ∙ ap (within_of s.args.low _) (to_z-of_z w32 s.args.x s.ranges.x) ∙ at_least_is s.args.low _ s.args.x (omega (arith, s.ranges.x.sfits))
