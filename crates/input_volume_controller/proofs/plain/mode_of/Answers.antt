-- `plain::mode_of` meets its contract. Assumes nothing.
use borrow.Author.Rules.{rules}
use Rattle.input_volume_controller.proofs.Numbered.{event, adaptive, fixed}
use Rattle.input_volume_controller.proofs.plain.mode_of.Goals as goal

pub returns-in-0 : goal.returns-in-0
returns-in-0 c = event c.in-0.is

pub returns-in-1 : goal.returns-in-1
returns-in-1 c = adaptive c.in-1.is

pub returns-in_default : goal.returns-in_default
returns-in_default c = fixed _ (search rules) (search rules)
