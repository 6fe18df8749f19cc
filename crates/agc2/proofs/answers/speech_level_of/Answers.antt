-- `answers::speech_level_of` meets its contract. Assumes nothing.
use mathlib.Core.Path.{◌∙◌}
use Rattle.agc2.proofs.Flags.{level_is}
use Rattle.agc2.proofs.answers.speech_level_of.Goals as goal

pub returns : goal.returns
returns c = c.then_some.ensures ∙ level_is c.args.present c.args.dbfs
