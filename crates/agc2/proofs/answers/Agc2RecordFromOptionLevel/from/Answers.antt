-- `Agc2RecordFromOptionLevel`: `from` gives what `record_of` says. Assumes nothing.
use mathlib.Core.Path.{sym, ap}
use Rattle.std.specs.Prelude.{Option}
use Rattle.clipping_predictor_level_buffer.specs.declared.level.Level.{Level}
use Rattle.agc2.specs.Answers.{record_of}
use Rattle.agc2.proofs.answers.Agc2RecordFromOptionLevel.from.Goals as goal

pub returns-in-Some : goal.returns-in-Some
returns-in-Some c = sym (ap (λ (s : Option Level). record_of s) c.in-Some.is)

pub returns-in-None : goal.returns-in-None
returns-in-None c = sym (ap (λ (s : Option Level). record_of s) c.in-None.is)
