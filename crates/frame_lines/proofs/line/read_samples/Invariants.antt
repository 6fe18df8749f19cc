-- `frame_lines::line::read_samples` meets its contract: each turn takes one sample more. Assumes nothing.
use mathlib.Core.Path.{◌≡◌}
use Rattle.frame_lines.proofs.SampleTexts.{read_first}
use Rattle.frame_lines.proofs.line.read_samples.Given as goal

abbrev pub invariant-loop-n : goal.invariant-loop-n
invariant-loop-n l = l.samples ≡ read_first l.text l.initial.samples l.n
