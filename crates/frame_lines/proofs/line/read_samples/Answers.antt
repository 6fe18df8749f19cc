-- `frame_lines::line::read_samples` meets its contract: each turn takes one sample more. Assumes nothing.
use mathlib.Core.Path.{ap, ◌∙◌}
use Prim.Native.Nat.{ℕ, ◌<◌}
use native.Mathlib.Omega.{arith}
use lib.ListN.{length}
use Rattle.frame_lines.specs.Samples.{signed16, samples_in}
use Rattle.frame_lines.specs.Parsed.{sample_of}
use Rattle.frame_lines.proofs.SampleTexts.{fours, sample_at, none_read, one_read, all_read}
use Rattle.frame_lines.proofs.line.read_samples.Goals as goal

pub loop-n-init : goal.loop-n-init
loop-n-init c = none_read c.args.text.now c.args.samples.now

pub number_of_four-requires : goal.number_of_four-requires
number_of_four-requires c =
    let one : c.loop-n.n < length (samples_in c.args.text.now) = omega arith in
    (omega (arith, fours c.args.text.now, one), (sample_at c.args.text.now c.loop-n.n one).digits)

pub loop-n-preserved : goal.loop-n-preserved
loop-n-preserved c =
    one_read _ c.args.samples.now _ c.loop-n.n c.loop-n.invariant (omega arith) c.sample.result
    (c.sample.ensures ∙ ap (λ (k : ℕ). sample_of (signed16 k)) c.number_of_four.ensures)

pub returns : goal.returns
returns c = record { count_is = c.sample_count-count.ensures; lent_is = all_read _ c.args.samples.now _ c.loop-n.n c.loop-n.invariant (omega arith) }
