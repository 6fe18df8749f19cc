-- `frame_lines::line::sample` meets its contract. Assumes nothing.
use mathlib.Core.Path.{ap, ◌∙◌}
use native.Mathlib.Omega.{arith}
use mir.Syntax.{w16}
use mir.ValLaws.{to_z-of_z}
use Rattle.frame_lines.specs.Parsed.{sample_of}
use Rattle.frame_lines.proofs.Signed16.{read_signed}
use Rattle.frame_lines.proofs.line.sample.Goals as goal

pub returns : goal.returns
returns c =
    c.from.ensures
    ∙ ap sample_of (to_z-of_z w16 c.cast_signed.result (record { sfits = omega arith }) ∙ c.cast_signed.ensures ∙ read_signed c.args.bits (omega arith))
