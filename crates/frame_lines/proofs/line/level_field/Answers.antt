-- `frame_lines::line::level_field` meets its contract, way by way. Assumes nothing.
use mathlib.Core.Path.{sym, ◌∙◌}
use native.Mathlib.Omega.{arith}
use borrow.Author.Tests.{ne_eqb}
use Rattle.std.specs.Prelude.{Some}
use Rattle.frame_lines.proofs.Heads.{no_blank, dash_blank, dash_other, bits_no_blank, bits_lost, bits_kept}
use Rattle.frame_lines.proofs.line.level_field.Goals as goal

pub returns-then-line-ne32 : goal.returns-then-line-ne32
returns-then-line-ne32 c = dash_other _ c.if-line-eq45.true c.if-line-ne32.true

pub returns-then-line-eq45 : goal.returns-then-line-eq45
returns-then-line-eq45 c = dash_blank _ c.if-line-eq45.true c.if-line-ne32.false

pub returns-then-line-lt-AFTER_BITS : goal.returns-then-line-lt-AFTER_BITS
returns-then-line-lt-AFTER_BITS c = bits_no_blank _ c.if-line-eq45.false (no_blank c.args.line.now 20 (omega arith))

pub returns-then-line-ne32-2 : goal.returns-then-line-ne32-2
returns-then-line-ne32-2 c = bits_no_blank _ c.if-line-eq45.false (ne_eqb _ _ c.if-line-ne32-2.true)

pub returns-in_err-bits : goal.returns-in_err-bits
returns-in_err-bits c = rw c.from_residual.ensures (bits_lost _ c.if-line-eq45.false (sym c.in_err-bits.ensures))

pub returns : goal.returns
returns c =
    (λ i. Some (record { level = Some (c.from_bits.ensures i); start = 21 }))
    ∙ bits_kept _ c.if-line-eq45.false _ c.if-line-ne32-2.false (sym c.in_ok-bits.ensures)
