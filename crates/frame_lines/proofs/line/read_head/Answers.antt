-- `frame_lines::line::read_head` meets its contract, way by way. Assumes nothing.
use mathlib.Core.Path.{sym, ◌∙◌}
use Rattle.std.specs.Prelude.{Some}
use Rattle.frame_lines.proofs.Heads.{too_short, volume_lost, first_blank_lost, second_blank_lost, probability_lost, level_malformed, told_level, all_kept}
use Rattle.frame_lines.proofs.line.read_head.Goals as goal

pub returns-then-line-lt-AFTER_DASH : goal.returns-then-line-lt-AFTER_DASH
returns-then-line-lt-AFTER_DASH c = too_short _ c.if-line-lt-AFTER_DASH.true

pub returns-then-not-all_digits : goal.returns-then-not-all_digits
returns-then-not-all_digits c = volume_lost _ (sym c.all_digits.ensures ∙ c.if-not-all_digits.true)

pub returns-then-line-ne32 : goal.returns-then-line-ne32
returns-then-line-ne32 c = first_blank_lost _ c.if-line-ne32.true

pub returns-then-line-ne32-2 : goal.returns-then-line-ne32-2
returns-then-line-ne32-2 c = second_blank_lost _ c.if-line-ne32-2.true

pub returns-in_err-bits : goal.returns-in_err-bits
returns-in_err-bits c = rw c.from_residual.ensures (probability_lost _ (sym c.in_err-bits.ensures))

pub returns-in_err-field : goal.returns-in_err-field
returns-in_err-field c = rw c.from_residual-in_err-field.ensures (level_malformed _ (sym c.in_err-field.ensures))

pub returns : goal.returns
returns c =
    (λ i. Some (record { volume = c.number_of_two-volume.ensures i; probability = c.from_bits-probability.ensures i; level = c.in_ok-field.field.level; start = c.in_ok-field.field.start }))
    ∙ all_kept _ _ c.in_ok-field.field (sym c.all_digits.ensures ∙ c.if-not-all_digits.false) c.if-line-ne32.false c.if-line-ne32-2.false (sym c.in_ok-bits.ensures) (told_level _ _ (sym c.in_ok-field.ensures))
