-- `frame_lines::line::is_well_formed` meets its contract, way by way. Assumes nothing.
use mathlib.Core.Path.{sym, ap, ◌∙◌}
use native.Mathlib.Omega.{arith}
use Rattle.frame_lines.specs.Samples.{are_samples}
use Rattle.frame_lines.proofs.Parts.{lent_rest}
use Rattle.frame_lines.proofs.Heads.{told_fields, told_no_fields}
use Rattle.frame_lines.proofs.SampleTexts.{not_fours, fours_tell}
use Rattle.frame_lines.proofs.Parses.{long_malformed, headless_malformed, starts_within, samples_tell}
use Rattle.frame_lines.proofs.line.is_well_formed.Goals as goal

pub returns-then-line-gt-MOST_CHARACTERS : goal.returns-then-line-gt-MOST_CHARACTERS
returns-then-line-gt-MOST_CHARACTERS c = sym (long_malformed _ c.if-line-gt-MOST_CHARACTERS.true)

pub returns-in_default : goal.returns-in_default
returns-in_default c = sym (headless_malformed _ (told_no_fields _ (sym c.in_default.ensures)))

pub slice_bounds-text-count : goal.slice_bounds-text-count
slice_bounds-text-count c = starts_within _ _ (told_fields _ _ (sym c.in-Some.ensures))

pub slice_bounds-text-start : goal.slice_bounds-text-start
slice_bounds-text-start c = starts_within _ _ (told_fields _ _ (sym c.in-Some.ensures))

pub returns-then-text-ne0 : goal.returns-then-text-ne0
returns-then-text-ne0 c =
    sym (samples_tell _ _ (told_fields _ _ (sym c.in-Some.ensures)) (omega (arith, c.if-line-gt-MOST_CHARACTERS.false)) ∙ ap are_samples (sym (lent_rest c.args.line.now c.in-Some.head.start)) ∙ not_fours _ c.if-text-ne0.true)

pub returns : goal.returns
returns c =
    c.all_digits.ensures
    ∙ fours_tell _ c.if-text-ne0.false
    ∙ sym (samples_tell _ _ (told_fields _ _ (sym c.in-Some.ensures)) (omega (arith, c.if-line-gt-MOST_CHARACTERS.false)) ∙ ap are_samples (sym (lent_rest c.args.line.now c.in-Some.head.start)))
