-- `frame_lines::line::sample_count` meets its contract: digits alone have no other character. Assumes nothing.
use mathlib.Core.Path.{sym, ap, ◌∙◌}
use Prim.Native.Nat.{ℕ, ◌/◌}
use Rattle.frame_lines.proofs.SampleTexts.{count_before, none_before}
use Rattle.frame_lines.proofs.line.sample_count.Goals as goal

pub returns-then-all_digits : goal.returns-then-all_digits
returns-then-all_digits c = ap (λ (n : ℕ). n / 4) (sym (none_before c.args.text.now (sym c.all_digits.ensures ∙ c.if-all_digits.true))) ∙ sym (count_before c.args.text.now)

pub returns : goal.returns
returns c = ap (λ (n : ℕ). n / 4) c.digits_before.ensures ∙ sym (count_before c.args.text.now)
