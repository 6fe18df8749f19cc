-- `numbers::sign::with_sign` meets its contract. Assumes nothing.
use mathlib.Core.Path.{sym, ap, ◌∙◌}
use mathlib.Core.Bool.{Bool}
use Rattle.numbers.specs.Sign.{signed}
use Rattle.numbers.proofs.WithSign.{minus_fits, minus_signed, plus_signed, minus_held, plus_held}
use Rattle.numbers.proofs.sign.with_sign.Goals as goal

pub overflow_sub-result : goal.overflow_sub-result
overflow_sub-result c = minus_fits c.args.n c.if-n-lt2147483648.true

pub returns-then-n-lt2147483648 : goal.returns-then-n-lt2147483648
returns-then-n-lt2147483648 c = minus_signed c.args.n c.if-n-lt2147483648.true ∙ ap (λ (s : Bool). signed s c.args.n) (sym c.if-negative.true)

pub returns-else-n-lt2147483648 : goal.returns-else-n-lt2147483648
returns-else-n-lt2147483648 c = minus_held c.args.n c.if-n-lt2147483648.false ∙ ap (λ (s : Bool). signed s c.args.n) (sym c.if-negative.true)

pub returns-then-n-lt2147483648-2 : goal.returns-then-n-lt2147483648-2
returns-then-n-lt2147483648-2 c = plus_signed c.args.n c.if-n-lt2147483648-2.true ∙ ap (λ (s : Bool). signed s c.args.n) (sym c.if-negative.false)

pub returns-else-n-lt2147483648-2 : goal.returns-else-n-lt2147483648-2
returns-else-n-lt2147483648-2 c = plus_held c.args.n c.if-n-lt2147483648-2.false ∙ ap (λ (s : Bool). signed s c.args.n) (sym c.if-negative.false)
