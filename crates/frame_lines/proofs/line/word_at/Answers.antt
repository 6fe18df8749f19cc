-- `frame_lines::line::word_at` meets its contract: eight digits are two fours. Assumes nothing.
use mathlib.Core.Path.{◌≡◌, sym, ap, ◌∙◌}
use mathlib.Core.Bool.{true}
use Prim.Native.Nat.{◌+◌, ◌*◌}
use native.Mathlib.Omega.{arith}
use Rattle.std.specs.Prelude.{Some}
use Rattle.frame_lines.specs.Digits.{are_digits}
use Rattle.frame_lines.specs.Line.{part}
use Rattle.frame_lines.proofs.Tests.{Both}
use Rattle.frame_lines.proofs.Parts.{lent_part, halves_digits, word_lost, word_kept}
use Rattle.frame_lines.proofs.line.word_at.Goals as goal

pub returns-then-not-all_digits : goal.returns-then-not-all_digits
returns-then-not-all_digits c =
    let told : are_digits (part c.args.line.now c.args.at 8) ≡ c.all_digits.result = ap are_digits (sym (lent_part c.args.line.now c.args.at 8)) ∙ sym c.all_digits.ensures in
    word_lost _ _ (told ∙ c.if-not-all_digits.true)

pub number_of_four-requires : goal.number_of_four-requires
number_of_four-requires c =
    let told : are_digits (part c.args.line.now c.args.at 8) ≡ c.all_digits.result = ap are_digits (sym (lent_part c.args.line.now c.args.at 8)) ∙ sym c.all_digits.ensures in
    let eight : are_digits (part c.args.line.now c.args.at 8) ≡ true = told ∙ c.if-not-all_digits.false in
    let halves : Both (are_digits (part c.args.line.now c.args.at 4)) (are_digits (part c.args.line.now (c.args.at + 4) 4)) = halves_digits c.args.line.now c.args.at (eight) in
    (omega arith, halves.first)

pub number_of_four-requires-2 : goal.number_of_four-requires-2
number_of_four-requires-2 c =
    let told : are_digits (part c.args.line.now c.args.at 8) ≡ c.all_digits.result = ap are_digits (sym (lent_part c.args.line.now c.args.at 8)) ∙ sym c.all_digits.ensures in
    let eight : are_digits (part c.args.line.now c.args.at 8) ≡ true = told ∙ c.if-not-all_digits.false in
    let halves : Both (are_digits (part c.args.line.now c.args.at 4)) (are_digits (part c.args.line.now (c.args.at + 4) 4)) = halves_digits c.args.line.now c.args.at (eight) in
    (omega arith, halves.second)

pub returns : goal.returns
returns c =
    let told : are_digits (part c.args.line.now c.args.at 8) ≡ c.all_digits.result = ap are_digits (sym (lent_part c.args.line.now c.args.at 8)) ∙ sym c.all_digits.ensures in
    let eight : are_digits (part c.args.line.now c.args.at 8) ≡ true = told ∙ c.if-not-all_digits.false in
    (λ i. Some ((c.from-high.ensures ∙ c.number_of_four.ensures) i * 65536 + (c.from-low.ensures ∙ c.number_of_four-2.ensures) i)) ∙ word_kept _ _ c.requires (eight)
