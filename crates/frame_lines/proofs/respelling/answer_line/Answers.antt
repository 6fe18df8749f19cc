-- `frame_lines::respelling::answer_line` meets its contract. Assumes nothing.
use mathlib.Core.Path.{◌≡◌, ap, ◌∙◌}
use Rattle.std.specs.Prelude.{Err}
use native.Mathlib.Omega.{arith}
use lib.ListN.{length}
use Rattle.frame_lines.proofs.Answering.{feed_fits, spelled_answer, refused_answer}
use borrow.Author.Rules.{rules}
use Rattle.frame_lines.proofs.respelling.answer_line.Goals as goal

pub bounds-out-n : goal.bounds-out-n
bounds-out-n c =
    let same : length c.respell.new.out ≡ length c.args.out.now = search rules in
    feed_fits _ _ _ _ c.respell.ensures c.requires (same) _ c.in-Ok.is

pub overflow_add-result : goal.overflow_add-result
overflow_add-result c =
    let same : length c.respell.new.out ≡ length c.args.out.now = search rules in
    omega (arith, feed_fits _ _ _ _ c.respell.ensures c.requires (same) _ c.in-Ok.is, same)

pub returns-in-Ok : goal.returns-in-Ok
returns-in-Ok c =
    let same : length c.respell.new.out ≡ length c.args.out.now = search rules in
    spelled_answer _ _ _ _ c.respell.ensures c.requires (same) _ c.in-Ok.is

pub returns-in-Err-Malformed : goal.returns-in-Err-Malformed
returns-in-Err-Malformed c =
    let same : length c.respell.new.out ≡ length c.args.out.now = search rules in
    refused_answer _ _ _ _ c.respell.ensures c.requires (same) (c.in-Err-Malformed.is ∙ ap Err c.in-Err-Malformed.field-0-is) _ _ c.put_reply.ensures
