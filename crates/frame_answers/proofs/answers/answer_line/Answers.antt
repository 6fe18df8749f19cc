-- `frame_answers::answers::answer_line` meets its contract: a line that is malformed, and one that is in order. Assumes nothing.
use mathlib.Core.Path.{sym}
use native.Mathlib.Omega.{arith}
use lib.Ieee.{binary32, of_bits}
use lib.ListN.{length-replicate}
use lib.Seq.{length-take-le}
use Rattle.frame_lines.proofs.Meanings.{told_frame}
use Rattle.frame_answers.proofs.Lines.{malformed_as, few, makes_calls}
use Rattle.frame_answers.proofs.answers.answer_line.Goals as goal

pub returns-in_default : goal.returns-in_default
returns-in_default c = malformed_as c.args.controller _ _ _ _ c.requires c.parse.ensures c.in_default.is

pub slice_bounds-samples-end : goal.slice_bounds-samples-end
slice_bounds-samples-end c =
    omega (arith, few _ _ _ (told_frame _ _ _ _ _ (omega (arith, length-replicate 496 (of_bits binary32 0))) c.parse.ensures c.in-Some.is))

pub slice_bounds-answer_frame-end : goal.slice_bounds-answer_frame-end
slice_bounds-answer_frame-end c =
    sym (length-take-le c.in-Some.parsed.count c.parse.new.samples (omega (arith, few _ _ _ (told_frame _ _ _ _ _ (omega (arith, length-replicate 496 (of_bits binary32 0))) c.parse.ensures c.in-Some.is))))

pub returns : goal.returns
returns c =
    c.answer_frame-reply.ensures _ (makes_calls _ _ _ _ (told_frame _ _ _ _ _ (omega (arith, length-replicate 496 (of_bits binary32 0))) c.parse.ensures c.in-Some.is))
