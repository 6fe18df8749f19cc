-- `programs::answering::answer_all` goes from reading to reading, and what the program keeps stays in order. Assumes nothing.
use Rattle.std.proofs.Common.{◌≡◌, ◌≤◌, length}
use Rattle.programs.proofs.answering.answer_all.Given as goal

abbrev pub invariant-loop : goal.invariant-loop
invariant-loop g l = (length l.piece ≡ 65536) × (g.A.Answering.room ≤ length l.out) × g.A.Answering.good l.answering
