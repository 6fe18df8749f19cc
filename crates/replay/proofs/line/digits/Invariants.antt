use Rattle.std.proofs.Common.{◌<◌, ◌^◌}
use Rattle.replay.proofs.line.digits.Given as goal

abbrev pub invariant-loop-c : goal.invariant-loop-c
invariant-loop-c l = l.size < 2 ^ 45
