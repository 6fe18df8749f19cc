-- `frame_answers::stream::Stream::whole_lines` meets its contract: at each turn the stream is fed a line. Assumes nothing.
use mathlib.Core.Path.{◌≡◌}
use lib.ListN.{length}
use Rattle.frame_answers.specs.Stream.{view_of}
use Rattle.frame_answers.proofs.Turns.{SoFar}
use Rattle.frame_answers.proofs.stream.Stream.whole_lines.Given as goal

abbrev pub invariant-loop-room : goal.invariant-loop-room
invariant-loop-room l =
    (length l.samples ≡ 496) × SoFar (view_of (record { controller = l.initial.controller; begun = l.begun })) l.piece l.initial.out (record { controller = l.controller; begun = l.begun }) l.at l.written l.room l.out

abbrev pub decreases-loop-room : goal.decreases-loop-room
decreases-loop-room l = l.room
