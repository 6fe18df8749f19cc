-- `agc2::samples::take_channel` meets its contract: each turn writes the sample of one moment more. Assumes nothing.
use lib.ListN.{length}
use Rattle.agc2.specs.Samples.{channel_of}
use Rattle.agc2.proofs.Interleaved.{Written}
use Rattle.agc2.proofs.samples.take_channel.Given as goal

abbrev pub invariant-loop-i : goal.invariant-loop-i
invariant-loop-i l = Written l.initial.part (channel_of l.channels (length l.initial.part) l.samples l.channel) l.part l.i
