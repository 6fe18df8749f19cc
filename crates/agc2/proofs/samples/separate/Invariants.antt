-- `agc2::samples::separate` meets its contract: each turn writes one channel more. Assumes nothing.
use mathlib.Core.Path.{◌≡◌}
use mathlib.Core.List.{◌++◌}
use Prim.Native.Nat.{◌-◌, ◌*◌, ◌≤◌}
use lib.ListN.{drop}
use Rattle.agc2.specs.Samples.{channel_of, joined}
use Rattle.agc2.proofs.samples.separate.Given as goal

abbrev pub invariant-loop-channel : goal.invariant-loop-channel
invariant-loop-channel l = (l.channel ≤ l.channels) × (l.frame ≡ joined (channel_of l.channels l.moments l.samples) l.channel ++ drop (l.channel * l.moments) l.initial.frame)

abbrev pub decreases-loop-channel : goal.decreases-loop-channel
decreases-loop-channel l = l.channels - l.channel
