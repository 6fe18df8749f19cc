-- `Channels::each` meets its contract: channel by channel. Assumes nothing.
use mathlib.Core.Path.{◌≡◌}
use Rattle.numbers.proofs.Arrays.{Replaced}
use Rattle.input_volume_controller.specs.Channels.{no_channel}
use Rattle.input_volume_controller.proofs.channels.Channels.each.Given as goal

abbrev pub invariant-loop-i : goal.invariant-loop-i
invariant-loop-i g l = (l.c.count ≡ l.fn.self.count) × Replaced no_channel (λ i m r. goal.F-post g l.call i m r) l.i l.fn.self.items l.c.items
