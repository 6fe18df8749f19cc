-- `volume_control::fresh_control` meets its contract. Assumes nothing.
use native.Mathlib.Omega.{arith}
use mathlib.Core.Bool.{true}
use Rattle.std.specs.Prelude.{None}
use Rattle.input_volume_controller.specs.Control.{control_of}
use Rattle.input_volume_controller.proofs.volume_control.fresh_control.Goals as goal

pub returns : goal.returns
unfolding control_of
returns c =
    record {
      good = record { settings = c.requires.2; channels = c.new.ensures.good; volume = omega arith };
      is = λ i. record { settings = c.args.s; channels = c.new.ensures.is i; since = c.args.s.clipped_wait; used = true; applied = None; volume = 0; controlling = 0 };
    }
