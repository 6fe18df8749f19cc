-- A recommendation, by the tests that lead to it. Assumes nothing.
use mathlib.Core.Path.{◌≡◌}
use mathlib.Core.Bool.{true, false}
use Prim.Native.Nat.{ℕ}
use lib.IntN.{pos}
use lib.Ieee.{Float}
use Rattle.std.specs.Prelude.{None, Option, Some}
use Rattle.input_volume_controller.specs.Control.{with_applied}
use Rattle.input_volume_controller.specs.ControlCalls.{aggregated, process_channels}
use Rattle.input_volume_controller.specs.Controller.{Controller}
use Rattle.input_volume_controller.specs.Reply.{volume, none}
use Rattle.input_volume_controller.specs.Recommendation.{recommend_input_volume}

module _ (c : Controller) (probability : Float) (level : Option Float) where
  pub recommend_none : c.control.applied ≡ None → recommend_input_volume probability level c ≡ record { reply = none; state = c }
  unfolding recommend_input_volume
  recommend_none e = rw e

  module _ (v : ℕ) (pending : c.control.applied ≡ Some v) where
    pub recommend_off : c.control.used ≡ false
        → recommend_input_volume probability level c ≡ record { reply = volume (pos v); state = record { control = aggregated c.control; predictor = c.predictor } }
    unfolding recommend_input_volume
    recommend_off off = rw (pending, off)

    pub recommend_on : c.control.used ≡ true
        → recommend_input_volume probability level c ≡ record {
          reply = volume (pos (process_channels probability level c.control).volume);
          state = record { control = with_applied None (process_channels probability level c.control); predictor = c.predictor };
        }
    unfolding recommend_input_volume
    recommend_on on = rw (pending, on)
