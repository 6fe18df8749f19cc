-- Document 01, "All channels": a recommendation, by the source's `recommend_input_volume`. Definitions only.
use Rattle.std.specs.Prelude.{Bool, true, false, ℕ, pos, Float, None, Option, Some}
use Rattle.input_volume_controller.specs.Control.{with_applied}
use Rattle.input_volume_controller.specs.ControlCalls.{aggregated, process_channels}
use Rattle.input_volume_controller.specs.Controller.{Controller}
use Rattle.input_volume_controller.specs.Reply.{volume, none, Stepped}

-- "With capture off .. recommendations repeat it": the applied volume
abbrev pub recommend_if : Bool → ℕ → Float → Option Float → Controller → Stepped
recommend_if true applied probability level c = record {
  reply = volume (pos (process_channels probability level c.control).volume);
  state = record { control = with_applied None (process_channels probability level c.control); predictor = c.predictor };
}
recommend_if false applied probability level c = record { reply = volume (pos applied); state = record { control = aggregated c.control; predictor = c.predictor } }

-- with no volume pending there is none
abbrev pub unless_none : Option ℕ → Float → Option Float → Controller → Stepped
unless_none None probability level c = record { reply = none; state = c }
unless_none (Some applied) probability level c = recommend_if c.control.used applied probability level c

unfoldable pub recommend_input_volume : Float → Option Float → Controller → Stepped
unfolding process_channels
recommend_input_volume probability level c = unless_none c.control.applied probability level c
