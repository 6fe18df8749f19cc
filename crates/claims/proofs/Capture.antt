-- Whether capture is on, and how many channels there are, after each call. Assumes nothing.
use mathlib.Core.Path.{◌≡◌, refl, ◌∙◌}
use mathlib.Core.Bool.{Bool, true}
use mathlib.Core.List.{List, ◌∷◌}
use Prim.Native.Nat.{ℕ}
use lib.ListN.{length, length-map}
use Rattle.input_volume_controller.specs.Control.{Control}
use Rattle.input_volume_controller.specs.ControlCalls.{aggregated, with_applied_input_volumes, initialize, switch_capture, lower_channels, process_channels}
use Rattle.input_volume_controller.specs.Controller.{Controller}
use Rattle.input_volume_controller.specs.Calls.{Call, frame, recommendation, initialise, capture_switch, step}
use Rattle.claims.specs.Past.{capture_on}
use Rattle.claims.proofs.Walk.{Runs, Any, any_given, frame_keeps, recommendation_keeps}
use Rattle.input_volume_controller.proofs.ChannelLists.{length_given}

pub record Open (capture : Bool) (count : ℕ) (c : Control) : Type 0 where
  pub used : c.used ≡ capture
  pub channels : length c.channels ≡ count

module _ (count : ℕ) where
  open_runs : (capture : Bool) → Runs Any (Open capture count)
  unfolding aggregated with_applied_input_volumes lower_channels process_channels
  open_runs capture = record {
    hears = record {
      lowers = λ by c h. record { used = h.used; channels = length-map c.channels _ ∙ h.channels };
      counts = λ c h. record { used = h.used; channels = h.channels };
    };
    applies = λ volumes c e m t h. record { used = h.used; channels = length_given volumes c.channels ∙ h.channels };
    processes = λ probability level c h. record { used = h.used; channels = length-map c.channels _ ∙ h.channels };
    repeats = λ c h. record { used = h.used; channels = h.channels };
  }

  open_initialised : (capture : Bool) (c : Control) → Open capture count c → Open true count (initialize c)
  unfolding initialize aggregated
  open_initialised capture c h = record { used = refl; channels = length-map c.channels _ ∙ h.channels }

  open_switched : (capture on : Bool) (c : Control) → Open capture count c → Open on count (switch_capture on c)
  open_switched capture on c h = record { used = refl; channels = length-map c.channels _ ∙ h.channels }

  -- by one call more
  pub open_next : (start : Bool) (call : Call) (past : List Call) (c : Controller) → Open (capture_on start past) count c.control → Open (capture_on start (call ∷ past)) count (step c call).state.control
  unfolding capture_on
  open_next start (frame most volumes samples lent) past c h =
      frame_keeps Any (Open (capture_on start past) count) (open_runs (capture_on start past)) most volumes samples lent c (any_given most volumes samples lent c) h
  open_next start (recommendation probability level) past c h = recommendation_keeps Any (Open (capture_on start past) count) (open_runs (capture_on start past)) probability level c h
  open_next start initialise past c h = open_initialised (capture_on start past) c.control h
  open_next start (capture_switch on) past c h = open_switched (capture_on start past) on c.control h
