-- The controlling channel. Document 02 (xiv): "the recommendation with capture on is the lowest of the channels after the usual minimum .., and the controlling channel is the lowest-numbered that holds it before that
-- minimum": by the channels' own volumes. Definitions only.
use Rattle.std.specs.Prelude.{◌≡◌, true, List, ℕ, ◌≤◌, ◌<◌, pos, Float, length, get_or, Option, Some}
use Rattle.clipping_predictor.specs.declared.settings.Settings as Predictor
use Rattle.mono_input_volume_controller.specs.declared.config.Settings.{Settings}
use Rattle.input_volume_controller.specs.Channels.{no_channel}
use Rattle.input_volume_controller.specs.Control.{Control}
use Rattle.input_volume_controller.specs.ControlCalls.{raised_for}
use Rattle.input_volume_controller.specs.Controller.{Controller, fresh_with}
use Rattle.input_volume_controller.specs.Reply.{volume}
use Rattle.input_volume_controller.specs.Calls.{Call, recommendation, step, after}

abbrev pub volume_of : Control → ℕ → ℕ
volume_of c channel = (get_or c.channels channel no_channel).volume

-- the controlling channel is there, no channel's volume is lower than its own, and that of every channel before it is higher
pub record HoldsLowest (c : Control) : Type 0 where
  pub there : c.controlling < length c.channels
  pub least : (channel : ℕ) → channel < length c.channels → volume_of c c.controlling ≤ volume_of c channel
  pub first : (channel : ℕ) → channel < c.controlling → volume_of c c.controlling < volume_of c channel

-- with capture on a recommendation is the volume that the controlling channel then has, "raised to min_input_volume if a volume above 0 is pending"
abbrev pub RecommendsLowest : Controller → Type 0
RecommendsLowest c = (applied : ℕ) → c.control.used ≡ true → c.control.applied ≡ Some applied → (probability : Float) (level : Option Float)
    → let s = step c (recommendation probability level) in
    s.reply ≡ volume (pos (raised_for (Some applied) c.control.settings.least (volume_of s.state.control s.state.control.controlling)))

-- THE CLAIM, after any calls with any sets on a fresh controller with a channel
pub record ControllingIsLowest : Type 0 where
  pub controlling : (predictor : Predictor.Settings) (s : Settings) (count : ℕ) → 1 ≤ count → (calls : List Call) → HoldsLowest (after (fresh_with predictor s count) calls).control
  pub recommended : (predictor : Predictor.Settings) (s : Settings) (count : ℕ) → 1 ≤ count → (calls : List Call) → RecommendsLowest (after (fresh_with predictor s count) calls)
