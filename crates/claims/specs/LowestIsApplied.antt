-- Document 02 (xiv): "The lowest is the frame's applied volume", and a recommendation "with capture off .. repeats that applied volume, as before". Definitions only.
use Rattle.std.specs.Prelude.{◌≡◌, false, List, ℕ, ◌≤◌, ◌<◌, T, ℤ, pos, Float, length, get_or, Option, Some}
use Rattle.input_volume_controller.specs.declared.limits.Limits.{Limits}
use Rattle.input_volume_controller.specs.Controller.{Controller}
use Rattle.input_volume_controller.specs.Reply.{volume}
use Rattle.input_volume_controller.specs.Calls.{frame, recommendation, step}
use Rattle.claims.specs.Past.{is_accepted}
use Rattle.claims.specs.EachTakesItsOwn.{volume_at}

-- c has the lowest of these volumes pending: one of them holds it, and none is lower
pub record HasLowest (volumes : List ℤ) (c : Controller) : Type 0 where
  pub lowest : ℕ
  pub pending : c.control.applied ≡ Some lowest
  pub holder : ℕ
  pub inside : holder < length volumes
  pub holds : get_or volumes holder (pos 0) ≡ pos lowest
  pub least : (channel : ℕ) → channel < length volumes → lowest ≤ volume_at volumes channel
  -- and with capture off a recommendation repeats it
  pub repeats : c.control.used ≡ false → (probability : Float) (level : Option Float) → (step c (recommendation probability level)).reply ≡ volume (pos lowest)

-- THE CLAIM, after every accepted frame of a controller with a channel
abbrev pub LowestIsApplied : Type 0
LowestIsApplied = (c : Controller) (most : Limits) (volumes : List ℤ) (samples : ℕ) (lent : List Float) → 1 ≤ length c.control.channels → T (is_accepted most (length c.control.channels) volumes samples lent)
    → HasLowest volumes (step c (frame most volumes samples lent)).state
