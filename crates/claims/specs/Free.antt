-- What the contracts leave free, and what is true of it. A call's contract fixes the value of the controller that it hands back (`view_of`), and says nothing of where a ring's tail stands, of what lies in
-- a ring's unused places, and of the rings and channels past the count. They are there: `Good` has 64 places in a ring, 8 rings and 8 channels. And no answer of any later call depends on them:
-- two controllers in good order that have the same value are heard alike in every list of calls. Definitions only.
use Rattle.std.specs.Prelude.{◌≡◌}
use Rattle.input_volume_controller.specs.declared.InputVolumeController.{InputVolumeController}
use Rattle.input_volume_controller.specs.Controller.{view_of, Good}
use Rattle.claims.specs.Run.{SoundAlike}

-- THE CLAIM
abbrev pub FreeIsUnheard : Type 0
FreeIsUnheard = (a b : InputVolumeController) → Good a → Good b → view_of a ≡ view_of b → SoundAlike a b
