-- The volumes that a frame is given before the channels are counted. Definitions only.
use Rattle.std.specs.Prelude.{List, ℕ, ℤ}
use Rattle.input_volume_controller.specs.Volumes.{equal_volumes}
use Rattle.agc2.specs.declared.given.Volumes.{Volumes}
use Rattle.agc2.specs.declared.given.Volumes.TheVariants.{One, Each}

-- what they are for so many channels: one volume for all, or one for each
abbrev pub volumes_for : ℕ → Volumes → List ℤ
volumes_for channels (One volume) = equal_volumes volume channels
volumes_for channels (Each volumes) = volumes.now
