-- `MonoInputVolumeController::taken_from_user` meets its contract. Assumes nothing.
use mathlib.Core.Path.{ap}
use mathlib.Core.Bool.{false}
use Prim.Native.Nat.{ℕ}
use Rattle.mono_input_volume_controller.specs.MonoState.{volumes, counts}
use Rattle.mono_input_volume_controller.proofs.Kept.{becomes, good_taken}
use Rattle.mono_input_volume_controller.proofs.mono.MonoInputVolumeController.taken_from_user.Goals as goal

pub returns : goal.returns
returns c =
    becomes (ap (λ (n : ℕ). counts 0 0 false (volumes n c.args.self.volume c.args.self.volume c.args.self)) c.max.ensures) (good_taken c.args.self c.requires)
