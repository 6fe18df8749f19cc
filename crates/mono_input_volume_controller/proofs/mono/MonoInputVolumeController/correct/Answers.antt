-- `MonoInputVolumeController::correct` meets its contract. Assumes nothing.
use mathlib.Core.Path.{◌≡◌, ap, ◌∙◌}
use lib.IntN.{ℤ}
use Rattle.numbers.proofs.Signs.{read}
use Rattle.mono_input_volume_controller.specs.MonoProcess.{updated_input_volume}
use Rattle.mono_input_volume_controller.proofs.Paths.{correct_none, correct_by}
use Rattle.mono_input_volume_controller.proofs.Kept.{becomes, good_corrected}
use borrow.Author.Rules.{rules}
use Rattle.mono_input_volume_controller.proofs.mono.MonoInputVolumeController.correct.Goals as goal

pub returns-in-None : goal.returns-in-None
returns-in-None c = becomes (correct_none _ _ c.in-None.is) (good_corrected _ _ c.requires)

pub returns-in-Some : goal.returns-in-Some
returns-in-Some c =
    let e : ℤ = c.in-Some.error in
    let back : read e ≡ e = search rules in
    becomes (c.update_input_volume.ensures.is ∙ ap (λ (z : ℤ). updated_input_volume z c.args.self) back ∙ correct_by _ _ _ c.in-Some.is) (good_corrected _ _ c.requires)
