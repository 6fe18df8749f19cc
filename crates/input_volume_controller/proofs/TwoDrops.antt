-- Whether two drops return different states, one way through the tests at a time. Assumes nothing.
use mathlib.Core.Path.{◌≡◌, refl, sym, ap, ap₂, ◌∙◌}
use mathlib.Core.Bool.{Bool, true, false, not, ◌||◌}
use mathlib.Core.List.{List, [], ◌∷◌}
use Prim.Native.Nat.{ℕ, max}
use lib.Dec.{ltb}
use Rattle.mono_input_volume_controller.specs.declared.mono.MonoInputVolumeController.{MonoInputVolumeController}
use Rattle.mono_input_volume_controller.proofs.ClippingSteps.{volumes_decide}
use Rattle.input_volume_controller.specs.Channels.{called}
use Rattle.input_volume_controller.specs.Control.{Control}
use Rattle.input_volume_controller.specs.Differ.{other_volumes, lower_differently, differ_if, differ}

-- one step leaves no channel different
same_lowered : (s : ℕ) (ms : List MonoInputVolumeController) → lower_differently s s ms ≡ false
unfolding lower_differently other_volumes called
same_lowered s [] = refl
same_lowered s (m ∷ ms) = ap₂ ◌||◌ (ap not ((volumes_decide m s s).1 refl)) (same_lowered s ms)

alike : (x d : Bool) → d ≡ false → false ≡ differ_if x x d
alike true d e = sym e
alike false d e = refl

first_fails : (y d : Bool) → y ≡ differ_if false y d
first_fails true d = refl
first_fails false d = refl

module _ (clipped : Bool) (c : Control) (a b : ℕ) where
  pub same_drop : a ≡ b → false ≡ differ clipped c a b
  unfolding differ
  same_drop e =
      alike (clipped || ltb 0 a) (lower_differently (max c.settings.step a) (max c.settings.step a) c.channels) (same_lowered (max c.settings.step a) c.channels)
      ∙ (λ i. differ_if (clipped || ltb 0 a) (clipped || ltb 0 (e i)) (lower_differently (max c.settings.step a) (max c.settings.step (e i)) c.channels))

  pub first_none : (clipped || ltb 0 a) ≡ false → (clipped || ltb 0 b) ≡ differ clipped c a b
  unfolding differ
  first_none e = first_fails (clipped || ltb 0 b) _ ∙ (λ i. differ_if (sym e i) (clipped || ltb 0 b) (lower_differently (max c.settings.step a) (max c.settings.step b) c.channels))

  pub second_none : (clipped || ltb 0 a) ≡ true → (clipped || ltb 0 b) ≡ false → true ≡ differ clipped c a b
  unfolding differ
  second_none e f = λ i. differ_if (sym e i) (sym f i) (lower_differently (max c.settings.step a) (max c.settings.step b) c.channels)

  pub both_lower : (clipped || ltb 0 a) ≡ true → (clipped || ltb 0 b) ≡ true → lower_differently (max c.settings.step a) (max c.settings.step b) c.channels ≡ differ clipped c a b
  unfolding differ
  both_lower e f = λ i. differ_if (sym e i) (sym f i) (lower_differently (max c.settings.step a) (max c.settings.step b) c.channels)
