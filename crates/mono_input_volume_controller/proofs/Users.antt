-- A volume is taken as the user's exactly if it differs from the last one by more than 25; then, unless it is 0, it becomes the last one. Assumes nothing.
use mathlib.Core.Path.{◌≡◌, refl, sym}
use mathlib.Core.Bool.{Bool, true, false, ◌||◌}
use Prim.Native.Nat.{ℕ, ◌+◌, ◌-◌, ◌<◌}
use native.Mathlib.Omega.{arith}
use lib.Dec.{ltb}
use borrow.Author.Tests.{ltb-true, ltb-false}
use Rattle.numbers.proofs.Signs.{clash}
use Rattle.mono_input_volume_controller.specs.declared.mono.MonoInputVolumeController.{MonoInputVolumeController}
use Rattle.mono_input_volume_controller.specs.Mono.{volume_quantization_slack, is_users, taken_from_user, with_input_volume}
use Rattle.mono_input_volume_controller.proofs.Paths.{set_users}

-- how far two volumes lie apart: one of the two differences is 0
abbrev pub apart : ℕ → ℕ → ℕ
apart a b = (a - b) + (b - a)

module _ (last here : ℕ) where
  either : (s t : Bool) → ltb (last + volume_quantization_slack) here ≡ s → ltb (here + volume_quantization_slack) last ≡ t → s || t ≡ true → volume_quantization_slack < apart last here
  either true t p q e = omega (arith, ltb-true (last + volume_quantization_slack) here p)
  either false true p q e = omega (arith, ltb-true (here + volume_quantization_slack) last q)
  either false false p q e = clash (sym e)

  far : (s t : Bool) → ltb (last + volume_quantization_slack) here ≡ s → ltb (here + volume_quantization_slack) last ≡ t → volume_quantization_slack < apart last here → s || t ≡ true
  far true t p q h = refl
  far false true p q h = refl
  far false false p q h = absurd (omega (arith, ltb-false (last + volume_quantization_slack) here p, ltb-false (here + volume_quantization_slack) last q))

  -- THE RULE: the user's exactly if the difference is more than 25
  pub users_exactly : (is_users last here ≡ true → 25 < apart last here) × (25 < apart last here → is_users last here ≡ true)
  unfolding is_users
  users_exactly = (
    either (ltb (last + volume_quantization_slack) here) (ltb (here + volume_quantization_slack) last) refl refl,
    far (ltb (last + volume_quantization_slack) here) (ltb (here + volume_quantization_slack) last) refl refl,
  )

-- then, unless it is 0, it is the last volume, whatever volume was to be set
pub users_taken : (new : ℕ) (m : MonoInputVolumeController) → (m.volume ≡ 0 → ⊥) → volume_quantization_slack < apart m.last m.volume → with_input_volume new m ≡ taken_from_user m
users_taken new m h k = sym (set_users m new h ((users_exactly m.last m.volume).1 k))
