-- A making within a profile: by whether the profile takes the settings, and a making with the arguments that the machine reads back. Assumes nothing.
use mathlib.Core.Path.{◌≡◌, ap, subst, ◌∙◌}
use mathlib.Core.Bool.{Bool, true, false}
use Prim.Native.Nat.{◌^◌, ◌<◌}
use lib.IntN.{ℤ}
use lib.Signed.{mag}
use Rattle.std.specs.Prelude.{Ok, Result}
use Rattle.numbers.specs.declared.refusal.Refusal.{Refusal}
use Rattle.numbers.specs.declared.refusal.Refusal.TheVariants.{ClassroomProfile}
use Rattle.numbers.proofs.Signs.{read, again}
use Rattle.clipping_predictor.specs.declared.settings.ClippingPredictorConfig.{ClippingPredictorConfig}
use Rattle.mono_input_volume_controller.specs.declared.config.Config.{Config}
use Rattle.mono_input_volume_controller.specs.declared.profile.Profile.{Profile}
use Rattle.input_volume_controller.specs.Controller.{Making, unmade}
use Rattle.input_volume_controller.specs.Profile.{refused_outside, within_profile, making_in}

-- ---- what is decided

module _ (plain : Making) where
  -- what the plain controller refuses stays refused
  pub within_refused : (taken : Bool) {cause : Refusal} → plain ≡ unmade cause → within_profile taken plain ≡ unmade cause
  within_refused true e = e
  within_refused false e = ap (λ (m : Making). refused_outside m.answer m) e

  pub within_outside : {taken : Bool} → taken ≡ false → plain.answer ≡ Ok tt → within_profile taken plain ≡ unmade ClassroomProfile
  within_outside t e = ap (λ (b : Bool). within_profile b plain) t ∙ ap (λ (o : Result (Unit {0}) Refusal). refused_outside o plain) e

  pub within_taken : {taken : Bool} → taken ≡ true → within_profile taken plain ≡ plain
  within_taken t = ap (λ (b : Bool). within_profile b plain) t

-- ---- arguments

-- what is true of a making with the channel count that the machine reads back, and with a configuration and a predictor that were made
pub made_at : (P : Making → Type 0) (profile : Profile) (channels : ℤ) {c d : Config} {p q : ClippingPredictorConfig} → mag channels < 2 ^ 31 → c ≡ d → p ≡ q
    → P (making_in profile (read channels) c p) → P (making_in profile channels d q)
made_at P profile channels fits e f h = subst P (λ i. making_in profile (again channels fits i) (e i) (f i)) h
