-- A controller with numbers in place of enums is the controller again. Assumes nothing.
use mathlib.Core.Path.{◌≡◌, refl}
use mathlib.Core.Bool.{Bool, true, false}
use Prim.Native.Nat.{ℕ, zero, suc}
use Rattle.std.specs.Prelude.{None, Option, Some}
use Rattle.numbers.specs.Flag.{is_set, flag_of}
use Rattle.clipping_predictor.specs.declared.ClippingPredictor.{ClippingPredictor}
use Rattle.clipping_predictor.specs.declared.settings.ClippingPredictorMode.{ClippingPredictorMode}
use Rattle.clipping_predictor.specs.declared.settings.ClippingPredictorMode.TheVariants.{ClippingEventPrediction, AdaptiveStepClippingPeakPrediction, FixedStepClippingPeakPrediction}
use Rattle.input_volume_controller.specs.declared.volume_control.VolumeControl.{VolumeControl}
use Rattle.input_volume_controller.specs.Plain.{mode_of, mode_number, applied_of, is_pending, pending_volume, whole_control, plain_control, whole_predictor, plain_predictor}

pub event : {n : ℕ} → n ≡ 0 → ClippingEventPrediction ≡ mode_of n
unfolding mode_of
event e = rw e

pub adaptive : {n : ℕ} → n ≡ 1 → AdaptiveStepClippingPeakPrediction ≡ mode_of n
unfolding mode_of
adaptive e = rw e

pub fixed : (n : ℕ) → (n ≡ 0 → ⊥) → (n ≡ 1 → ⊥) → FixedStepClippingPeakPrediction ≡ mode_of n
unfolding mode_of
fixed zero a b = absurd (a refl)
fixed (suc zero) a b = absurd (b refl)
fixed (suc (suc n)) a b = refl

mode_again : (m : ClippingPredictorMode) → mode_of (mode_number m) ≡ m
unfolding mode_of
mode_again ClippingEventPrediction = refl
mode_again AdaptiveStepClippingPeakPrediction = refl
mode_again FixedStepClippingPeakPrediction = refl

flag_again : (on : Bool) → is_set (flag_of on) ≡ on
unfolding is_set
flag_again true = refl
flag_again false = refl

applied_again : (a : Option ℕ) → applied_of (is_pending a) (pending_volume a) ≡ a
applied_again None = refl
applied_again (Some v) = refl

pub control_again : (c : VolumeControl) → whole_control (plain_control c) ≡ c
unfolding whole_control plain_control
control_again c = λ i. record {
  settings = c.settings;
  channels = c.channels;
  since = c.since;
  used = c.used;
  applied = applied_again c.applied i;
  volume = c.volume;
  controlling = c.controlling;
}

pub predictor_again : (p : ClippingPredictor) → whole_predictor (plain_predictor p) ≡ p
unfolding whole_predictor plain_predictor
predictor_again p = rw (mode_again p.settings.mode, flag_again p.settings.enabled)
