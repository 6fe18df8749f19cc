-- The speech error by the tests that lead to it; and a target is a whole number that an `f32` holds. Assumes nothing.
use mathlib.Core.Path.{◌≡◌, refl, sym, ap, ◌∙◌}
use mathlib.Core.Bool.{Bool, true, false, cond}
use Prim.Native.Nat.{ℕ, suc, ◌^◌}
use native.Mathlib.Omega.{arith}
use lib.Dec.{T, leb→le, le→leb}
use lib.IntN.{ℤ, pos, negsuc}
use lib.Signed.{le_z, ◌≤ℤ◌}
use lib.Ieee.{Float, binary32, lt, sub, of_int, in_float}
use Rattle.std.specs.Float.{float_clamp}
use Rattle.std.specs.Prelude.{Err, None, Ok, Option, Some}
use Rattle.levels.specs.Rounding.{round_of}
use Rattle.numbers.specs.declared.refusal.Refusal.{Refusal}
use Rattle.numbers.specs.declared.refusal.Refusal.TheVariants.{TargetRange}
use Rattle.mono_input_volume_controller.specs.Config.{in_range, both_in_range}
use Rattle.mono_input_volume_controller.specs.SpeechError.{speech_error_of}
use Rattle.mono_input_volume_controller.specs.SpeechLevel.{lowest, highest, lowest_db, highest_db, GoodTargets, held_if, held, error_of, rms_error_of}

module _ (x : Float) where
  pub clamped_is_held : float_clamp x lowest highest ≡ held x
  unfolding held
  clamped_is_held = go (lt x lowest) (lt highest x)
    where
      go : (low high : Bool) → cond low lowest (cond high highest x) ≡ held_if low high x
      go true high = refl
      go false true = refl
      go false false = refl

  module _ (min max : ℤ) where
    pub error_above : lt (of_int binary32 max) x ≡ true → round_of (sub binary32 (of_int binary32 max) x) ≡ error_of x min max
    unfolding error_of
    error_above a = rw a

    pub error_below : lt (of_int binary32 max) x ≡ false → lt x (of_int binary32 min) ≡ true → round_of (sub binary32 (of_int binary32 min) x) ≡ error_of x min max
    unfolding error_of
    error_below a b = rw (a, b)

    pub error_none : lt (of_int binary32 max) x ≡ false → lt x (of_int binary32 min) ≡ false → pos 0 ≡ error_of x min max
    unfolding error_of
    error_none a b = rw (a, b)

pub target_held : (z : ℤ) → lowest_db ≤ℤ z → z ≤ℤ highest_db → T (in_float binary32 z)
unfolding in_float
target_held (pos n) a b = let h = leb→le n 30 b.le in le→leb n (2 ^ 24) (omega arith)
target_held (negsuc n) a b = let h = leb→le n 89 a.le in le→leb (suc n) (2 ^ 24) (omega arith)

holds : (b : Bool) → T b → b ≡ true
holds true t = refl
holds false t = absurd t

module _ (l : Option Float) (min max : ℤ) where
  pub absent : l ≡ None → None ≡ rms_error_of l min max
  unfolding rms_error_of
  absent e = rw e

  pub present : (x h : Float) (a b r : ℤ) → l ≡ Some x → h ≡ held x → a ≡ min → b ≡ max → r ≡ error_of h a b → Some r ≡ rms_error_of l min max
  unfolding rms_error_of
  present x h a b r e p q t f = ap Some (f ∙ (λ i. error_of (p i) (q i) (t i))) ∙ ap (λ (k : Option Float). rms_error_of k min max) (sym e)

  pub targets_out : both_in_range lowest_db highest_db max min ≡ false → Err TargetRange ≡ speech_error_of l min max
  unfolding speech_error_of
  targets_out e = rw e

  pub targets_in : both_in_range lowest_db highest_db max min ≡ true → (error : Option ℤ) → error ≡ rms_error_of l min max → Ok error ≡ speech_error_of l min max
  unfolding speech_error_of
  targets_in e error is = rw e (ap Ok is)

  -- targets in good order pass their test
  module _ (good : GoodTargets min max) where
    answered : speech_error_of l min max ≡ Ok (rms_error_of l min max)
    unfolding speech_error_of both_in_range in_range
    answered = rw (holds (le_z lowest_db max) good.max_low.le, holds (le_z max highest_db) good.max_high.le, holds (le_z lowest_db min) good.min_low.le, holds (le_z min highest_db) good.min_high.le)

    pub is_error : (error : Option ℤ) → speech_error_of l min max ≡ Ok error → error ≡ rms_error_of l min max
    is_error error e = let a = answered in cc

    pub not_refused : (cause : Refusal) → speech_error_of l min max ≡ Err cause → ⊥
    not_refused cause e = let a = answered in let z : ◌≡◌ {A = ℕ} 0 1 = cc in omega arith
