-- A predictor's making is refused with the number of the first cause that holds, and what stands beside a refusal is always the same. Assumes nothing.
use mathlib.Core.Path.{◌≡◌, refl, sym, ap, ◌∙◌}
use mathlib.Core.Bool.{Bool, true, false, not, ◌||◌}
use mathlib.Core.List.{List, [], ◌∷◌}
use Prim.Native.Nat.{ℕ, ◌+◌}
use native.Mathlib.Omega.{arith}
use lib.Dec.{leb, ltb, leb-suc-suc}
use lib.IntN.{ℤ, pos, negsuc, nat_abs}
use Rattle.std.specs.Prelude.{Err, None, Ok, Option, Result, Some}
use Rattle.numbers.specs.declared.refusal.Refusal.{Refusal}
use Rattle.numbers.specs.Natural.{number_if, within_of, at_least_of}
use Rattle.numbers.specs.Said.{refused, refusal_in, said}
use Rattle.clipping_predictor.specs.declared.settings.ClippingPredictorConfig.{ClippingPredictorConfig}
use Rattle.clipping_predictor.specs.declared.settings.Settings.{Settings}
use Rattle.clipping_predictor.specs.Settings.{max_level, levels_in_range, checked_if, checked, settings_of}
use Rattle.clipping_predictor.specs.Predictor.{max_channels, unmade_settings, empty_predictor, made_of, making_of}
use Rattle.claims.specs.Causes.{Cause, first_if, first_of, outside, windows_out, sum_out, levels_out, predictor_faults}
use Rattle.claims.specs.RefusedBelow.{predictor_causes}
use Rattle.claims.proofs.Causes.{less_is, either, or_true, or_false, is_outside, within_is}

-- ---- the levels

level_is : (z : ℤ) → outside (negsuc 199999) (pos 200000) z ≡ not (leb (nat_abs z) max_level)
level_is (pos n) = less_is n 200000
level_is (negsuc n) = or_false (ltb 199999 n) ∙ less_is n 199999 ∙ ap not (sym (leb-suc-suc n 199999))

levels_is : (threshold margin : ℤ) → levels_out threshold margin ≡ not (levels_in_range threshold margin)
unfolding levels_in_range
levels_is threshold margin = (λ i. level_is threshold i || level_is margin i) ∙ either (leb (nat_abs threshold) max_level) (leb (nat_abs margin) max_level)

-- ---- the windows

-- causes 7, 14 and 15 from their outcomes
abbrev of_settings : Bool → Bool → Bool → List Cause
of_settings a b c = record { number = 7; holds = a } ∷ record { number = 14; holds = b } ∷ record { number = 15; holds = c } ∷ []

checked_first : (above room levels : Bool) (s : Settings) → refusal_in (said (checked_if above room levels s)) ≡ first_of (of_settings (not above) (not room) (not levels))
checked_first false room levels s = refl
checked_first true false levels s = refl
checked_first true true false s = refl
checked_first true true true s = refl

-- a number that must be at most another
twice : (t : Bool) → t ≡ not (not t)
twice true = refl
twice false = refl

at_most_is : (a b : ℕ) → leb a b ≡ not (ltb b a)
at_most_is a b = twice (leb a b) ∙ ap not (sym (less_is a b))

module _ (c : ClippingPredictorConfig) where
  abbrev in_range : Bool
  in_range = levels_in_range c.clipping_threshold c.crest_factor_margin

  -- a window, a reference or a delay that is too small by itself
  second_out : (a : Bool) (w : ℕ) (d : Option ℕ) → refusal_in (said (checked (number_if a w) None d c)) ≡ Some 7
  unfolding checked
  second_out true w d = refl
  second_out false w d = refl

  third_out : (a b : Bool) (w r : ℕ) → refusal_in (said (checked (number_if a w) (number_if b r) None c)) ≡ Some 7
  unfolding checked
  third_out true true w r = refl
  third_out true false w r = refl
  third_out false b w r = refl

  natural_first : (w r d : ℕ) (a b e : Bool)
      → refusal_in (said (checked (number_if a w) (number_if b r) (number_if e d) c)) ≡ first_of (of_settings (not a || (not b || (not e || not (ltb w (d + r))))) (not (leb (d + r) 64)) (not in_range))
  unfolding checked
  natural_first w r d true true true = checked_first (ltb w (d + r)) (leb (d + r) 64) in_range _
  natural_first w r d true true false = refl
  natural_first w r d true false e = refl
  natural_first w r d false b e = refl

  windows_first : (w r d : ℤ) → refusal_in (said (checked (at_least_of 1 w) (at_least_of 1 r) (at_least_of 0 d) c)) ≡ first_of (of_settings (windows_out w r d) (sum_out r d) (not in_range))
  unfolding at_least_of checked
  windows_first (negsuc w) r d = refl
  windows_first (pos w) (negsuc r) d = second_out (leb 1 w) w (at_least_of 0 d) ∙ ap (λ (t : Bool). first_of (of_settings t (sum_out (negsuc r) d) (not in_range))) (sym (or_true (ltb w 1)))
  windows_first (pos w) (pos r) (negsuc d) =
      third_out (leb 1 w) (leb 1 r) w r
      ∙ ap (λ (t : Bool). first_of (of_settings t (sum_out (pos r) (negsuc d)) (not in_range))) (sym (ap (λ (t : Bool). ltb w 1 || t) (or_true (ltb r 1)) ∙ or_true (ltb w 1)))
  windows_first (pos w) (pos r) (pos d) =
      natural_first w r d (leb 1 w) (leb 1 r) (leb 0 d)
      ∙ (λ i. first_of (of_settings (sym (less_is 1 w) i || (sym (less_is 1 r) i || (sym (less_is 0 d) i || sym (at_most_is (d + r) w) i))) (sym (less_is (d + r) 64) i) (not in_range)))

-- a check refuses with the first fault of the configuration
pub faults_first : (c : ClippingPredictorConfig) → refusal_in (said (settings_of c)) ≡ first_of (predictor_faults c)
unfolding settings_of
faults_first c =
    let w = c.window_length in
    let r = c.reference_window_length in
    let d = c.reference_window_delay in
    windows_first c w r d ∙ (λ i. first_of (of_settings (windows_out w r d) (sum_out r d) (sym (levels_is c.clipping_threshold c.crest_factor_margin) i)))

-- ---- the making

made_first : (channels : Option ℕ) (k : Result Settings Refusal) → refusal_in (said (made_of channels k).answer) ≡ first_if (is_outside channels) 1 (refusal_in (said k))
unfolding made_of
made_first None k = refl
made_first (Some n) (Err cause) = refl
made_first (Some n) (Ok s) = refl

pub predictor_first : (channels : ℤ) (config : ClippingPredictorConfig) → refusal_in (said (making_of channels config).answer) ≡ first_of (predictor_causes channels config)
unfolding making_of
predictor_first channels c = made_first (within_of 1 max_channels channels) (settings_of c) ∙ (λ i. first_if (sym (within_is 1 8 channels) i) 1 (faults_first c i))

made_beside : (channels : Option ℕ) (k : Result Settings Refusal) (number : ℕ) → said (made_of channels k).answer ≡ refused number → (made_of channels k).predictor ≡ empty_predictor unmade_settings 1
unfolding made_of
made_beside None k number e = refl
made_beside (Some n) (Err cause) number e = refl
made_beside (Some n) (Ok s) number e = let z : ◌≡◌ {A = ℕ} 0 1 = cc in absurd (omega arith)

pub predictor_beside : (channels : ℤ) (config : ClippingPredictorConfig) (number : ℕ) → said (making_of channels config).answer ≡ refused number → (making_of channels config).predictor ≡ empty_predictor unmade_settings 1
unfolding making_of
predictor_beside channels config number e = made_beside (within_of 1 max_channels channels) (settings_of config) number e
