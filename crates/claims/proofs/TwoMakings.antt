-- Two pasts, of controllers from their making on, with every predictor and with the base's, and within the classroom. Assumes nothing.
use mathlib.Core.Path.{◌≡◌, sym, ap, ◌∙◌, subst}
use mathlib.Core.Bool.{Bool, true}
use mathlib.Core.List.{List, ◌++◌}
use Prim.Native.Nat.{ℕ}
use lib.IntN.{pos}
use lib.Dec.{T}
use lib.Ieee.{Float, binary32, le, of_int}
use Rattle.std.specs.Prelude.{Ok}
use Rattle.numbers.proofs.Truths.{both_true}
use Rattle.clipping_predictor_level_buffer.specs.Statistics.{plus_zero}
use Rattle.clipping_predictor.specs.declared.settings.ClippingPredictorConfig.{ClippingPredictorConfig}
use Rattle.mono_input_volume_controller.specs.declared.config.Config.{Config}
use Rattle.mono_input_volume_controller.specs.declared.profile.Profile.{Profile}
use Rattle.mono_input_volume_controller.specs.declared.profile.Profile.TheVariants.{Classroom}
use Rattle.mono_input_volume_controller.specs.Config.{in_unit, settings_from}
use Rattle.input_volume_controller.specs.Controller.{Controller, base_predictor, fresh, Making, making_with}
use Rattle.input_volume_controller.specs.Profile.{making_in}
use Rattle.input_volume_controller.specs.Calls.{Call, after, answers}
use Rattle.claims.specs.LeadIn.{LeadIn, calls_of}
use Rattle.claims.specs.TwoPasts.{RatioFromZero, enough}
use Rattle.claims.specs.Made.{ThresholdFromZero, AlikeAfterLeadIn, quiet_in, enough_in, TwoPasts, TwoPastsInClassroom, TwoPastsByDefault}
use Rattle.claims.proofs.Had.{had_run, had_stands}
use Rattle.claims.proofs.InProfile.{in_profile_taken, by_plain, in_classroom}
use Rattle.claims.proofs.Free.{free_is_unheard}
use Rattle.claims.proofs.Made.{made_fresh, chosen_good, made_fresh_by_default}
use Rattle.claims.proofs.EveryMode.{same_state_as_asked}
use Rattle.claims.proofs.TwoPasts.{led_by_own}

-- ---- two pasts that lead to the same state cannot be told apart, in the code neither

module _ (profile : Profile) (channels : ℕ) (config : Config) (predictor : ClippingPredictorConfig) where
  abbrev new : Controller
  new = (making_in profile (pos channels) config predictor).controller

  alike : (is_still : ℕ → List Float → Bool) (least : ℕ)
      → ((l : LeadIn channels is_still least) (past other : List Call) → after new (past ++ calls_of channels is_still l) ≡ after new (other ++ calls_of channels is_still l))
      → AlikeAfterLeadIn profile channels config predictor is_still least
  alike is_still least same = record {
    defined = λ l past other calls. ap (λ (c : Controller). answers c calls) (same l past other);
    in_code = λ l past other one two a b m n.
        free_is_unheard a b (had_run profile (pos channels) config predictor _ one a m).good (had_run profile (pos channels) config predictor _ two b n).good
        (had_stands profile (pos channels) config predictor _ one a m ∙ same l past other ∙ sym (had_stands profile (pos channels) config predictor _ two b n));
  }

-- ---- every predictor that a making takes

-- two pasts lead to the same state of what began as c
abbrev AlikeIn : ℕ → Controller → Type 0
AlikeIn channels c =
    (l : LeadIn channels (quiet_in c channels) (enough_in c)) (past other : List Call) → after c (past ++ calls_of channels (quiet_in c channels) l) ≡ after c (other ++ calls_of channels (quiet_in c channels) l)

ratio : (config : Config) → ThresholdFromZero config → RatioFromZero (settings_from config)
unfolding settings_from
ratio config h = h

-- of an accepted plain making, as it stands
new_alike : (channels : ℕ) (config : Config) (predictor : ClippingPredictorConfig) → ThresholdFromZero config → (making_with (pos channels) config predictor).answer ≡ Ok tt
    → AlikeIn channels (making_with (pos channels) config predictor).controller
new_alike channels config predictor word accepted =
    let f = made_fresh channels config predictor accepted in
    subst (AlikeIn channels) (sym f.is) (same_state_as_asked f.predictor (settings_from config) channels (chosen_good _ f) (ratio config word))

-- THE CLAIM
pub two_pasts : TwoPasts
two_pasts profile channels config predictor m =
    alike profile channels config predictor _ _ (by_plain profile (pos channels) config predictor m.accepted (λ (x : Making). AlikeIn channels x.controller) (new_alike channels config predictor m.ratio))

-- ---- within the classroom

-- a threshold within 0 to 1 is zero or more
from_zero : (x : Float) → in_unit x ≡ true → T (le plus_zero x)
unfolding in_unit of_int
from_zero x e = subst T (sym (both_true (le (of_int binary32 (pos 0)) x) (le x (of_int binary32 (pos 1))) e).0) tt

-- THE CLAIM
pub two_pasts_in_classroom : TwoPastsInClassroom
two_pasts_in_classroom channels config predictor accepted =
    two_pasts Classroom channels config predictor (record { accepted = accepted; ratio = from_zero config.clipped_ratio_threshold (in_classroom config (in_profile_taken Classroom (pos channels) config predictor accepted)).ratio })

-- ---- the base's

-- THE CLAIM, a corollary
pub two_pasts_by_default : TwoPastsByDefault
unfolding calls_of led_by_own
two_pasts_by_default profile channels config m =
    let s = settings_from config in
    let made = by_plain profile (pos channels) config base_predictor m.accepted (λ (x : Making). x.controller ≡ fresh s channels) (made_fresh_by_default channels config) in
    let t = subst (λ (c : Controller). AlikeAfterLeadIn profile channels config base_predictor (quiet_in c channels) (enough_in c)) made (two_pasts profile channels config base_predictor m) in
    record {
      defined = λ l. t.defined (led_by_own s channels (enough s) l);
      in_code = λ l. t.in_code (led_by_own s channels (enough s) l);
    }
