-- Two pasts, in every mode: two controllers with equal settings and channel counts answer alike after the same lead-in, whatever their pasts; proved with one accepted frame fewer in it than the
-- claim asks. Assumes nothing.
use mathlib.Core.Path.{◌≡◌, sym, ap, ◌∙◌}
use mathlib.Core.List.{List, ◌++◌}
use Prim.Native.Nat.{ℕ, ◌-◌}
use Rattle.clipping_predictor.specs.declared.settings.Settings as Predictor
use Rattle.clipping_predictor.specs.Settings.{Good}
use Rattle.mono_input_volume_controller.specs.declared.config.Settings.{Settings}
use Rattle.input_volume_controller.specs.Controller.{Controller, fresh_with}
use Rattle.input_volume_controller.specs.Calls.{Call, after, answers}
use Rattle.claims.specs.LeadIn.{quiet_for, LeadIn, calls_of}
use Rattle.claims.specs.TwoPasts.{AlikeAfter, RatioFromZero, enough_for, TwoPastsInEveryMode}
use Rattle.claims.proofs.Kept.{kept_fresh, kept_after}
use Rattle.claims.proofs.Runs.{after_append}
use Rattle.claims.proofs.Closing.{canon, grown_of, led_to}
use Rattle.claims.proofs.Relaxed.{fewer_asked}

module _ (p : Predictor.Settings) (s : Settings) (n : ℕ) (good : Good p) (ratio : RatioFromZero s) (l : LeadIn n (quiet_for p n) (enough_for p s - 1)) where
  -- every past and then the lead-in lead to the same state
  reached : (past : List Call) → after (fresh_with p s n) (past ++ calls_of n (quiet_for p n) l) ≡ canon p s n good ratio l (grown_of p s n good ratio l)
  reached past =
      after_append past (calls_of n (quiet_for p n) l) (fresh_with p s n)
      ∙ led_to p s n good ratio l (after (fresh_with p s n) past) (kept_after p s n past (fresh_with p s n) (kept_fresh p s n))

  -- so two pasts lead to the same state
  pub same_state_in_every_mode : (past other : List Call)
      → after (fresh_with p s n) (past ++ calls_of n (quiet_for p n) l) ≡ after (fresh_with p s n) (other ++ calls_of n (quiet_for p n) l)
  same_state_in_every_mode past other = reached past ∙ sym (reached other)

  -- THE SHARPER CLAIM, in every mode
  pub one_fewer_in_every_mode : AlikeAfter (fresh_with p s n) (calls_of n (quiet_for p n) l)
  one_fewer_in_every_mode past other calls = ap (λ (c : Controller). answers c calls) (same_state_in_every_mode past other)

-- with as many as the claim asks
pub same_state_as_asked : (p : Predictor.Settings) (s : Settings) (n : ℕ) → Good p → RatioFromZero s → (l : LeadIn n (quiet_for p n) (enough_for p s)) (past other : List Call)
    → after (fresh_with p s n) (past ++ calls_of n (quiet_for p n) l) ≡ after (fresh_with p s n) (other ++ calls_of n (quiet_for p n) l)
unfolding calls_of fewer_asked
same_state_as_asked p s n good ratio l = same_state_in_every_mode p s n good ratio (fewer_asked n (quiet_for p n) (enough_for p s) l)

-- THE CLAIM, in every mode
pub two_pasts_in_every_mode : TwoPastsInEveryMode
two_pasts_in_every_mode p s n good ratio l past other calls = ap (λ (c : Controller). answers c calls) (same_state_as_asked p s n good ratio l past other)
