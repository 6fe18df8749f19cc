-- A calm list of calls, and that after enough quiet frames in it, but for one, the next makes rings and count known. Assumes nothing.
use mathlib.Core.Path.{◌≡◌, refl, sym, subst}
use mathlib.Core.List.{List, [], ◌∷◌}
use mathlib.Core.Bool.{Bool, true, false, not, ◌||◌}
use Prim.Native.Nat.{ℕ, suc, ◌+◌, ◌-◌, ◌≤◌, zero-le}
use native.Mathlib.Nat.{le_refl}
use native.Mathlib.Omega.{arith}
use lib.Dec.{T}
use lib.Ieee.{Float, le}
use lib.ListN.{length, replicate}
use Rattle.std.specs.Prelude.{Err, None, Ok, Option, Result, Some}
use Rattle.numbers.specs.declared.refusal.Refusal.{Refusal}
use Rattle.clipping_predictor_level_buffer.specs.declared.level.Level.{Level}
use Rattle.clipping_predictor_level_buffer.specs.Statistics.{plus_zero}
use Rattle.clipping_predictor.specs.declared.settings.Settings as Predictor
use Rattle.clipping_predictor.specs.Estimate.{capacity_if, capacity_of}
use Rattle.clipping_predictor.specs.Predictor.{levels_of}
use Rattle.mono_input_volume_controller.specs.declared.config.Settings.{Settings}
use Rattle.clipping_predictor_level_buffer.specs.Clipped.{one_if}
use Rattle.input_volume_controller.specs.ControlCalls.{aggregated, initialize, process_channels}
use Rattle.input_volume_controller.specs.Controller.{Controller}
use Rattle.input_volume_controller.specs.Volumes.{numbers_of, numbers_in}
use Rattle.input_volume_controller.specs.Frame.{frame_outcome, unless_refused, analyze_input_audio}
use Rattle.input_volume_controller.specs.Recommendation.{recommend_if, unless_none, recommend_input_volume}
use Rattle.input_volume_controller.specs.Calls.{Call, frame, recommendation, initialise, capture_switch, step, after}
use Rattle.claims.specs.Past.{is_accepted}
use Rattle.claims.specs.LeadIn.{all, accepted_by, accepted_in, is_low, quiet_for, is_calm}
use Rattle.claims.specs.TwoPasts.{enough_for}
use Rattle.claims.proofs.Lists.{and_l, and_r, is_true}
use Rattle.claims.proofs.Outcomes.{is_taken, accepted_is}
use Rattle.claims.proofs.Kept.{Kept, count_of, kept_step}
use Rattle.claims.proofs.Rings.{grow, match_start}
use Rattle.claims.proofs.Led.{Led, led_same}
use Rattle.claims.proofs.QuietFrames.{led_frame}

-- ---- the records that a list of calls gives

abbrev grow_if : Bool → List Level → List (List Level) → List (List Level)
grow_if true levels grown = grow levels grown
grow_if false levels grown = grown

unfoldable pub grown_by : ℕ → Call → List (List Level) → List (List Level)
unfolding is_accepted
grown_by n (frame most volumes samples lent) grown = grow_if (is_accepted most n volumes samples lent) (levels_of n samples lent) grown
grown_by n (recommendation probability level) grown = grown
grown_by n initialise grown = grown
grown_by n (capture_switch on) grown = grown

unfoldable pub grown_in : ℕ → List Call → List (List Level) → List (List Level)
grown_in n [] grown = grown
grown_in n (call ∷ calls) grown = grown_in n calls (grown_by n call grown)

module _ (p : Predictor.Settings) (s : Settings) (n : ℕ) where
  abbrev pub L : List (List Level) → ℕ → Controller → Type 0
  L grown k c = Led p s grown k c

  pub led_start : (c : Controller) → Kept p s n c → L (replicate n []) 0 (step c (capture_switch true)).state
  led_start c b = record { on = refl; m = 0; late = zero-le; rows = match_start (is_low p) (capacity_of p) n c.predictor.rings b.count; waited = omega arith }

  led_by : (grown : List (List Level)) (j k : ℕ) (c : Controller) → j ≡ k → L grown j c → L grown k c
  led_by grown j k c e h = subst (λ (x : ℕ). L grown x c) e h

  led_recommended : (t : Bool) (applied : ℕ) (probability : Float) (level : Option Float) (grown : List (List Level)) (k : ℕ) (c : Controller) → L grown k c
      → L grown k (recommend_if t applied probability level c).state
  unfolding process_channels aggregated
  led_recommended true applied probability level grown k c h = led_same p s grown k c _ refl refl refl h
  led_recommended false applied probability level grown k c h = led_same p s grown k c _ refl refl refl h

  led_asked : (a : Option ℕ) (probability : Float) (level : Option Float) (grown : List (List Level)) (k : ℕ) (c : Controller) → L grown k c
      → L grown k (unless_none a probability level c).state
  led_asked None probability level grown k c h = h
  led_asked (Some applied) probability level grown k c h = led_recommended c.control.used applied probability level grown k c h

  pub led_initialise : (grown : List (List Level)) (k : ℕ) (c : Controller) → L grown k c → L grown k (step c initialise).state
  unfolding initialize aggregated
  led_initialise grown k c h = record { on = refl; m = h.m; late = h.late; rows = h.rows; waited = h.waited }

  led_switch : (on : Bool) (grown : List (List Level)) (k : ℕ) (c : Controller) → T on → L grown k c → L grown k (step c (capture_switch on)).state
  led_switch on grown k c t h = record { on = is_true on t; m = h.m; late = h.late; rows = h.rows; waited = h.waited }

  module _ (window : 1 ≤ p.window) (ratio : T (le plus_zero s.clipped_ratio)) where
    led_heard : (o : Result (Unit {0}) Refusal) (volumes : List ℕ) (samples : ℕ) (lent : List Float) (grown : List (List Level)) (k : ℕ) (c : Controller) → Kept p s n c
        → T (not (is_taken o) || quiet_for p n samples lent) → L grown k c
        → L (grow_if (is_taken o) (levels_of n samples lent) grown) (one_if (is_taken o) + k) (unless_refused o volumes samples lent c).state
    led_heard (Err cause) volumes samples lent grown k c b t h = led_by _ k (0 + k) _ (omega arith) h
    led_heard (Ok tt) volumes samples lent grown k c b t h = led_by _ (suc k) (1 + k) _ (omega arith) (led_frame p s n window ratio volumes samples lent grown k c b t h)

    led_step : (call : Call) (grown : List (List Level)) (k : ℕ) (c : Controller) → Kept p s n c → T (is_calm n (quiet_for p n) call) → L grown k c
        → L (grown_by n call grown) (accepted_by n call + k) (step c call).state
    unfolding grown_by accepted_by is_calm analyze_input_audio recommend_input_volume
    led_step (frame most volumes samples lent) grown k c b t h =
        let o = frame_outcome most (length c.control.channels) volumes samples lent in
        let accepted : is_taken o ≡ is_accepted most n volumes samples lent = accepted_is most volumes samples lent (count_of s n c.control b.control) in
        subst (λ (a : Bool). L (grow_if a (levels_of n samples lent) grown) (one_if a + k) (step c (frame most volumes samples lent)).state) accepted
        (led_heard o (numbers_in (numbers_of volumes)) samples lent grown k c b (subst (λ (a : Bool). T (not a || quiet_for p n samples lent)) (sym accepted) t) h)
    led_step (recommendation probability level) grown k c b t h = led_by _ k (0 + k) _ (omega arith) (led_asked c.control.applied probability level grown k c h)
    led_step initialise grown k c b t h = led_by _ k (0 + k) _ (omega arith) (led_initialise grown k c h)
    led_step (capture_switch on) grown k c b t h = led_by _ k (0 + k) _ (omega arith) (led_switch on grown k c t h)

    pub led_after : (calls : List Call) (grown : List (List Level)) (k : ℕ) (c : Controller) → Kept p s n c → T (all (is_calm n (quiet_for p n)) calls) → L grown k c
        → L (grown_in n calls grown) (accepted_in n calls + k) (after c calls)
    unfolding grown_in accepted_in after all
    led_after [] grown k c b t h = led_by _ k (0 + k) _ (omega arith) h
    led_after (call ∷ calls) grown k c b t h =
        led_by _ _ _ _ (regroup (accepted_in n calls) (accepted_by n call) k)
        (led_after calls (grown_by n call grown) (accepted_by n call + k) (step c call).state (kept_step p s n call c b) (and_r (is_calm n (quiet_for p n) call) _ t)
        (led_step call grown k c b (and_l (is_calm n (quiet_for p n) call) _ t) h))
      where
        regroup : (a b c : ℕ) → a + (b + c) ≡ b + a + c
        regroup a b c = omega arith

  -- ---- enough quiet frames, but for the last one

  capacity_le : (t : Bool) (k : ℕ) → capacity_if t k ≤ k
  capacity_le true k = le_refl _
  capacity_le false k = zero-le

  module _ (grown : List (List Level)) (k : ℕ) (c : Controller) (h : L grown k c) (e : enough_for p s - 1 ≤ k) where
    -- one record more fills a ring
    pub ready_rings : capacity_of p ≤ suc h.m
    ready_rings = omega (arith, capacity_le p.enabled (p.delay + p.reference), h.late, e)

    -- one frame more ends the wait
    pub ready_since : s.clipped_wait ≤ suc c.control.since
    ready_since = omega (arith, h.waited, h.late, e)

  -- and fills the window
  pub ready_window : (k : ℕ) → 1 ≤ p.reference → enough_for p s - 1 ≤ k → p.window ≤ suc k
  ready_window k r e = omega (arith, r, e)
