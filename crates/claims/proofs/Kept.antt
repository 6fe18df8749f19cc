-- What every call keeps, from a fresh controller on: its settings and its predictor's, the settings that the channels carry, the counts of channels and rings, rings within
-- their capacity, and a count of frames since clipping up to the wait. Assumes nothing.
use mathlib.Core.Path.{◌≡◌, refl, sym, ap, ◌∙◌}
use mathlib.Core.Bool.{Bool, true, false, ◌||◌}
use mathlib.Core.List.{List, [], ◌∷◌, map}
use Prim.Native.Nat.{ℕ, zero, suc, ◌≤◌, ◌<◌, max, zero-le}
use native.Mathlib.Nat.{le_refl}
use native.Mathlib.Omega.{arith}
use lib.Dec.{ltb}
use borrow.Author.Tests.{ltb-true}
use lib.Ieee.{Float, lt}
use lib.ListN.{length, replicate, length-take, length-map, length-replicate}
use Rattle.std.specs.Prelude.{Err, None, Ok, Option, Result, Some}
use Rattle.numbers.specs.declared.refusal.Refusal.{Refusal}
use Rattle.clipping_predictor_level_buffer.specs.declared.level.Level.{Level}
use Rattle.clipping_predictor.specs.declared.modes.Estimated.{Estimated}
use Rattle.clipping_predictor.specs.declared.settings.Settings as Predictor
use Rattle.clipping_predictor.specs.Estimate.{capacity_of}
use Rattle.clipping_predictor.specs.Predictor.{levels_of, push_each, entered_if}
use Rattle.mono_input_volume_controller.specs.declared.config.Settings.{Settings}
use Rattle.input_volume_controller.specs.ClippedRatio.{clipped_ratio_of}
use Rattle.mono_input_volume_controller.specs.Mono.{created}
use Rattle.input_volume_controller.specs.Control.{Control}
use Rattle.input_volume_controller.specs.ControlCalls.{aggregated, with_applied_input_volumes, initialize, switch_capture, lower_channels, process_channels}
use Rattle.input_volume_controller.specs.Controller.{Controller, fresh_with}
use Rattle.clipping_predictor.specs.AllRings.{predicted_by}
use Rattle.input_volume_controller.specs.Volumes.{numbers_of, numbers_in}
use Rattle.input_volume_controller.specs.Frame.{asked_of, handle_if, with_volumes_applied, frame_outcome, unless_waiting, if_used, unless_refused, analyze_input_audio}
use Rattle.input_volume_controller.specs.Recommendation.{recommend_if, unless_none, recommend_input_volume}
use Rattle.input_volume_controller.specs.Calls.{Call, frame, recommendation, initialise, capture_switch, step, after}
use Rattle.claims.proofs.Lists.{map_replicate}
use Rattle.claims.proofs.Cores.{core, cores_called}
use Rattle.claims.proofs.Sets.{cores_given}

-- no ring stores more than its capacity
abbrev pub Small : ℕ → List (List Level) → Type 0
Small capacity [] = Unit {0}
Small capacity (r ∷ rings) = (length r ≤ capacity) × Small capacity rings

-- ---- rings

length_pushed : (capacity : ℕ) (levels : List Level) (rings : List (List Level)) → length (push_each capacity levels rings) ≡ length rings
unfolding push_each
length_pushed capacity levels [] = refl
length_pushed capacity [] (r ∷ rings) = refl
length_pushed capacity (l ∷ levels) (r ∷ rings) = ap suc (length_pushed capacity levels rings)

small_pushed : (capacity : ℕ) (levels : List Level) (rings : List (List Level)) → Small capacity rings → Small capacity (push_each capacity levels rings)
unfolding push_each
small_pushed capacity levels [] h = tt
small_pushed capacity [] (r ∷ rings) h = h
small_pushed capacity (l ∷ levels) (r ∷ rings) h = (rw length-take (omega arith), small_pushed capacity levels rings h.1)

small_emptied : (capacity : ℕ) (rings : List (List Level)) → Small capacity (map (λ (r : List Level). []) rings)
small_emptied capacity [] = tt
small_emptied capacity (r ∷ rings) = (zero-le, small_emptied capacity rings)

small_fresh : (capacity n : ℕ) → Small capacity (replicate n [])
small_fresh capacity zero = tt
small_fresh capacity (suc n) = (zero-le, small_fresh capacity n)

-- ---- all of the controller but its predictor

pub record KeptControl (s : Settings) (n : ℕ) (c : Control) : Type 0 where
  pub settings : c.settings ≡ s
  pub cores : map core c.channels ≡ replicate n (core (created s))
  pub early : c.since ≤ s.clipped_wait

pub count_of : (s : Settings) (n : ℕ) (c : Control) → KeptControl s n c → length c.channels ≡ n
count_of s n c k = sym (length-map c.channels core) ∙ ap length k.cores ∙ length-replicate n (core (created s))

module _ (s : Settings) (n : ℕ) where
  kept_initialize : (c : Control) → KeptControl s n c → KeptControl s n (initialize c)
  unfolding initialize aggregated
  kept_initialize c k = record { settings = k.settings; cores = cores_called _ c.channels ∙ k.cores; early = k.early }

  kept_switch : (on : Bool) (c : Control) → KeptControl s n c → KeptControl s n (switch_capture on c)
  kept_switch on c k = record { settings = k.settings; cores = cores_called _ c.channels ∙ k.cores; early = k.early }

  pub kept_applied : (volumes : List ℕ) (c : Control) → KeptControl s n c → KeptControl s n (with_applied_input_volumes volumes c)
  unfolding with_applied_input_volumes aggregated
  kept_applied volumes c k = record { settings = k.settings; cores = cores_given volumes c.channels ∙ k.cores; early = k.early }

  kept_lowered : (amount : ℕ) (c : Control) → KeptControl s n c → KeptControl s n (lower_channels amount c)
  unfolding lower_channels aggregated
  kept_lowered amount c k = record { settings = k.settings; cores = cores_called _ c.channels ∙ k.cores; early = zero-le }

  kept_processed : (probability : Float) (level : Option Float) (c : Control) → KeptControl s n c → KeptControl s n (process_channels probability level c)
  unfolding process_channels aggregated
  kept_processed probability level c k = record { settings = k.settings; cores = cores_called _ c.channels ∙ k.cores; early = k.early }

  kept_aggregated : (c : Control) → KeptControl s n c → KeptControl s n (aggregated c)
  unfolding aggregated
  kept_aggregated c k = record { settings = k.settings; cores = k.cores; early = k.early }

-- ---- the whole controller

pub record Kept (p : Predictor.Settings) (s : Settings) (n : ℕ) (c : Controller) : Type 0 where
  pub control : KeptControl s n c.control
  pub settings : c.predictor.settings ≡ p
  pub count : length c.predictor.rings ≡ n
  pub small : Small (capacity_of p) c.predictor.rings

module _ (p : Predictor.Settings) (s : Settings) (n : ℕ) where
  abbrev K : Controller → Type 0
  K c = Kept p s n c

  pub kept_fresh : K (fresh_with p s n)
  kept_fresh = record {
    control = record { settings = refl; cores = map_replicate core n (created s); early = le_refl _ };
    settings = refl;
    count = length-replicate n [];
    small = small_fresh (capacity_of p) n;
  }

  -- a call that touches the control alone
  with_control : (control : Control) (c : Controller) → KeptControl s n control → K c → K (record { control = control; predictor = c.predictor })
  with_control control c kc k = record { control = kc; settings = k.settings; count = k.count; small = k.small }

  pub kept_entered : (samples : ℕ) (lent : List Float) (c : Controller) → K c → K (record { control = c.control; predictor = entered_if true samples lent c.predictor })
  kept_entered samples lent c k = record {
    control = k.control;
    settings = k.settings;
    count = length_pushed (capacity_of c.predictor.settings) (levels_of (length c.predictor.rings) samples lent) c.predictor.rings ∙ k.count;
    small = rw k.settings (small_pushed (capacity_of p) (levels_of (length c.predictor.rings) samples lent) c.predictor.rings k.small);
  }

  kept_handled : (t : Bool) (amount : ℕ) (c : Controller) → K c → K (handle_if t amount c)
  kept_handled true amount c k = record {
    control = kept_lowered s n amount c.control k.control;
    settings = k.settings;
    count = length-map c.predictor.rings (λ (r : List Level). []) ∙ k.count;
    small = small_emptied (capacity_of p) c.predictor.rings;
  }
  kept_handled false amount c k = k

  -- one frame more is counted only within the wait
  kept_waiting : (t clipped : Bool) (c : Controller) → (t ≡ true → c.control.since < c.control.settings.clipped_wait) → K c → K (unless_waiting t clipped c).state
  kept_waiting true clipped c h k =
      with_control _ c
      (record {
        settings = k.control.settings;
        cores = k.control.cores;
        early = omega (arith, h refl, ap (λ (x : Settings). x.clipped_wait) k.control.settings);
      })
      k
  kept_waiting false clipped c h k =
      let e : Estimated = predicted_by (asked_of c.control) c.predictor in
      kept_handled (clipped || ltb 0 e.drop) (max c.control.settings.step e.drop) c k

  kept_used : (t : Bool) (samples : ℕ) (lent : List Float) (c : Controller) → K c → K (if_used t samples lent c).state
  kept_used true samples lent c k =
      kept_waiting (ltb c.control.since c.control.settings.clipped_wait)
      (lt c.control.settings.clipped_ratio (clipped_ratio_of (length c.control.channels) samples lent))
      (record { control = c.control; predictor = entered_if true samples lent c.predictor })
      (ltb-true c.control.since c.control.settings.clipped_wait) (kept_entered samples lent c k)
  kept_used false samples lent c k = k

  kept_frame : (o : Result (Unit {0}) Refusal) (volumes : List ℕ) (samples : ℕ) (lent : List Float) (c : Controller) → K c → K (unless_refused o volumes samples lent c).state
  kept_frame (Err cause) volumes samples lent c k = k
  kept_frame (Ok tt) volumes samples lent c k =
      kept_used c.control.used samples lent (with_volumes_applied volumes c)
      (with_control (with_applied_input_volumes volumes c.control) c (kept_applied s n volumes c.control k.control) k)

  kept_recommended : (t : Bool) (applied : ℕ) (probability : Float) (level : Option Float) (c : Controller) → K c → K (recommend_if t applied probability level c).state
  kept_recommended true applied probability level c k =
      let q = kept_processed s n probability level c.control k.control in
      with_control _ c (record { settings = q.settings; cores = q.cores; early = q.early }) k
  kept_recommended false applied probability level c k = with_control _ c (kept_aggregated s n c.control k.control) k

  kept_asked : (a : Option ℕ) (probability : Float) (level : Option Float) (c : Controller) → K c → K (unless_none a probability level c).state
  kept_asked None probability level c k = k
  kept_asked (Some applied) probability level c k = kept_recommended c.control.used applied probability level c k

  pub kept_step : (call : Call) (c : Controller) → K c → K (step c call).state
  unfolding analyze_input_audio recommend_input_volume
  kept_step (frame most volumes samples lent) c k = kept_frame (frame_outcome most (length c.control.channels) volumes samples lent) (numbers_in (numbers_of volumes)) samples lent c k
  kept_step (recommendation probability level) c k = kept_asked c.control.applied probability level c k
  kept_step initialise c k = with_control _ c (kept_initialize s n c.control k.control) k
  kept_step (capture_switch on) c k = with_control _ c (kept_switch s n on c.control k.control) k

  pub kept_after : (calls : List Call) (c : Controller) → K c → K (after c calls)
  unfolding after
  kept_after [] c k = k
  kept_after (call ∷ calls) c k = kept_after calls (step c call).state (kept_step call c k)
