-- The whole lead-in: it leads every controller with these settings and channels to one state. Assumes nothing.
use mathlib.Core.Path.{◌≡◌, refl, sym, ap, ◌∙◌, subst}
use mathlib.Core.List.{List, [], ◌∷◌, ◌++◌, map}
use mathlib.Core.Bool.{true}
use Prim.Native.Nat.{ℕ, ◌+◌, ◌-◌, ◌≤◌}
use native.Mathlib.Omega.{arith}
use lib.IntN.{pos}
use lib.Ieee.{Float}
use lib.Dec.{T, leb}
use lib.ListN.{length, length-map, take, replicate}
use Rattle.std.specs.Prelude.{None, Option, Some}
use Rattle.clipping_predictor_level_buffer.specs.declared.level.Level.{Level}
use Rattle.clipping_predictor.specs.declared.settings.Settings as Predictor
use Rattle.clipping_predictor.specs.Estimate.{capacity_of}
use Rattle.clipping_predictor.specs.Settings.{Good}
use Rattle.clipping_predictor.specs.Predictor.{Predictor, levels_of, entered_if}
use Rattle.mono_input_volume_controller.specs.declared.config.Settings.{Settings}
use Rattle.mono_input_volume_controller.specs.declared.mono.MonoInputVolumeController.{MonoInputVolumeController}
use Rattle.mono_input_volume_controller.specs.SpeechLevel.{rms_error_of}
use Rattle.mono_input_volume_controller.specs.Mono.{created}
use Rattle.input_volume_controller.specs.Volumes.{lowest_of}
use Rattle.input_volume_controller.specs.Channels.{aggregate_of}
use Rattle.input_volume_controller.specs.ControlCalls.{raised_for, aggregated, with_applied_input_volumes, initialize, process_channels}
use Rattle.input_volume_controller.specs.Controller.{Controller}
use Rattle.input_volume_controller.specs.Reply.{Stepped}
use Rattle.input_volume_controller.specs.Recommendation.{recommend_if}
use Rattle.input_volume_controller.specs.Calls.{Call, frame, recommendation, initialise, capture_switch, step, after}
use Rattle.claims.specs.LeadIn.{all, accepted_in, is_refused, quiet_for, LeadIn, calls_of}
use Rattle.claims.specs.TwoPasts.{RatioFromZero, enough_for}
use Rattle.claims.proofs.Lists.{all_left, all_right}
use Rattle.claims.proofs.Cores.{core}
use Rattle.claims.proofs.Closed.{finished_each, all_finished}
use Rattle.claims.proofs.Kept.{Kept, count_of, kept_step, kept_after}
use Rattle.claims.proofs.Rings.{grow}
use Rattle.claims.proofs.Led.{entered, Led}
use Rattle.claims.proofs.QuietFrames.{counting, quiet_frame, full_rings}
use Rattle.claims.proofs.Calm.{grown_in, led_start, led_after, led_initialise, ready_rings, ready_since, ready_window}
use Rattle.claims.proofs.Outcomes.{accepted_as}
use Rattle.claims.proofs.Runs.{after_append, after_refused, skip, step_numbers, step_recommended}

module _ (vs : List ℕ) (samples : ℕ) (lent : List Float) (probability : Float) (level : Option Float) where
  -- the state that the last three calls leave, by the settings, what is left of the channels, the count that the frame leaves, and the predictor that it leaves
  final : Settings → List MonoInputVolumeController → ℕ → Predictor → Controller
  final s cores since predictor =
      let channels = finished_each (rms_error_of level s.min_target s.max_target) probability vs cores in
      record {
        control = record {
          settings = s;
          channels = channels;
          since = since;
          used = true;
          applied = None;
          volume = raised_for (Some (lowest_of vs)) s.least (aggregate_of channels).volume;
          controlling = (aggregate_of channels).channel;
        };
        predictor = predictor;
      }

  closing : (since : ℕ) (c : Controller) → length vs ≡ length c.control.channels → T (all (leb 1) vs)
      → (recommend_if true (lowest_of vs) probability level (counting since (entered vs samples lent (step c initialise).state))).state
      ≡ final c.control.settings (map core c.control.channels) since (entered_if true samples lent c.predictor)
  unfolding final process_channels with_applied_input_volumes initialize aggregated
  closing since c count positive =
      ap (λ (channels : List MonoInputVolumeController). record {
        control = record {
          settings = c.control.settings;
          channels = channels;
          since = since;
          used = true;
          applied = None;
          volume = raised_for (Some (lowest_of vs)) c.control.settings.least (aggregate_of channels).volume;
          controlling = (aggregate_of channels).channel;
        };
        predictor = entered_if true samples lent c.predictor;
      })
      (all_finished (rms_error_of level c.control.settings.min_target c.control.settings.max_target) probability vs c.control.channels count positive)

-- one accepted frame fewer in the lead-in's list than the claim asks: the last frame is quiet too
module _ (p : Predictor.Settings) (s : Settings) (n : ℕ) (good : Good p) (ratio : RatioFromZero s) (l : LeadIn n (quiet_for p n) (enough_for p s - 1)) where
  -- the state that the lead-in leads to, by the records that its list gave
  pub canon : List (List Level) → Controller
  canon grown =
      final l.volumes l.samples l.lent l.probability l.level s (replicate n (core (created s))) s.clipped_wait
      (record { settings = p; rings = map (take (capacity_of p)) (grow (levels_of n l.samples l.lent) grown) })

  module _ (grown : List (List Level)) (k : ℕ) (c : Controller) (b : Kept p s n c) (h : Led p s grown k c) (e : enough_for p s - 1 ≤ k) where
    abbrev first : Controller
    first = (step c initialise).state

    abbrev second : Controller
    second = counting s.clipped_wait (entered l.volumes l.samples l.lent first)

    kept_first : Kept p s n first
    kept_first = kept_step p s n initialise c b

    led_first : Led p s grown k first
    led_first = led_initialise p s n grown k c h

    to_second : (step first (frame l.most (map pos l.volumes) l.samples l.lent)).state ≡ second
    unfolding initialize aggregated
    to_second =
        ap (λ (x : Stepped). x.state) (step_numbers n l.most l.volumes l.samples l.lent first (count_of s n first.control kept_first.control) l.accepted)
        ∙ quiet_frame p s n good.window_low ratio l.volumes l.samples l.lent grown k first kept_first l.still led_first
        (ready_window p s n k good.reference_low e) (ready_since p s n grown k first led_first e)

    to_final : (recommend_if true (lowest_of l.volumes) l.probability l.level second).state ≡ canon grown
    unfolding canon
    to_final =
        closing l.volumes l.samples l.lent l.probability l.level s.clipped_wait c
        (sym (length-map l.volumes pos) ∙ (accepted_as l.most (map pos l.volumes) l.samples l.lent n l.accepted).count ∙ sym (count_of s n c.control b.control)) l.positive
        ∙ (λ i. final l.volumes l.samples l.lent l.probability l.level (b.control.settings i) (b.control.cores i) s.clipped_wait
        (record {
          settings = b.settings i;
          rings = full_rings p s n good.window_low ratio l.volumes l.samples l.lent grown k first kept_first l.still led_first (ready_rings p s n grown k first led_first e) i;
        }))

    to_third : (step second (recommendation l.probability l.level)).state ≡ canon grown
    unfolding with_applied_input_volumes initialize aggregated
    to_third = step_recommended l.probability l.level (lowest_of l.volumes) second refl refl ∙ to_final

    kept_second : Kept p s n second
    kept_second = subst (Kept p s n) to_second (kept_step p s n (frame l.most (map pos l.volumes) l.samples l.lent) first kept_first)

    kept_third : Kept p s n (canon grown)
    kept_third = subst (Kept p s n) to_third (kept_step p s n (recommendation l.probability l.level) second kept_second)

    abbrev rest : List Call
    rest = l.after_frame ++ (recommendation l.probability l.level ∷ l.after_recommendation)

    -- from the initialise on
    ending : after first (l.after_initialise ++ (frame l.most (map pos l.volumes) l.samples l.lent ∷ rest)) ≡ canon grown
    unfolding after
    ending =
        skip n l.after_initialise _ first (count_of s n first.control kept_first.control) (all_left (is_refused n) l.after_initialise _ l.refused)
        ∙ ap (λ (x : Controller). after x rest) to_second
        ∙ skip n l.after_frame _ second (count_of s n second.control kept_second.control) (all_left (is_refused n) l.after_frame _ (all_right (is_refused n) l.after_initialise _ l.refused))
        ∙ ap (λ (x : Controller). after x l.after_recommendation) to_third
        ∙ after_refused n l.after_recommendation (canon grown) (count_of s n (canon grown).control kept_third.control)
        (all_right (is_refused n) l.after_frame _ (all_right (is_refused n) l.after_initialise _ l.refused))

  abbrev pub grown_of : List (List Level)
  grown_of = grown_in n l.body (replicate n [])

  -- THE LAW: the lead-in leads every controller that keeps what calls keep to one state
  pub led_to : (c : Controller) → Kept p s n c → after c (calls_of n (quiet_for p n) l) ≡ canon grown_of
  unfolding calls_of after
  led_to c b =
      let on = (step c (capture_switch true)).state in
      let b-on : Kept p s n on = kept_step p s n (capture_switch true) c b in
      after_append l.body _ on
      ∙ ending grown_of (accepted_in n l.body + 0) (after on l.body) (kept_after p s n l.body on b-on)
      (led_after p s n good.window_low ratio l.body (replicate n []) 0 on b-on l.calm (led_start p s n c b)) (omega (arith, l.long))
