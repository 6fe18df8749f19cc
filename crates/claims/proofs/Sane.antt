-- What the value of a controller in good order has, every call keeps: settings in good order, 1 to 8 channels each in good order, a volume of at most 255, and as many rings, none over its
-- capacity, in which every count is in range. Assumes nothing.
use mathlib.Core.Path.{◌≡◌, refl, ◌∙◌}
use mathlib.Core.Bool.{Bool, true, false, ◌||◌}
use mathlib.Core.List.{List, [], ◌∷◌}
use Prim.Native.Nat.{ℕ, ◌≤◌, max, zero-le}
use native.Mathlib.Omega.{arith}
use lib.Dec.{ltb}
use lib.Ieee.{Float, lt}
use lib.ListN.{length, length-take, length-map}
use Rattle.std.specs.Prelude.{Err, None, Ok, Option, Result, Some}
use Rattle.numbers.specs.declared.refusal.Refusal.{Refusal}
use Rattle.clipping_predictor_level_buffer.specs.declared.level.Level.{Level}
use Rattle.clipping_predictor_level_buffer.specs.Level.{max_samples_per_channel, frame_record}
use Rattle.clipping_predictor_level_buffer.specs.Ring.{Counted}
use Rattle.clipping_predictor_level_buffer.proofs.Counts.{counted_none, counted_push}
use Rattle.clipping_predictor.specs.declared.modes.Estimated.{Estimated}
use Rattle.clipping_predictor.specs.declared.settings.Settings as PredictorSettings
use Rattle.clipping_predictor.specs.Settings as Predictors
use Rattle.clipping_predictor.specs.Estimate.{capacity_of}
use Rattle.clipping_predictor.specs.Predictor.{max_channels, Predictor, part_of, levels_of, push_each, entered_if, emptied}
use Rattle.clipping_predictor.specs.AllRings.{predicted_by}
use Rattle.clipping_predictor.proofs.Frames.{fits}
use Rattle.clipping_predictor.proofs.MostClipped.{part_few}
use Rattle.mono_input_volume_controller.specs.declared.mono.MonoInputVolumeController.{MonoInputVolumeController}
use Rattle.mono_input_volume_controller.specs.SpeechLevel.{rms_error_of}
use Rattle.mono_input_volume_controller.specs.MonoState as Mono
use Rattle.mono_input_volume_controller.specs.Config as Config
use Rattle.input_volume_controller.specs.Channels.{ChannelCall, Initialize, CaptureOutputUsed, Clipping, Process, called, each_called, aggregate_of}
use Rattle.input_volume_controller.specs.ClippedRatio.{clipped_ratio_of}
use Rattle.input_volume_controller.specs.Volumes.{numbers_of, numbers_in, lowest_of}
use Rattle.input_volume_controller.specs.Control.{Control}
use Rattle.input_volume_controller.specs.ControlCalls.{raised_for, aggregated, with_applied_input_volumes, initialize, lower_channels, process_channels}
use Rattle.input_volume_controller.specs.Controller.{Controller}
use Rattle.input_volume_controller.specs.Frame.{asked_of, handle_if, unless_waiting, if_used, with_volumes_applied, frame_outcome, unless_refused, analyze_input_audio}
use Rattle.input_volume_controller.specs.Recommendation.{recommend_if, unless_none, recommend_input_volume}
use Rattle.input_volume_controller.specs.Calls.{Call, frame, recommendation, initialise, capture_switch, step}
use Rattle.input_volume_controller.proofs.Whole.{entered_count, emptied_count}
use Rattle.claims.specs.Every.{Every}
use Rattle.claims.proofs.Every.{every_map, every_listed}
use Rattle.input_volume_controller.proofs.ChannelLists.{length_given}
use Rattle.claims.proofs.Outcomes.{told_accepted, accepted_as}
use Rattle.claims.proofs.Walk.{Any, Keeps, any_by, step_keeps}
use Rattle.claims.proofs.Sound.{good_initialized, good_switch, good_lowered, good_process, all_called, all_given, lowest_most, raised_most}

-- ---- the controller without its predictor

pub record SaneControl (n : ℕ) (c : Control) : Type 0 where
  pub settings : Config.Good c.settings
  pub count : length c.channels ≡ n
  pub each : Every Mono.Good c.channels
  pub volume : c.volume ≤ 255

module _ (n : ℕ) where
  -- the channels after a call, and the volume that is taken of them, with what is then pending
  taken_sane : (channels : List MonoInputVolumeController) (since : ℕ) (used : Bool) (a b : Option ℕ) (c : Control) → length channels ≡ length c.channels → Every Mono.Good channels → SaneControl n c
      → SaneControl n (record {
        settings = c.settings;
        channels = channels;
        since = since;
        used = used;
        applied = b;
        volume = raised_for a c.settings.least (aggregate_of channels).volume;
        controlling = (aggregate_of channels).channel;
      })
  taken_sane channels since used a b c e g h = record {
    settings = h.settings;
    count = e ∙ h.count;
    each = g;
    volume = raised_most a c.settings.least _ h.settings.least_le (lowest_most channels g);
  }

  -- every channel gets a call
  called_sane : (call : ChannelCall) (since : ℕ) (used : Bool) (a b : Option ℕ) (c : Control) → ((m : MonoInputVolumeController) → Mono.Good m → Mono.Good (called call m)) → SaneControl n c
      → SaneControl n (record {
        settings = c.settings;
        channels = each_called call c.channels;
        since = since;
        used = used;
        applied = b;
        volume = raised_for a c.settings.least (aggregate_of (each_called call c.channels)).volume;
        controlling = (aggregate_of (each_called call c.channels)).channel;
      })
  called_sane call since used a b c g h = taken_sane _ since used a b c (length-map c.channels (called call)) (all_called call g c.channels h.each) h

  pub control_kept : Keeps Any (SaneControl n)
  unfolding aggregated with_applied_input_volumes lower_channels process_channels initialize
  control_kept = record {
    runs = record {
      hears = record {
        lowers = λ by c h. called_sane (Clipping by) 0 c.used c.applied c.applied c (good_lowered by) h;
        counts = λ c h. record { settings = h.settings; count = h.count; each = h.each; volume = h.volume };
      };
      applies = λ volumes c e m t h.
          taken_sane _ c.since c.used (Some (lowest_of volumes)) (Some (lowest_of volumes)) c (length_given volumes c.channels) (all_given volumes c.channels m h.each) h;
      processes = λ p l c h.
          called_sane (Process (rms_error_of l c.settings.min_target c.settings.max_target) p) c.since c.used c.applied None c
          (good_process (rms_error_of l c.settings.min_target c.settings.max_target) p) h;
      repeats = λ c h. taken_sane c.channels c.since c.used c.applied c.applied c refl h.each h;
    };
    initialises = λ c h. called_sane Initialize c.since true c.applied None c good_initialized h;
    switches = λ on c h. record {
      settings = h.settings;
      count = length-map c.channels _ ∙ h.count;
      each = all_called (CaptureOutputUsed on) (good_switch on) c.channels h.each;
      volume = h.volume;
    };
  }

-- ---- the predictor

pub record Holds (p : PredictorSettings.Settings) (r : List Level) : Type 0 where
  pub held : length r ≤ capacity_of p
  pub counted : Counted r

pub holds_nothing : (p : PredictorSettings.Settings) → Holds p []
holds_nothing p = record { held = zero-le; counted = counted_none }

pub record SanePredictor (n : ℕ) (p : Predictor) : Type 0 where
  pub settings : Predictors.Good p.settings
  pub count : length p.rings ≡ n
  pub each : Every (Holds p.settings) p.rings

-- a level's count is in range
abbrev Few : Level → Type 0
Few l = l.clipped ≤ max_samples_per_channel

all_pushed : (p : PredictorSettings.Settings) (levels : List Level) (rings : List (List Level)) → Every Few levels → Every (Holds p) rings → Every (Holds p) (push_each (capacity_of p) levels rings)
unfolding push_each
all_pushed p levels [] f h = tt
all_pushed p [] (r ∷ rings) f h = h
all_pushed p (l ∷ levels) (r ∷ rings) f h = (record { held = rw length-take (omega arith); counted = counted_push (capacity_of p) l r f.0 h.0.counted }, all_pushed p levels rings f.1 h.1)

levels_few : (channels samples : ℕ) (lent : List Float) → samples ≤ max_samples_per_channel → Every Few (levels_of channels samples lent)
unfolding frame_record
levels_few channels samples lent most = every_listed Few (λ c. frame_record (part_of samples lent c)) channels (λ c h. omega (arith, most, part_few samples lent c))

module _ (n : ℕ) where
  entered_sane : (samples : ℕ) (lent : List Float) (p : Predictor) → samples ≤ max_samples_per_channel → SanePredictor n p → SanePredictor n (entered_if true samples lent p)
  entered_sane samples lent p most h = record {
    settings = h.settings;
    count = entered_count samples lent p ∙ h.count;
    each = all_pushed p.settings (levels_of (length p.rings) samples lent) p.rings (levels_few (length p.rings) samples lent most) h.each;
  }

  emptied_sane : (p : Predictor) → SanePredictor n p → SanePredictor n (emptied p)
  emptied_sane p h = record {
    settings = h.settings;
    count = emptied_count p ∙ h.count;
    each = every_map (Holds p.settings) (Holds p.settings) (λ (r : List Level). []) p.rings (λ r k. holds_nothing p.settings) h.each;
  }

  handled_sane : (t : Bool) (by : ℕ) (c : Controller) → SanePredictor n c.predictor → SanePredictor n (handle_if t by c).predictor
  handled_sane true by c h = emptied_sane c.predictor h
  handled_sane false by c h = h

  waiting_sane : (t clipped : Bool) (c : Controller) → SanePredictor n c.predictor → SanePredictor n (unless_waiting t clipped c).state.predictor
  waiting_sane true clipped c h = h
  waiting_sane false clipped c h =
      let e : Estimated = predicted_by (asked_of c.control) c.predictor in
      handled_sane (clipped || ltb 0 e.drop) (max c.control.settings.step e.drop) c h

  used_sane : (t : Bool) (samples : ℕ) (lent : List Float) (c : Controller) → samples ≤ max_samples_per_channel → SanePredictor n c.predictor → SanePredictor n (if_used t samples lent c).state.predictor
  used_sane true samples lent c most h =
      waiting_sane (ltb c.control.since c.control.settings.clipped_wait)
      (lt c.control.settings.clipped_ratio (clipped_ratio_of (length c.control.channels) samples lent))
      (record { control = c.control; predictor = entered_if true samples lent c.predictor }) (entered_sane samples lent c.predictor most h)
  used_sane false samples lent c most h = h

  frame_sane : (o : Result (Unit {0}) Refusal) (volumes : List ℕ) (samples : ℕ) (lent : List Float) (c : Controller) → (o ≡ Ok tt → samples ≤ max_samples_per_channel) → SanePredictor n c.predictor
      → SanePredictor n (unless_refused o volumes samples lent c).state.predictor
  frame_sane (Err cause) volumes samples lent c most h = h
  frame_sane (Ok tt) volumes samples lent c most h = used_sane c.control.used samples lent (with_volumes_applied volumes c) (most refl) h

  recommended_sane : (t : Bool) (applied : ℕ) (probability : Float) (level : Option Float) (c : Controller) → SanePredictor n c.predictor → SanePredictor n (recommend_if t applied probability level c).state.predictor
  recommended_sane true applied probability level c h = h
  recommended_sane false applied probability level c h = h

  asked_sane : (a : Option ℕ) (probability : Float) (level : Option Float) (c : Controller) → SanePredictor n c.predictor → SanePredictor n (unless_none a probability level c).state.predictor
  asked_sane None probability level c h = h
  asked_sane (Some applied) probability level c h = recommended_sane c.control.used applied probability level c h

  predictor_sane : (call : Call) (c : Controller) → SanePredictor n c.predictor → SanePredictor n (step c call).state.predictor
  unfolding analyze_input_audio recommend_input_volume
  predictor_sane (frame most volumes samples lent) c h =
      let k = length c.control.channels in
      frame_sane (frame_outcome most k volumes samples lent) (numbers_in (numbers_of volumes)) samples lent c
      (λ e. (fits k samples lent (accepted_as most volumes samples lent k (told_accepted most volumes samples lent k e)).fits).most) h
  predictor_sane (recommendation probability level) c h = asked_sane c.control.applied probability level c h
  predictor_sane initialise c h = h
  predictor_sane (capture_switch on) c h = h

-- ---- the whole

pub record Sane (n : ℕ) (c : Controller) : Type 0 where
  pub low : 1 ≤ n
  pub high : n ≤ max_channels
  pub control : SaneControl n c.control
  pub predictor : SanePredictor n c.predictor

pub step_sane : (n : ℕ) (call : Call) (c : Controller) → Sane n c → Sane n (step c call).state
step_sane n call c h = record {
  low = h.low;
  high = h.high;
  control = step_keeps Any (SaneControl n) (control_kept n) call c (any_by call c) h.control;
  predictor = predictor_sane n call c h.predictor;
}
