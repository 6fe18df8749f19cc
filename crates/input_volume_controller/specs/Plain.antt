-- A controller with numbers where it has enums: what passes to C and back. Definitions only.
use Rattle.std.specs.Prelude.{Bool, true, false, ℕ, zero, suc, None, Option, Some}
use Rattle.numbers.specs.Flag.{is_set, flag_of}
use Rattle.clipping_predictor.specs.declared.ClippingPredictor.{ClippingPredictor}
use Rattle.clipping_predictor.specs.declared.settings.ClippingPredictorMode.{ClippingPredictorMode}
use Rattle.clipping_predictor.specs.declared.settings.ClippingPredictorMode.TheVariants.{ClippingEventPrediction, AdaptiveStepClippingPeakPrediction, FixedStepClippingPeakPrediction}
use Rattle.input_volume_controller.specs.declared.volume_control.VolumeControl.{VolumeControl}
use Rattle.input_volume_controller.specs.declared.plain.PlainControl.{PlainControl}
use Rattle.input_volume_controller.specs.declared.plain.PlainPredictor.{PlainPredictor}

unfoldable pub mode_of : ℕ → ClippingPredictorMode
mode_of zero = ClippingEventPrediction
mode_of (suc zero) = AdaptiveStepClippingPeakPrediction
mode_of (suc (suc n)) = FixedStepClippingPeakPrediction

abbrev pub mode_number : ClippingPredictorMode → ℕ
mode_number ClippingEventPrediction = 0
mode_number AdaptiveStepClippingPeakPrediction = 1
mode_number FixedStepClippingPeakPrediction = 2

abbrev pub applied_of : Bool → ℕ → Option ℕ
applied_of true volume = Some volume
applied_of false volume = None

abbrev pub is_pending : Option ℕ → Bool
is_pending (Some volume) = true
is_pending None = false

abbrev pub pending_volume : Option ℕ → ℕ
pending_volume (Some volume) = volume
pending_volume None = 0

unfoldable pub whole_control : PlainControl → VolumeControl
whole_control p = record {
  settings = p.settings;
  channels = p.channels;
  since = p.since;
  used = p.used;
  applied = applied_of p.pending p.applied;
  volume = p.volume;
  controlling = p.controlling;
}

unfoldable pub plain_control : VolumeControl → PlainControl
plain_control c = record {
  settings = c.settings;
  channels = c.channels;
  since = c.since;
  used = c.used;
  pending = is_pending c.applied;
  applied = pending_volume c.applied;
  volume = c.volume;
  controlling = c.controlling;
}

unfoldable pub whole_predictor : PlainPredictor → ClippingPredictor
unfolding mode_of
whole_predictor p = record {
  rings = p.rings;
  channels = p.channels;
  settings = record {
    enabled = is_set p.enabled;
    mode = mode_of p.mode;
    window = p.window;
    reference = p.reference;
    delay = p.delay;
    threshold = p.threshold;
    margin = p.margin;
  };
}

unfoldable pub plain_predictor : ClippingPredictor → PlainPredictor
plain_predictor p = record {
  rings = p.rings;
  channels = p.channels;
  enabled = flag_of p.settings.enabled;
  mode = mode_number p.settings.mode;
  window = p.settings.window;
  reference = p.settings.reference;
  delay = p.settings.delay;
  threshold = p.settings.threshold;
  margin = p.settings.margin;
}
