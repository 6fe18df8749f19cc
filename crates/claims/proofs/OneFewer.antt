-- One frame fewer is too few for a broken sample to leave: with delay 1 and reference 1, after one frame the ring still stores the record that stood before. Assumes nothing.
use mathlib.Core.Path.{◌≡◌, refl, ap}
use mathlib.Core.Bool.{true, false}
use mathlib.Core.List.{List, [], ◌∷◌, map}
use native.Mathlib.Omega.{arith}
use lib.IntN.{pos}
use lib.Ieee.{fin}
use lib.ListN.{length, get_or, length-take}
use Rattle.std.specs.Prelude.{None}
use Rattle.numbers.specs.Listed.{listed}
use Rattle.numbers.specs.Natural.{within_of}
use Rattle.clipping_predictor_level_buffer.specs.declared.level.Level.{Level}
use Rattle.clipping_predictor.specs.declared.settings.ClippingPredictorMode.TheVariants.{AdaptiveStepClippingPeakPrediction}
use Rattle.clipping_predictor.specs.Predictor.{push_each, frame_fits}
use Rattle.mono_input_volume_controller.specs.Config.{defaults, settings_from}
use Rattle.mono_input_volume_controller.specs.Mono.{created}
use Rattle.input_volume_controller.specs.Volumes.{numbers_of}
use Rattle.input_volume_controller.specs.Limits.{plain_limits}
use Rattle.input_volume_controller.specs.ControlCalls.{aggregated, with_applied_input_volumes}
use Rattle.input_volume_controller.specs.Controller.{Controller}
use Rattle.input_volume_controller.specs.Frame.{analyze_input_audio}
use Rattle.input_volume_controller.specs.Calls.{Call, frame, after}
use Rattle.claims.specs.Past.{capture_on, is_accepted}
use Rattle.claims.specs.Broken.{record_of, accepted_frames, frames_of, NewestOf}

-- one channel that waits after clipping, and a ring with one record, whatever it is
abbrev waiting : Level → Controller
waiting before = record {
  control = record {
    settings = settings_from defaults;
    channels = created (settings_from defaults) ∷ [];
    since = 0;
    used = true;
    applied = None;
    volume = 0;
    controlling = 0;
  };
  predictor = record {
    settings = record { enabled = true; mode = AdaptiveStepClippingPeakPrediction; window = 1; reference = 1; delay = 1; threshold = pos 0; margin = pos 0 };
    rings = (before ∷ []) ∷ [];
  };
}

-- a frame of one sample, 0
abbrev silence : List Call
silence = frame plain_limits (pos 100 ∷ []) 1 (fin false 0 (pos 0) ∷ []) ∷ []

-- delay + reference is 2, and one frame is accepted
pub one_frame : (before : Level) → length (frames_of (waiting before) silence) ≡ 1
unfolding accepted_frames capture_on is_accepted numbers_of within_of frame_fits
one_frame before = refl

two_records : (before : Level) → length (get_or (after (waiting before) silence).predictor.rings 0 []) ≡ 2
unfolding after analyze_input_audio numbers_of within_of frame_fits with_applied_input_volumes aggregated push_each listed settings_from defaults
two_records before = refl

-- so the ring stores more than the frame's record
pub one_too_few : (before : Level) → NewestOf (map (record_of 0) (frames_of (waiting before) silence)) (get_or (after (waiting before) silence).predictor.rings 0 []) → ⊥
unfolding accepted_frames capture_on is_accepted numbers_of within_of frame_fits
one_too_few before n =
    let all = map (record_of 0) (frames_of (waiting before) silence) in
    omega (arith, two_records before, ap length n.is, length-take n.count all)
