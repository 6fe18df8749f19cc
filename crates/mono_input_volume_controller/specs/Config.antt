-- Document 01, "What a call can say no to", causes 2 to 6: the settings of a controller, the tests of them in rising number, and what is kept. Definitions only.
use Rattle.std.specs.Prelude.{◌≡◌, Bool, true, false, ◌&&◌, ◌≤◌, max, ℤ, pos, negsuc, nat_abs, Float, Err, Ok, Result}
use Rattle.std.specs.Int.Signed.{le_z}
use Rattle.std.specs.Float.{binary32}
use Rattle.std.specs.Float.Ieee.{le, of_bits, of_int}
use Rattle.numbers.specs.declared.refusal.Refusal.{Refusal}
use Rattle.numbers.specs.declared.refusal.Refusal.TheVariants.{MinimumVolume, ClippedLevelStep, WaitFrames, TargetRange, SpeechThreshold}
use Rattle.mono_input_volume_controller.specs.declared.config.Config.{Config}
use Rattle.mono_input_volume_controller.specs.declared.config.Settings.{Settings}
use Rattle.mono_input_volume_controller.specs.MonoState.{max_input_volume, max_wait}
use Rattle.mono_input_volume_controller.specs.SpeechLevel.{lowest_db, highest_db, GoodTargets}

-- the source's `Config::default`; 0.1, 0.7 and 0.6 are the nearest floats, by their bits
unfoldable pub defaults : Config
defaults = record {
  min_input_volume = pos 20;
  clipped_level_min = pos 70;
  clipped_level_step = pos 15;
  clipped_ratio_threshold = of_bits binary32 0x3dcccccd;
  clipped_wait_frames = pos 300;
  enable_clipping_predictor = true;
  target_range_max_dbfs = negsuc 29;
  target_range_min_dbfs = negsuc 49;
  update_input_volume_wait_frames = pos 100;
  speech_probability_threshold = of_bits binary32 0x3f333333;
  speech_ratio_threshold = of_bits binary32 0x3f19999a;
}

-- ---- the tests

unfoldable pub in_range : ℤ → ℤ → ℤ → Bool
in_range low high x = le_z low x && le_z x high

unfoldable pub both_in_range : ℤ → ℤ → ℤ → ℤ → Bool
unfolding in_range
both_in_range low high x y = in_range low high x && in_range low high y

-- "0 to 1": a not-a-number is in no order
unfoldable pub in_unit : Float → Bool
in_unit x = le (of_int binary32 (pos 0)) x && le x (of_int binary32 (pos 1))

unfoldable pub both_in_unit : Float → Float → Bool
unfolding in_unit
both_in_unit x y = in_unit x && in_unit y

-- "min_input_volume or clipped_level_min not 0 to 255"
abbrev pub volumes_in_range : Config → Bool
volumes_in_range c = both_in_range (pos 0) (pos max_input_volume) c.min_input_volume c.clipped_level_min

-- "clipped_level_step not 1 to 255"
abbrev pub step_in_range : Config → Bool
step_in_range c = in_range (pos 1) (pos max_input_volume) c.clipped_level_step

-- "clipped_wait_frames or update_input_volume_wait_frames not 0 to 65,535"
abbrev pub waits_in_range : Config → Bool
waits_in_range c = both_in_range (pos 0) (pos max_wait) c.clipped_wait_frames c.update_input_volume_wait_frames

-- "a target not -90 to 30 dBFS"
abbrev pub targets_in_range : Config → Bool
targets_in_range c = both_in_range lowest_db highest_db c.target_range_max_dbfs c.target_range_min_dbfs

-- "speech probability or speech ratio threshold not 0 to 1, or not a number"
abbrev pub thresholds_in_range : Config → Bool
thresholds_in_range c = both_in_unit c.speech_probability_threshold c.speech_ratio_threshold

-- ---- what is kept

-- "An update wait of 0 means 1."
unfoldable pub settings_from : Config → Settings
settings_from c = record {
  least = nat_abs c.min_input_volume;
  floor = nat_abs c.clipped_level_min;
  step = nat_abs c.clipped_level_step;
  clipped_ratio = c.clipped_ratio_threshold;
  clipped_wait = nat_abs c.clipped_wait_frames;
  predicts = c.enable_clipping_predictor;
  max_target = c.target_range_max_dbfs;
  min_target = c.target_range_min_dbfs;
  update_wait = max 1 (nat_abs c.update_input_volume_wait_frames);
  speech_probability = c.speech_probability_threshold;
  speech_ratio = c.speech_ratio_threshold;
}

-- the first cause that holds: volumes, step, waits, targets, thresholds
abbrev pub checked_if : Bool → Bool → Bool → Bool → Bool → Settings → Result Settings Refusal
checked_if false step waits targets thresholds s = Err MinimumVolume
checked_if true false waits targets thresholds s = Err ClippedLevelStep
checked_if true true false targets thresholds s = Err WaitFrames
checked_if true true true false thresholds s = Err TargetRange
checked_if true true true true false s = Err SpeechThreshold
checked_if true true true true true s = Ok s

unfoldable pub settings_of : Config → Result Settings Refusal
unfolding both_in_range in_range both_in_unit settings_from
settings_of c = checked_if (volumes_in_range c) (step_in_range c) (waits_in_range c) (targets_in_range c) (thresholds_in_range c) (settings_from c)

-- all tests pass
pub record InOrder (c : Config) : Type 0 where
  pub volumes : volumes_in_range c ≡ true
  pub step : step_in_range c ≡ true
  pub waits : waits_in_range c ≡ true
  pub targets : targets_in_range c ≡ true
  pub thresholds : thresholds_in_range c ≡ true

-- settings in good order: what those have that pass the tests
pub record Good (s : Settings) : Type 0 where
  pub least_le : s.least ≤ max_input_volume
  pub floor_le : s.floor ≤ max_input_volume
  pub step_low : 1 ≤ s.step
  pub step_le : s.step ≤ max_input_volume
  pub clipped_wait_le : s.clipped_wait ≤ max_wait
  pub targets : GoodTargets s.min_target s.max_target
  pub wait_low : 1 ≤ s.update_wait
  pub wait_le : s.update_wait ≤ max_wait
