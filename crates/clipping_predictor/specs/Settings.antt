-- Document 01: "window and reference length at least 1, delay at least 0, delay + reference above window and at most 64, threshold and margin within -200,000 to 200,000 thousandths",
-- with the numbers of document 02 (ii): 7, 14 and 15. Definitions only.
use Rattle.std.specs.Prelude.{ℕ, ◌+◌, ◌≤◌, ◌<◌, Bool, true, false, ◌&&◌, leb, ltb, ℤ, nat_abs, Err, None, Ok, Option, Result, Some}
use Rattle.numbers.specs.declared.refusal.Refusal.{Refusal}
use Rattle.numbers.specs.declared.refusal.Refusal.TheVariants.{PredictorWindows, PredictorCapacity, PredictorLevels}
use Rattle.numbers.specs.Natural.{at_least_of}
use Rattle.clipping_predictor_level_buffer.specs.Ring.{max_capacity}
use Rattle.clipping_predictor.specs.declared.settings.ClippingPredictorMode.{ClippingPredictorMode}
use Rattle.clipping_predictor.specs.declared.settings.ClippingPredictorConfig.{ClippingPredictorConfig}
use Rattle.clipping_predictor.specs.declared.settings.Settings.{Settings}

-- the most that a threshold or a margin may be, either way
abbrev pub max_level : ℕ
max_level = 200000

-- "threshold and margin within -200,000 to 200,000 thousandths"
unfoldable pub levels_in_range : ℤ → ℤ → Bool
levels_in_range threshold margin = leb (nat_abs threshold) max_level && leb (nat_abs margin) max_level

-- "It refuses with 14 if the windows' one fault is a sum of delay and reference above 64, and with 15 if the windows are in order but threshold or margin is out of range; 7 stays for every other
-- window fault, and is tested before 14, which is tested before 15": whether the sum is above the window, whether a ring has room for it, and whether the levels are in range
abbrev pub checked_if : Bool → Bool → Bool → Settings → Result Settings Refusal
checked_if false room levels s = Err PredictorWindows
checked_if true false levels s = Err PredictorCapacity
checked_if true true false s = Err PredictorLevels
checked_if true true true s = Ok s

-- a window, a reference or a delay that is too small by itself is such another fault; the sum is that of whole numbers of any size
unfoldable pub checked : Option ℕ → Option ℕ → Option ℕ → ClippingPredictorConfig → Result Settings Refusal
checked None reference delay c = Err PredictorWindows
checked (Some window) None delay c = Err PredictorWindows
checked (Some window) (Some reference) None c = Err PredictorWindows
checked (Some window) (Some reference) (Some delay) c =
    checked_if (ltb window (delay + reference)) (leb (delay + reference) max_capacity) (levels_in_range c.clipping_threshold c.crest_factor_margin)
    (record {
      enabled = c.enabled;
      mode = c.mode;
      window = window;
      reference = reference;
      delay = delay;
      threshold = c.clipping_threshold;
      margin = c.crest_factor_margin;
    })

-- "window and reference length at least 1, delay at least 0"
unfoldable pub settings_of : ClippingPredictorConfig → Result Settings Refusal
settings_of c = checked (at_least_of 1 c.window_length) (at_least_of 1 c.reference_window_length) (at_least_of 0 c.reference_window_delay) c

-- a configuration from its parts
abbrev pub config_of : Bool → ClippingPredictorMode → ℤ → ℤ → ℤ → ℤ → ℤ → ClippingPredictorConfig
config_of enabled mode window reference delay threshold margin = record {
  enabled = enabled;
  mode = mode;
  window_length = window;
  reference_window_length = reference;
  reference_window_delay = delay;
  clipping_threshold = threshold;
  crest_factor_margin = margin;
}

-- settings in good order: those that the making takes
pub record Good (s : Settings) : Type 0 where
  pub window_low : 1 ≤ s.window
  pub reference_low : 1 ≤ s.reference
  pub window_high : s.window < s.delay + s.reference
  pub room : s.delay + s.reference ≤ max_capacity
  pub threshold_bound : nat_abs s.threshold ≤ max_level
  pub margin_bound : nat_abs s.margin ≤ max_level
