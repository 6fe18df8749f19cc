-- Document 01, "Ring and predictors": what an estimate is, from the metrics of the two windows. WebRTC's `ClippingEventPredictor` and `ClippingPeakPredictor`.
-- M, A are the metrics over the window, Mr, Ar those over the reference. Definitions only.
use Rattle.std.specs.Prelude.{◌≡◌, ℕ, ◌+◌, ◌-◌, ◌*◌, ◌/◌, min, max, Bool, true, false, ◌&&◌, List, leb, ltb, ℤ, pos, negsuc, neg_ℤ, ◌*ℤ◌, Err, None, Ok, Option, Result, Some}
use Rattle.std.specs.Int.Signed.{le_z, quot_z}
use Rattle.numbers.specs.declared.refusal.Refusal.{Refusal}
use Rattle.levels.specs.declared.decibels.Decibels.{Decibels}
use Rattle.levels.specs.declared.decibels.Decibels.TheVariants.{Finite, PlusInfinity, MinusInfinity, NotANumber}
use Rattle.levels.specs.Decibels.{plus, minus, near, Bounded}
use Rattle.levels.specs.Level.{d, h, dbfs, min_level_dbfs, level_limit}
use Rattle.gain_map.specs.VolumeUpdate.{walk}
use Rattle.clipping_predictor_level_buffer.specs.declared.level.Level.{Level}
use Rattle.clipping_predictor_level_buffer.specs.Metrics.{partial_metrics}
use Rattle.clipping_predictor.specs.declared.settings.ClippingPredictorMode.{ClippingPredictorMode}
use Rattle.clipping_predictor.specs.declared.settings.ClippingPredictorMode.TheVariants.{ClippingEventPrediction, AdaptiveStepClippingPeakPrediction, FixedStepClippingPeakPrediction}
use Rattle.clipping_predictor.specs.declared.settings.Settings.{Settings}
use Rattle.clipping_predictor.specs.declared.modes.Asked.{Asked}
use Rattle.clipping_predictor.specs.Tree.{Tree, leaf, test, if_at_most, if_less}

-- "New level is level - default step, held within min and max": how far the level falls by a step
unfoldable pub drop_by : Asked → ℕ → ℕ
drop_by a step = a.level - min a.most (max a.least (a.level - step))

-- d(M) - h(A)
abbrev pub crest_factor : Level → Decibels
crest_factor l = minus (d l.max) (h l.average)

-- ---- event

-- "event if (d(M)-h(A)) < (d(Mr)-h(Ar)) - margin"
abbrev pub crest_tree : ℤ → Level → Level → Asked → Tree ℕ
crest_tree margin window reference a = if_less (crest_factor window) (minus (crest_factor reference) (Finite margin)) (leaf (drop_by a a.step)) (leaf 0)

-- "none if d(M) - 90,310 ≤ threshold"; what follows else
abbrev pub event_tree : ℤ → ℤ → Level → Level → Asked → Tree ℕ
event_tree threshold margin window reference a = if_at_most (dbfs window.max) (Finite threshold) (leaf 0) (crest_tree margin window reference a)

-- ---- peak, fixed and adaptive

-- "The threshold is first cut to whole dB toward zero."
abbrev pub whole_db : ℤ → ℤ
whole_db threshold = quot_z threshold (pos 1000) *ℤ pos 1000

-- "P = d(Mr) - h(Ar) + h(A) - 90,310"
abbrev pub projected_peak : Level → Level → Decibels
projected_peak window reference = plus (plus (crest_factor reference) (h window.average)) min_level_dbfs

-- "P .. must be above it", the threshold in whole dB. What follows then is `above`.
abbrev pub projected_tree : ℤ → Decibels → Tree ℕ → Tree ℕ
projected_tree edge projected above = if_less (Finite edge) projected above (leaf 0)

-- "None if d(M) - 90,310 ≤ it"; what follows else
abbrev pub peak_tree : ℤ → Level → Level → Tree ℕ → Tree ℕ
peak_tree threshold window reference above =
    if_at_most (dbfs window.max) (Finite (whole_db threshold)) (leaf 0) (projected_tree (whole_db threshold) (projected_peak window reference) above)

-- CLIPPING_PREDICTOR_MAX_GAIN_CHANGE
abbrev pub max_gain_change : ℕ
max_gain_change = 15

-- "asks the volume step for minus the ceiling of P in dB, held to -15 to 0, and takes the larger of that drop and the default step": from a ceiling of k dB
unfoldable pub adaptive_drop : Asked → ℕ → ℕ
adaptive_drop a k =
    drop_by a (max (a.level - walk (neg_ℤ (pos (min k max_gain_change))) a.level a.least a.most) a.step)

-- the whole dB, from 0 up, that is nearest to P
abbrev pub nearest_whole : ℤ → ℕ
nearest_whole (pos n) = (n + 500) / 1000
nearest_whole (negsuc n) = 0

-- The ceiling is the nearest whole dB k where P is at most that, and else the next one. "an adaptive P whose ceiling was taken lay within" 6 "of a whole dB from 0 to
-- 14", by document 02 (x): no other whole dB can be so close.
abbrev pub ceiling_tree : Asked → ℤ → ℕ → Tree ℕ
ceiling_tree a z k =
    test (le_z z (pos (k * 1000))) (ltb k max_gain_change && near (Finite z) (Finite (pos (k * 1000)))) (leaf (adaptive_drop a k)) (leaf (adaptive_drop a (k + 1)))

-- an infinite P is held to 15 dB; a P below all numbers, or no number, is never above a threshold
abbrev pub adaptive_tree : Asked → Decibels → Tree ℕ
adaptive_tree a (Finite z) = ceiling_tree a z (nearest_whole z)
adaptive_tree a PlusInfinity = leaf (adaptive_drop a max_gain_change)
adaptive_tree a MinusInfinity = leaf 0
adaptive_tree a NotANumber = leaf 0

-- "Fixed mode takes the default step."
abbrev pub above_tree : Bool → Asked → Decibels → Tree ℕ
above_tree true a projected = adaptive_tree a projected
above_tree false a projected = leaf (drop_by a a.step)

-- ---- by mode

abbrev pub mode_tree : ClippingPredictorMode → Settings → Level → Level → Asked → Tree ℕ
mode_tree ClippingEventPrediction s window reference a = event_tree s.threshold s.margin window reference a
mode_tree AdaptiveStepClippingPeakPrediction s window reference a = peak_tree s.threshold window reference (above_tree true a (projected_peak window reference))
mode_tree FixedStepClippingPeakPrediction s window reference a = peak_tree s.threshold window reference (above_tree false a (projected_peak window reference))

-- ---- from a ring's records

-- "holding delay + reference records (its capacity)"; a predictor that is off has rings with no place
abbrev pub capacity_if : Bool → ℕ → ℕ
capacity_if true n = n
capacity_if false n = 0

abbrev pub capacity_of : Settings → ℕ
capacity_of s = capacity_if s.enabled (s.delay + s.reference)

-- "missing metrics, of either window, give none before any comparison"
unfoldable pub windows_tree : Settings → Asked → Result (Option Level) Refusal → Result (Option Level) Refusal → Tree ℕ
windows_tree s a (Ok (Some window)) (Ok (Some reference)) = mode_tree s.mode s window reference a
windows_tree s a (Ok (Some window)) (Ok None) = leaf 0
windows_tree s a (Ok (Some window)) (Err cause) = leaf 0
windows_tree s a (Ok None) reference = leaf 0
windows_tree s a (Err cause) reference = leaf 0

-- "An estimate at level ≤ min is none"
abbrev pub unless_low : Bool → Tree ℕ → Tree ℕ
unless_low true t = leaf 0
unless_low false t = t

unfoldable pub estimate_tree : Settings → List Level → Asked → Tree ℕ
unfolding windows_tree
estimate_tree s records a =
    unless_low (leb a.level a.least)
    (windows_tree s a (partial_metrics (capacity_of s) records 0 s.window) (partial_metrics (capacity_of s) records s.delay s.reference))

-- ---- what the private functions say

-- r is the crest factor of l, which no bound of the sums above can exceed
pub record CrestFactor (l : Level) (r : Decibels) : Type 0 where
  pub is : r ≡ crest_factor l
  pub bounded : Bounded (level_limit + level_limit) r

-- no projected peak is above this
abbrev pub projected_limit : ℕ
projected_limit = level_limit + level_limit + level_limit + 90310

pub record ProjectedPeak (window reference : Level) (r : Decibels) : Type 0 where
  pub is : r ≡ projected_peak window reference
  pub bounded : Bounded projected_limit r
