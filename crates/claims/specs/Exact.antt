-- What the clipping predictors would decide with exact logarithms, over whole numbers alone: no level is computed, and nothing is rounded. A number of thousandths of a dB stands as the
-- fraction whose decimal logarithm it is: d(v) as v ^ 20000, h(a) as a ^ 10000, t thousandths as 10 ^ t, a sum as a product, a difference as a quotient. Such numbers are compared by
-- comparing the fractions. Infinite ones and those that are no number follow IEEE 754, as in `levels/specs/Decibels.antt`. Definitions only.
use Rattle.std.specs.Prelude.{Bool, true, false, cond, List, ℕ, zero, suc, ◌*◌, ◌^◌, max, leb, ltb, ℤ, pos, negsuc, Float, Err, None, Ok, Option, Result, Some}
use Rattle.std.specs.Float.{nan, inf, fin}
use Rattle.std.specs.Float.Ieee.{up, down}
use Rattle.numbers.specs.declared.refusal.Refusal.{Refusal}
use Rattle.clipping_predictor_level_buffer.specs.declared.level.Level.{Level}
use Rattle.clipping_predictor_level_buffer.specs.Metrics.{partial_metrics}
use Rattle.clipping_predictor.specs.declared.settings.ClippingPredictorMode.{ClippingPredictorMode}
use Rattle.clipping_predictor.specs.declared.settings.ClippingPredictorMode.TheVariants.{ClippingEventPrediction, AdaptiveStepClippingPeakPrediction, FixedStepClippingPeakPrediction}
use Rattle.clipping_predictor.specs.declared.settings.Settings.{Settings}
use Rattle.clipping_predictor.specs.declared.modes.Asked.{Asked}
use Rattle.clipping_predictor.specs.Estimate.{drop_by, adaptive_drop, whole_db, capacity_of}

pub data Exact : Type 0 where
  -- the decimal logarithm of a numerator over a denominator
  ratio : ℕ → ℕ → Exact
  plus_infinity : Exact
  minus_infinity : Exact
  not_aNumber : Exact

-- ---- sums

unfoldable pub plus : Exact → Exact → Exact
plus (ratio n c) (ratio m b) = ratio (n * m) (c * b)
plus (ratio n c) plus_infinity = plus_infinity
plus (ratio n c) minus_infinity = minus_infinity
plus (ratio n c) not_aNumber = not_aNumber
plus plus_infinity (ratio m b) = plus_infinity
plus plus_infinity plus_infinity = plus_infinity
plus plus_infinity minus_infinity = not_aNumber
plus plus_infinity not_aNumber = not_aNumber
plus minus_infinity (ratio m b) = minus_infinity
plus minus_infinity plus_infinity = not_aNumber
plus minus_infinity minus_infinity = minus_infinity
plus minus_infinity not_aNumber = not_aNumber
plus not_aNumber y = not_aNumber

unfoldable pub negated : Exact → Exact
negated (ratio n c) = ratio c n
negated plus_infinity = minus_infinity
negated minus_infinity = plus_infinity
negated not_aNumber = not_aNumber

abbrev pub minus : Exact → Exact → Exact
minus x y = plus x (negated y)

-- ---- comparisons

unfoldable pub less : Exact → Exact → Bool
less (ratio n c) (ratio m b) = ltb (n * b) (m * c)
less (ratio n c) plus_infinity = true
less (ratio n c) minus_infinity = false
less (ratio n c) not_aNumber = false
less minus_infinity (ratio m b) = true
less minus_infinity plus_infinity = true
less minus_infinity minus_infinity = false
less minus_infinity not_aNumber = false
less plus_infinity y = false
less not_aNumber y = false

unfoldable pub at_most : Exact → Exact → Bool
at_most (ratio n c) (ratio m b) = leb (n * b) (m * c)
at_most (ratio n c) plus_infinity = true
at_most (ratio n c) minus_infinity = false
at_most (ratio n c) not_aNumber = false
at_most minus_infinity (ratio m b) = true
at_most minus_infinity plus_infinity = true
at_most minus_infinity minus_infinity = true
at_most minus_infinity not_aNumber = false
at_most plus_infinity (ratio m b) = false
at_most plus_infinity plus_infinity = true
at_most plus_infinity minus_infinity = false
at_most plus_infinity not_aNumber = false
at_most not_aNumber y = false

-- ---- levels

-- a whole number of thousandths
unfoldable pub constant : ℤ → Exact
constant (pos n) = ratio (10 ^ n) 1
constant (negsuc n) = ratio 1 (10 ^ suc n)

-- The exact level of a float, to the power p. A finite one without its sign is m * up e / down e; one at 1 or below counts as 1, of level 0.
unfoldable pub exact_level : ℕ → Float → Exact
exact_level p nan = not_aNumber
exact_level p (inf true) = ratio 1 1
exact_level p (inf false) = plus_infinity
exact_level p (fin true m e) = ratio 1 1
exact_level p (fin false m e) = ratio (max (m * up e) (down e) ^ p) (down e ^ p)

abbrev pub d : Float → Exact
d v = exact_level 20000 v

abbrev pub h : Float → Exact
h a = exact_level 10000 a

-- d(v) - 90,310; `negsuc 90309` is -90,310
abbrev pub offset : Exact
offset = constant (negsuc 90309)

abbrev pub dbfs : Float → Exact
dbfs v = plus (d v) offset

abbrev pub crest_factor : Level → Exact
crest_factor l = minus (d l.max) (h l.average)

-- ---- what is decided: document 01, "Ring and predictors"

-- "none if d(M) - 90,310 ≤ threshold; event if (d(M)-h(A)) < (d(Mr)-h(Ar)) - margin"
abbrev pub event_drop : ℤ → ℤ → Level → Level → Asked → ℕ
event_drop threshold margin window reference a =
    cond (at_most (dbfs window.max) (constant threshold)) 0
    (cond (less (crest_factor window) (minus (crest_factor reference) (constant margin))) (drop_by a a.step) 0)

-- "P = d(Mr) - h(Ar) + h(A) - 90,310"
abbrev pub projected_peak : Level → Level → Exact
projected_peak window reference = plus (plus (crest_factor reference) (h window.average)) offset

-- "None if d(M) - 90,310 ≤ it. P .. must be above it."
abbrev pub peak_drop : ℤ → Level → Level → ℕ → ℕ
peak_drop threshold window reference above =
    cond (at_most (dbfs window.max) (constant (whole_db threshold))) 0
    (cond (less (constant (whole_db threshold)) (projected_peak window reference)) above 0)

-- of the whole dB from k up, `count` of them, the first that p is at most; the next one after them if there is none
unfoldable pub ceiling_from : ℕ → ℕ → Exact → ℕ
ceiling_from zero k p = k
ceiling_from (suc count) k p = cond (at_most p (constant (pos (k * 1000)))) k (ceiling_from count (suc k) p)

-- "the ceiling of P in dB, held to" 0 to 15
abbrev pub ceiling : Exact → ℕ
ceiling p = ceiling_from 15 0 p

abbrev pub mode_drop : ClippingPredictorMode → Settings → Level → Level → Asked → ℕ
mode_drop ClippingEventPrediction s window reference a = event_drop s.threshold s.margin window reference a
mode_drop AdaptiveStepClippingPeakPrediction s window reference a = peak_drop s.threshold window reference (adaptive_drop a (ceiling (projected_peak window reference)))
mode_drop FixedStepClippingPeakPrediction s window reference a = peak_drop s.threshold window reference (drop_by a a.step)

-- "missing metrics, of either window, give none before any comparison"
unfoldable pub windows_drop : Settings → Asked → Result (Option Level) Refusal → Result (Option Level) Refusal → ℕ
windows_drop s a (Ok (Some window)) (Ok (Some reference)) = mode_drop s.mode s window reference a
windows_drop s a (Ok (Some window)) (Ok None) = 0
windows_drop s a (Ok (Some window)) (Err cause) = 0
windows_drop s a (Ok None) reference = 0
windows_drop s a (Err cause) reference = 0

-- "An estimate at level ≤ min is none": the drop that exact logarithms lead to, 0 for none
unfoldable pub exact_drop : Settings → List Level → Asked → ℕ
exact_drop s records a =
    cond (leb a.level a.least) 0
    (windows_drop s a (partial_metrics (capacity_of s) records 0 s.window) (partial_metrics (capacity_of s) records s.delay s.reference))
