-- Document 01, "Ring and predictors": "Metrics over n items with a delay skip the newest `delay`, sum means newest first, divide by n, and take the largest peak from 0, passing over
-- not-a-number. There are none exactly if delay + n exceeds the stored count." Document 02 (xi): "metrics give their total over the items". WebRTC's `ComputePartialMetrics`. Definitions only.
use Rattle.std.specs.Prelude.{Bool, true, false, ◌&&◌, List, map, ℕ, ◌+◌, leb, ℤ, pos, negsuc, Float, length, take, drop, Err, None, Ok, Result, Some, Option}
use Rattle.numbers.specs.declared.refusal.Refusal.{Refusal}
use Rattle.numbers.specs.declared.refusal.Refusal.TheVariants.{RingRange}
use Rattle.clipping_predictor_level_buffer.specs.declared.level.Level.{Level}
use Rattle.clipping_predictor_level_buffer.specs.Statistics.{mean, largest}
use Rattle.clipping_predictor_level_buffer.specs.Clipped.{total}

-- a record's fields are taken here alone
abbrev pub mean_of : Level → Float
mean_of l = l.average

abbrev pub peak_of : Level → Float
peak_of l = l.max

abbrev pub clipped_of : Level → ℕ
clipped_of l = l.clipped

-- the metrics of the records that are left: their mean is that of the means, their peak the largest, their clipped samples those of all
unfoldable pub metrics_over : List Level → Level
metrics_over items = record { average = mean (map mean_of items); max = largest (map peak_of items); clipped = total (map clipped_of items) }

abbrev pub found_if : Bool → List Level → Result (Option Level) Refusal
found_if true items = Ok (Some (metrics_over items))
found_if false items = Ok None

-- cause 11: "item count below 1, or their sum above capacity"
abbrev pub metrics_if : Bool → Result (Option Level) Refusal → Result (Option Level) Refusal
metrics_if true metrics = metrics
metrics_if false metrics = Err RingRange

-- of the stored records, the newest `delay` are skipped and n are taken
unfoldable pub partial_metrics : ℕ → List Level → ℕ → ℕ → Result (Option Level) Refusal
partial_metrics capacity stored delay n =
    metrics_if (leb 1 n && leb (delay + n) capacity) (found_if (leb (delay + n) (length stored)) (take n (drop delay stored)))

-- the same on signed numbers, also with "delay negative"
unfoldable pub compute_partial_metrics : ℕ → List Level → ℤ → ℤ → Result (Option Level) Refusal
compute_partial_metrics capacity stored (pos delay) (pos n) = partial_metrics capacity stored delay n
compute_partial_metrics capacity stored (pos delay) (negsuc n) = Err RingRange
compute_partial_metrics capacity stored (negsuc delay) n = Err RingRange
