-- Cases of document 01's edges, and worked levels, by computation. Assumes nothing.
use mathlib.Core.Path.{◌≡◌, refl}
use mathlib.Core.Bool.{true, false}
use mathlib.Core.List.{List, [], ◌∷◌}
use lib.IntN.{pos, negsuc}
use lib.Ieee.{Float, nan, inf, fin, add, mul, div, lt, le, eq, of_int}
use lib.ListN.{length, take, drop, replicate}
use Rattle.std.specs.Prelude.{None, Ok, Some}
use Rattle.levels.specs.FloatParts.{magnitude_of}
use Rattle.clipping_predictor_level_buffer.specs.declared.level.Level.{Level}
use Rattle.clipping_predictor_level_buffer.specs.Statistics.{sum, mean, largest}
use Rattle.clipping_predictor_level_buffer.specs.Clipped.{is_clipped, count_of, total, clipped_in}
use Rattle.clipping_predictor_level_buffer.specs.Level.{frame_record}
use Rattle.clipping_predictor_level_buffer.specs.Metrics.{metrics_over, partial_metrics, compute_partial_metrics}

-- "Stored 9, delay 5, items 5: none"
pub stored_9 : (s : List Level) → length s ≡ 9 → compute_partial_metrics 10 s (pos 5) (pos 5) ≡ Ok None
unfolding compute_partial_metrics partial_metrics
stored_9 s h = rw h

-- "stored 10: metrics"
pub stored_10 : (s : List Level) → length s ≡ 10 → compute_partial_metrics 10 s (pos 5) (pos 5) ≡ Ok (Some (metrics_over (take 5 (drop 5 s))))
unfolding compute_partial_metrics partial_metrics
stored_10 s h = rw h

-- 3 and 1.5
abbrev three : Float
three = fin false 3 (pos 0)

abbrev one_half : Float
one_half = fin false 3 (negsuc 0)

-- of ten records of mean 3, peak 1.5 and 7 clipped samples, five have the metrics 3, 1.5 and 35
pub ten_alike : compute_partial_metrics 10 (replicate 10 (record { average = three; max = one_half; clipped = 7 })) (pos 5) (pos 5) ≡ Ok (Some (record { average = three; max = one_half; clipped = 35 }))
unfolding compute_partial_metrics partial_metrics metrics_over mean sum largest total add div lt of_int
ten_alike = refl

-- 3 and -4: the mean of 9 and 16 is 12.5, the peak 4
pub worked : frame_record (three ∷ fin true 1 (pos 2) ∷ []) ≡ record { average = fin false 25 (negsuc 0); max = fin false 1 (pos 2); clipped = 0 }
unfolding frame_record mean sum largest clipped_in total count_of is_clipped le eq magnitude_of add mul div lt of_int
worked = refl

-- a sample that is not a number spoils the mean and is passed over in the peak
pub broken : frame_record (three ∷ nan ∷ fin true 1 (pos 2) ∷ []) ≡ record { average = nan; max = fin false 1 (pos 2); clipped = 0 }
unfolding frame_record mean sum largest clipped_in total count_of is_clipped le eq magnitude_of add mul div lt of_int
broken = refl

-- a frame of minus zeros has the peak plus zero
pub minus_zero : frame_record (fin true 0 (pos 0) ∷ []) ≡ record { average = fin false 0 (pos 0); max = fin false 0 (pos 0); clipped = 0 }
unfolding frame_record mean sum largest clipped_in total count_of is_clipped le eq magnitude_of add mul div lt of_int
minus_zero = refl

-- of 32767, -32767, -32768, both infinities and a not-a-number, four are clipped
pub edges_clipped : clipped_in (fin false 32767 (pos 0) ∷ fin true 32767 (pos 0) ∷ fin true 1 (pos 15) ∷ inf false ∷ inf true ∷ nan ∷ []) ≡ 4
unfolding clipped_in total count_of is_clipped le lt eq of_int
edges_clipped = refl
