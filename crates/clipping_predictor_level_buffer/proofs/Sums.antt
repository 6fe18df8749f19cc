-- The metrics over records, one record more at a time. Assumes nothing.
use mathlib.Core.Path.{◌≡◌, refl, sym, ap, ◌∙◌}
use mathlib.Core.List.{List, map}
use Prim.Native.Nat.{ℕ, ◌+◌, ◌*◌, ◌≤◌, ◌<◌}
use native.Mathlib.Omega.{arith}
use lib.IntN.{pos}
use lib.Ieee.{Float, binary32, add, div, of_int}
use lib.ListN.{length, get_or, take, drop, length-map, length-take}
use lib.Seq.{length-take-le, get_or-drop}
use Rattle.clipping_predictor_level_buffer.specs.declared.level.Level.{Level}
use Rattle.clipping_predictor_level_buffer.specs.Statistics.{plus_zero, sum, mean, larger, largest}
use Rattle.clipping_predictor_level_buffer.specs.Clipped.{total}
use Rattle.clipping_predictor_level_buffer.specs.Level.{max_samples_per_channel}
use Rattle.clipping_predictor_level_buffer.specs.Ring.{no_level, Counted}
use Rattle.clipping_predictor_level_buffer.specs.Metrics.{mean_of, peak_of, clipped_of, metrics_over}
use Rattle.clipping_predictor_level_buffer.proofs.Folds.{folded_more, sum_most}
use Rattle.clipping_predictor_level_buffer.proofs.Counts.{counted_take}

-- the first i records have the sum s of means, the largest peak m, and n clipped samples
pub record Summed (records : List Level) (i : ℕ) (s m : Float) (n : ℕ) : Type 0 where
  pub sum_is : s ≡ sum (map mean_of (take i records))
  pub max_is : m ≡ largest (map peak_of (take i records))
  pub clipped_is : n ≡ total (map clipped_of (take i records))

-- what is counted stays so where the newest are skipped
pub later_counted : (d : ℕ) (records : List Level) → Counted records → Counted (drop d records)
later_counted d records counted = record { each = λ i. let h = counted.each (d + i) in omega (arith, h, ap clipped_of (get_or-drop d records i no_level)) }

-- no record has more than a channel's samples, so their total is at most as many for each
pub total_most : (records : List Level) → Counted records → total (map clipped_of records) ≤ length records * max_samples_per_channel
unfolding total
total_most records counted = let h = sum_most clipped_of no_level max_samples_per_channel 0 records counted.each in omega arith

module _ (records : List Level) where
  pub few : (i : ℕ) (s m : Float) (n : ℕ) → Counted records → Summed records i s m n → n ≤ i * max_samples_per_channel
  few i s m n counted t =
      let h = total_most (take i records) (counted_take i records counted) in
      let l = length-take i records in
      omega (arith, h, l, t.clipped_is)

  pub none_summed : Summed records 0 plus_zero plus_zero 0
  unfolding sum largest total
  none_summed = record { sum_is = refl; max_is = refl; clipped_is = refl }

  -- a record has no more than a channel's samples
  pub one_few : (i : ℕ) (l : Level) → Counted records → l ≡ get_or records i no_level → clipped_of l ≤ max_samples_per_channel
  one_few i l counted e = let h = counted.each i in omega (arith, h, ap clipped_of e)

  pub one_more : (i : ℕ) (s m k : Float) (n : ℕ) (l : Level) → Summed records i s m n → i < length records → l ≡ get_or records i no_level → k ≡ larger m (peak_of l)
      → Summed records (i + 1) (add binary32 s (mean_of l)) k (n + clipped_of l)
  unfolding sum largest total
  one_more i s m k n l t h e f = record {
    sum_is = (λ j. add binary32 (t.sum_is j) (mean_of (e j))) ∙ sym (folded_more (add binary32) mean_of no_level plus_zero records i h);
    max_is = f ∙ (λ j. larger (t.max_is j) (peak_of (e j))) ∙ sym (folded_more larger peak_of no_level plus_zero records i h);
    clipped_is = (λ j. t.clipped_is j + clipped_of (e j)) ∙ sym (folded_more ◌+◌ clipped_of no_level 0 records i h);
  }

  pub metrics_are : (n : ℕ) (s m : Float) (k : ℕ) → Summed records n s m k → n ≤ length records
      → record { average = div binary32 s (of_int binary32 (pos n)); max = m; clipped = k } ≡ metrics_over (take n records)
  unfolding metrics_over mean
  metrics_are n s m k t h =
      let count : n ≡ length (map mean_of (take n records)) = sym (length-map (take n records) mean_of ∙ length-take-le n records h) in
      λ j. record { average = div binary32 (t.sum_is j) (of_int binary32 (pos (count j))); max = t.max_is j; clipped = t.clipped_is j }
