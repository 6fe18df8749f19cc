-- Clipped samples: what one more sample, and one more channel, adds to the count. Assumes nothing.
use mathlib.Core.Path.{◌≡◌, refl, sym, ap, ◌∙◌}
use mathlib.Core.List.{List, map, foldl}
use Prim.Native.Nat.{ℕ, zero, suc, ◌+◌, ◌*◌, ◌≤◌, ◌<◌, max}
use native.Mathlib.Omega.{arith}
use lib.Ieee.{Float, nan}
use lib.ListN.{length, get_or, take, drop, length-take}
use lib.Seq.{take_all}
use Rattle.numbers.specs.Listed.{listed}
use Rattle.numbers.proofs.Listed.{length_listed, get_d_listed, listed_same, map_listed}
use Rattle.clipping_predictor_level_buffer.specs.Clipped.{count_of, total, clipped_in}
use Rattle.clipping_predictor_level_buffer.specs.Level.{frame_record}
use Rattle.clipping_predictor_level_buffer.specs.Ring.{no_level}
use Rattle.clipping_predictor_level_buffer.specs.Metrics.{clipped_of}
use Rattle.clipping_predictor_level_buffer.proofs.Folds.{folded_more}
use Rattle.clipping_predictor_level_buffer.proofs.Clipped.{count_most, clipped_most}
use Rattle.clipping_predictor.specs.Predictor.{max_channels, part_of}
use Rattle.clipping_predictor.specs.FrameLevels.{levels_array}
use Rattle.clipping_predictor.specs.MostClipped.{most_clipped, most_counted}
use Rattle.clipping_predictor.proofs.FrameLevels.{array_at}

-- count is that of the samples before i
pub record Counted (samples : List Float) (count i : ℕ) : Type 0 where
  pub is : count ≡ clipped_in (take i samples)
  pub most : count ≤ i
  pub within : i ≤ length samples

module _ (samples : List Float) where
  pub starts : Counted samples 0 0
  unfolding clipped_in total
  starts = record { is = refl; most = omega arith; within = omega arith }

  pub goes_on : (count i one next : ℕ) → Counted samples count i → i < length samples → one ≡ count_of (get_or samples i nan) → next ≡ i + 1 → Counted samples (count + one) next
  unfolding clipped_in total
  goes_on count i one next p h e f = record {
    is = (λ k. p.is k + e k) ∙ sym (folded_more ◌+◌ count_of nan 0 samples i h) ∙ ap (λ (n : ℕ). clipped_in (take n samples)) (sym f);
    most = omega (arith, p.most, e, count_most (get_or samples i nan));
    within = omega arith;
  }

  pub ends : (count i : ℕ) → Counted samples count i → length samples ≤ i → count ≡ clipped_in samples
  ends count i p h = p.is ∙ ap clipped_in (take_all i samples h)

-- ---- the most of several channels

-- one member more, as a loop takes them, and all
module _ {A : Type 0} (d : A) (count : A → ℕ) (f : ℕ → A) (n : ℕ) where
  abbrev pub most_before : ℕ → ℕ
  most_before c = foldl max 0 (map count (take c (listed f n)))

  pub one_more : (c : ℕ) → c < n → most_before (c + 1) ≡ max (most_before c) (count (f c))
  one_more c h = folded_more max count d 0 (listed f n) c (omega (arith, length_listed f n)) ∙ ap (λ (x : A). max (most_before c) (count x)) (get_d_listed f n c d h)

  pub all : (c : ℕ) → n ≤ c → most_before c ≡ foldl max 0 (map count (listed f n))
  all c h = ap (λ (l : List A). foldl max 0 (map count l)) (take_all c (listed f n) (omega (arith, length_listed f n)))

-- ---- the channels of a frame

pub part_few : (samples : ℕ) (frame : List Float) (c : ℕ) → clipped_in (part_of samples frame c) ≤ samples
part_few samples frame c = let part = part_of samples frame c in omega (arith, clipped_most part, length-take samples (drop (c * samples) frame))

most_few' : (samples : ℕ) (frame : List Float) (n : ℕ) (f : ℕ → ℕ) (m : ℕ) → m ≤ samples → foldl max m (map clipped_in (listed (λ c. part_of samples frame (f c)) n)) ≤ samples
unfolding listed
most_few' samples frame zero f m h = h
most_few' samples frame (suc n) f m h = let k = part_few samples frame (f 0) in most_few' samples frame n (λ c. f (suc c)) (max m (clipped_in (part_of samples frame (f 0)))) (omega arith)

-- no channel has more clipped samples than samples
pub most_few : (channels samples : ℕ) (frame : List Float) → most_clipped channels samples frame ≤ samples
unfolding most_clipped
most_few channels samples frame = most_few' samples frame channels (λ c. c) 0 (omega arith)

-- the counts in the array of a frame's records are those of its parts
pub counted_clipped : (first channels samples : ℕ) (frame : List Float) → first ≤ channels → channels ≤ max_channels → most_counted first (levels_array channels samples frame) ≡ most_clipped first samples frame
unfolding most_counted most_clipped
counted_clipped first channels samples frame h k =
    ap (foldl max 0)
    (map_listed clipped_of (λ c. get_or (levels_array channels samples frame) c no_level) first
    ∙ listed_same _ _ first (λ c l. at c (omega arith))
    ∙ sym (map_listed clipped_in (part_of samples frame) first))
  where
    at : (c : ℕ) → c < channels → clipped_of (get_or (levels_array channels samples frame) c no_level) ≡ clipped_in (part_of samples frame c)
    at c l = unfold frame_record in ap clipped_of (array_at channels samples frame c k l)
