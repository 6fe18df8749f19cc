-- What a frame brings to a predictor: levels whose counts are in range, or nothing. Assumes nothing.
use mathlib.Core.Path.{◌≡◌, sym, ap, subst, ◌∙◌}
use mathlib.Core.Bool.{Bool, true, false, ◌&&◌}
use mathlib.Core.List.{List}
use Prim.Native.Nat.{ℕ, zero, suc, ◌≤◌}
use native.Mathlib.Omega.{arith}
use lib.Dec.{ltb}
use lib.Ieee.{Float}
use lib.ListN.{replicate}
use Rattle.std.specs.Prelude.{Some, None, Option}
use Rattle.clipping_predictor.specs.declared.modes.Asked.{Asked}
use Rattle.numbers.specs.Listed.{listed}
use Rattle.clipping_predictor_level_buffer.specs.declared.level.Level.{Level}
use Rattle.clipping_predictor_level_buffer.specs.Level.{max_samples_per_channel, frame_record}
use Rattle.clipping_predictor_level_buffer.specs.Ring.{Counted}
use Rattle.clipping_predictor_level_buffer.proofs.Counts.{counted_none, counted_more}
use Rattle.clipping_predictor.specs.declared.measuring.Levels.{Levels}
use Rattle.clipping_predictor.specs.Predictor.{max_channels, part_of, frame_fits}
use Rattle.clipping_predictor.specs.FrameLevels.{silence, level_if, levels_array}
use Rattle.clipping_predictor.specs.AllRings.{clipped_for, clipped_if, heard_if, BroughtBy}
use Rattle.clipping_predictor.proofs.MostClipped.{part_few}

-- ---- counts in range

silences_counted : (n : ℕ) → Counted (replicate n silence)
silences_counted zero = counted_none
silences_counted (suc n) = counted_more silence (replicate n silence) (omega arith) (silences_counted n)

counted_listed : (f : ℕ → Level) (n : ℕ) → ((c : ℕ) → (f c).clipped ≤ max_samples_per_channel) → Counted (listed f n)
unfolding listed
counted_listed f zero h = counted_none
counted_listed f (suc n) h = counted_more (f 0) (listed (λ i. f (suc i)) n) (h 0) (counted_listed (λ i. f (suc i)) n (λ c. h (suc c)))

level_few : (samples : ℕ) (frame : List Float) (c : ℕ) (b : Bool) → samples ≤ max_samples_per_channel → (level_if b (frame_record (part_of samples frame c))).clipped ≤ max_samples_per_channel
unfolding frame_record
level_few samples frame c true h = let k = part_few samples frame c in omega arith
level_few samples frame c false h = omega arith

array_counted : (channels samples : ℕ) (frame : List Float) → samples ≤ max_samples_per_channel → Counted (levels_array channels samples frame)
unfolding levels_array
array_counted channels samples frame h = counted_listed (λ c. level_if (ltb c channels) (frame_record (part_of samples frame c))) max_channels (λ c. level_few samples frame c (ltb c channels) h)

-- ---- what is brought

module _ (channels samples : ℕ) (frame : List Float) (question : Option Asked) (on : Bool) where
  pub brings_nothing : (n : ℕ) → (on && frame_fits channels samples frame) ≡ false → n ≡ clipped_if (frame_fits channels samples frame) (clipped_for question channels samples frame)
      → BroughtBy on channels samples frame question (record { levels = None; clipped = n })
  brings_nothing n h e = record {
    levels_are = ap (λ (b : Bool). heard_if b (levels_array channels samples frame)) (sym h);
    counted = silences_counted max_channels;
    clipped_is = e;
  }

  pub brings_levels : (n : ℕ) (levels : Levels) → (on && frame_fits channels samples frame) ≡ true → samples ≤ max_samples_per_channel → levels.items ≡ levels_array channels samples frame
      → n ≡ clipped_if (frame_fits channels samples frame) (clipped_for question channels samples frame) → BroughtBy on channels samples frame question (record { levels = Some levels; clipped = n })
  brings_levels n levels h few are e = record {
    levels_are = ap (λ (l : List Level). Some (record { items = l })) are ∙ ap (λ (b : Bool). heard_if b (levels_array channels samples frame)) (sym h);
    counted = subst Counted (sym are) (array_counted channels samples frame few);
    clipped_is = e;
  }
