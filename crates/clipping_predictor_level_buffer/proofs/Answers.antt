-- The answers of making and of the metrics, by the tests that lead to them. Assumes nothing.
use mathlib.Core.Path.{◌≡◌, refl, sym, ap, ◌∙◌}
use mathlib.Core.Bool.{true, false}
use mathlib.Core.Logic.{⊎_elim}
use mathlib.Core.List.{List}
use Prim.Native.Nat.{ℕ, ◌+◌, ◌≤◌, ◌<◌, max}
use native.Mathlib.Nat.{not-suc-le-zero}
use native.Mathlib.Omega.{arith}
use native.Mathlib.Decide.{dec_lt}
use lib.IntN.{ℤ, pos, negsuc}
use lib.Signed.{lt_z}
use lib.ListN.{length, take, drop}
use borrow.Author.Tests.{le-leb, lt-leb, ltb-true, ltb-false}
use Rattle.std.specs.Prelude.{Err, None, Ok, Some}
use Rattle.numbers.specs.declared.refusal.Refusal.TheVariants.{RingRange}
use Rattle.numbers.specs.Natural.{within_of}
use Rattle.numbers.proofs.Signs.{clash}
use Rattle.numbers.proofs.Ranges.{told, outside}
use Rattle.clipping_predictor_level_buffer.specs.declared.level.Level.{Level}
use Rattle.clipping_predictor_level_buffer.specs.declared.ClippingPredictorLevelBuffer.{ClippingPredictorLevelBuffer}
use Rattle.clipping_predictor_level_buffer.specs.Ring.{max_capacity, Capacity, Emptied}
use Rattle.clipping_predictor_level_buffer.specs.Metrics.{metrics_over, partial_metrics, compute_partial_metrics}
use Rattle.clipping_predictor_level_buffer.specs.Making.{capacity_of, making_of, MadeOf}

-- ---- the metrics

module _ (capacity : ℕ) (stored : List Level) (delay n : ℕ) where
  pub too_few : n < 1 → Err RingRange ≡ partial_metrics capacity stored delay n
  unfolding partial_metrics
  too_few h = rw (lt-leb 1 n h)

  pub too_many : 1 ≤ n → capacity < delay + n → Err RingRange ≡ partial_metrics capacity stored delay n
  unfolding partial_metrics
  too_many h k = rw (le-leb 1 n h, lt-leb (delay + n) capacity k)

  pub missing : 1 ≤ n → delay + n ≤ capacity → length stored < delay + n → Ok None ≡ partial_metrics capacity stored delay n
  unfolding partial_metrics
  missing h k m = rw (le-leb 1 n h, le-leb (delay + n) capacity k, lt-leb (delay + n) (length stored) m)

  pub found : 1 ≤ n → delay + n ≤ capacity → delay + n ≤ length stored → Ok (Some (metrics_over (take n (drop delay stored)))) ≡ partial_metrics capacity stored delay n
  unfolding partial_metrics
  found h k m = rw (le-leb 1 n h, le-leb (delay + n) capacity k, le-leb (delay + n) (length stored) m)

  -- the same by one test for both
  pub beyond : capacity < delay + n → Err RingRange ≡ partial_metrics capacity stored delay n
  beyond k = elim (dec_lt n 1) [ yes h ↦ too_few h | no h ↦ too_many (omega (arith, h)) k ]

module _ (capacity : ℕ) (stored : List Level) where
  -- a delay that is negative or above the capacity
  pub no_delay : (x y : ℤ) → within_of 0 capacity x ≡ None → Err RingRange ≡ compute_partial_metrics capacity stored x y
  unfolding compute_partial_metrics
  no_delay (pos d) (pos n) e = ⊎_elim (λ h. absurd (not-suc-le-zero h)) (λ h. beyond capacity stored d n (omega arith)) (outside 0 capacity d e)
  no_delay (pos d) (negsuc n) e = refl
  no_delay (negsuc d) y e = refl

  -- an item count below 1 or above the capacity
  pub no_items : (x y : ℤ) → within_of 1 capacity y ≡ None → Err RingRange ≡ compute_partial_metrics capacity stored x y
  unfolding compute_partial_metrics
  no_items (pos d) (pos n) e = ⊎_elim (too_few capacity stored d n) (λ h. beyond capacity stored d n (omega arith)) (outside 1 capacity n e)
  no_items (pos d) (negsuc n) e = refl
  no_items (negsuc d) y e = refl

  pub both_within : (x y : ℤ) (d n : ℕ) → within_of 0 capacity x ≡ Some d → within_of 1 capacity y ≡ Some n → partial_metrics capacity stored d n ≡ compute_partial_metrics capacity stored x y
  unfolding compute_partial_metrics
  both_within x y d n p q = λ i. compute_partial_metrics capacity stored (sym (told 0 capacity x d p).is i) (sym (told 1 capacity y n q).is i)

-- ---- making

made_with_lem : (x : ℤ) (r : ClippingPredictorLevelBuffer) (n : ℕ) → capacity_of x ≡ n → n ≤ max_capacity → Emptied n r → MadeOf x (record { answer = Ok tt; ring = r })
unfolding making_of
made_with_lem x r n e h k = record { answer_is = rw (e, le-leb n max_capacity h); empty = rw (e, le-leb n max_capacity h) k }

least : (x : ℤ) → lt_z x (pos 1) ≡ true → capacity_of x ≡ 1
unfolding capacity_of
least (pos n) t = let h = ltb-true n 1 t in omega arith
least (negsuc n) t = refl

above : (x : ℤ) → lt_z x (pos 1) ≡ false → within_of 1 max_capacity x ≡ None → max_capacity < capacity_of x
unfolding capacity_of
above (pos n) t e = let h = ltb-false n 1 t in ⊎_elim (λ k. absurd (omega arith)) (λ k. omega arith) (outside 1 max_capacity n e)
above (negsuc n) t e = clash t

its_own : (x : ℤ) (n : ℕ) → within_of 1 max_capacity x ≡ Some n → (capacity_of x ≡ n) × Capacity n
unfolding capacity_of
its_own x n e = let i = told 1 max_capacity x n e in (ap capacity_of i.is ∙ largest n i.least, record { low = i.least; high = i.most })
  where
    largest : (n : ℕ) → 1 ≤ n → max 1 n ≡ n
    largest n h = omega arith

module _ (x : ℤ) (r : ClippingPredictorLevelBuffer) where
  pub made_least : lt_z x (pos 1) ≡ true → Emptied 1 r → MadeOf x (record { answer = Ok tt; ring = r })
  made_least t k = made_with_lem x r 1 (least x t) (omega arith) k

  pub made_none : lt_z x (pos 1) ≡ false → within_of 1 max_capacity x ≡ None → Emptied 1 r → MadeOf x (record { answer = Err RingRange; ring = r })
  unfolding making_of
  made_none t e k = record { answer_is = rw (lt-leb (capacity_of x) max_capacity (above x t e)); empty = rw (lt-leb (capacity_of x) max_capacity (above x t e)) k }

  pub made : (n : ℕ) → within_of 1 max_capacity x ≡ Some n → Emptied n r → MadeOf x (record { answer = Ok tt; ring = r })
  made n e k = let i = its_own x n e in made_with_lem x r n i.0 i.1.high k

pub within_capacity : (x : ℤ) (n : ℕ) → within_of 1 max_capacity x ≡ Some n → Capacity n
within_capacity x n e = (its_own x n e).1
