-- The records that a ring stores: how many, one of them, and what a push makes of them. Assumes nothing.
use mathlib.Core.Path.{◌≡◌, refl, sym, subst, ◌∙◌}
use mathlib.Core.List.{List, [], ◌∷◌}
use Prim.Native.Nat.{ℕ, zero, suc, ◌+◌, ◌≤◌, ◌<◌, min}
use native.Mathlib.Nat.{not-suc-le-zero, le_of_suc-le-suc}
use native.Mathlib.Omega.{arith}
use lib.ListN.{length, get_or, drop, set, length-set}
use lib.Seq.{get_or-drop, get_or-set_same, get_or-set_other}
use Rattle.std.specs.Prelude.{None, Some}
use Rattle.numbers.proofs.Listed.{length_listed, get_d_listed, listed_push}
use Rattle.clipping_predictor_level_buffer.specs.declared.level.Level.{Level}
use Rattle.clipping_predictor_level_buffer.specs.declared.ClippingPredictorLevelBuffer.{ClippingPredictorLevelBuffer}
use Rattle.clipping_predictor_level_buffer.specs.Level.{max_samples_per_channel}
use Rattle.clipping_predictor_level_buffer.specs.Ring.{no_level, Counted, Good, behind, after, placed, stored, stored_at, push, Pushed}
use Rattle.clipping_predictor_level_buffer.proofs.Places.{after_within, behind_none, behind_next, behind_other}
use Rattle.clipping_predictor_level_buffer.proofs.Counts.{counted_push}

pub length_stored : (r : ClippingPredictorLevelBuffer) → length (stored r) ≡ r.size
unfolding stored
length_stored r = length_listed _ _

-- the record i places behind the tail
abbrev pub record_at : ClippingPredictorLevelBuffer → ℕ → Level
record_at r i = get_or r.data (behind r.capacity r.tail i) no_level

pub stored_is : (r : ClippingPredictorLevelBuffer) (i : ℕ) → i < r.size → get_or (stored r) i no_level ≡ record_at r i
unfolding stored placed
stored_is r i h = get_d_listed _ _ i no_level h

-- the same, where the newest d are skipped
pub later_is : (r : ClippingPredictorLevelBuffer) (d i : ℕ) → d + i < r.size → get_or (drop d (stored r)) i no_level ≡ record_at r (d + i)
later_is r d i h = get_or-drop d (stored r) i no_level ∙ stored_is r (d + i) h

-- ---- one of them

pub too_far : (ls : List Level) (i : ℕ) → length ls ≤ i → None ≡ stored_at ls i
unfolding stored_at
too_far [] i h = refl
too_far (l ∷ ls) zero h = absurd (not-suc-le-zero h)
too_far (l ∷ ls) (suc i) h = too_far ls i (le_of_suc-le-suc h)

pub near : (ls : List Level) (i : ℕ) → i < length ls → Some (get_or ls i no_level) ≡ stored_at ls i
unfolding stored_at
near [] i h = absurd (not-suc-le-zero h)
near (l ∷ ls) zero h = refl
near (l ∷ ls) (suc i) h = near ls i (le_of_suc-le-suc h)

-- ---- a push

-- the ring s with the level at the next place, and one record more if there is room
abbrev pub with_level : ClippingPredictorLevelBuffer → Level → ClippingPredictorLevelBuffer
with_level s level = record {
  «data» = set s.data (after s.capacity s.tail) level;
  tail = after s.capacity s.tail;
  size = min s.capacity (s.size + 1);
  capacity = s.capacity;
}

module _ (s : ClippingPredictorLevelBuffer) (level : Level) (ok : Good s) where
  abbrev c : ℕ
  c = s.capacity

  abbrev t : ℕ
  t = s.tail

  newest : placed (set s.data (after c t) level) c (after c t) 0 ≡ level
  unfolding placed
  newest = rw (behind_none, get_or-set_same s.data (after c t) level no_level (omega (arith, after_within c t ok.within)))

  older : (i : ℕ) → i + 1 < c → placed (set s.data (after c t) level) c (after c t) (i + 1) ≡ placed s.data c t i
  unfolding placed
  older i h = rw (behind_next c t i ok.within h, get_or-set_other s.data (after c t) (behind c t i) level no_level (behind_other c t i ok.within h))

  its_stored : stored (with_level s level) ≡ push c level (stored s)
  unfolding stored
  its_stored = listed_push (placed s.data c t) (placed (set s.data (after c t) level) c (after c t)) level c s.size ok.low newest older

  pub pushed : level.clipped ≤ max_samples_per_channel → Pushed s level (with_level s level)
  pushed h = record {
    good = record {
      low = ok.low;
      high = ok.high;
      held = omega arith;
      within = after_within c t ok.within;
      places = simp length-set ok.places;
      counted = subst Counted (sym its_stored) (counted_push c level (stored s) h ok.counted);
    };
    capacity_is = refl;
    stored_is = its_stored;
  }
