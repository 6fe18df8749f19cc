-- The counts of clipped samples that a ring's records have, and what a push answers by the count that it offers. Assumes nothing.
use mathlib.Core.Path.{◌≡◌, refl, sym, ap, subst, ◌∙◌}
use mathlib.Core.Bool.{Bool, true, false}
use mathlib.Core.Logic.{⊎_elim}
use mathlib.Core.List.{List, [], ◌∷◌}
use Prim.Native.Nat.{ℕ, zero, suc, ◌≤◌, ◌<◌}
use native.Mathlib.Nat.{not-suc-le-zero}
use native.Mathlib.Omega.{arith}
use lib.IntN.{ℤ, pos, negsuc}
use lib.Ieee.{Float}
use lib.ListN.{get_or, take}
use borrow.Author.Tests.{le-leb, lt-leb}
use Rattle.std.specs.Prelude.{Err, None, Ok, Some}
use Rattle.numbers.specs.declared.refusal.Refusal.TheVariants.{RingRange}
use Rattle.numbers.specs.Natural.{within_of}
use Rattle.numbers.proofs.Signs.{clash}
use Rattle.numbers.proofs.Ranges.{told, outside}
use Rattle.numbers.specs.Said.{said}
use Rattle.clipping_predictor_level_buffer.specs.declared.level.Level.{Level}
use Rattle.clipping_predictor_level_buffer.specs.declared.ClippingPredictorLevelBuffer.{ClippingPredictorLevelBuffer}
use Rattle.clipping_predictor_level_buffer.specs.Level.{max_samples_per_channel}
use Rattle.clipping_predictor_level_buffer.specs.declared.AfterPush.{AfterPush}
use Rattle.clipping_predictor_level_buffer.specs.Ring.{no_level, Counted, Good, stored, push, Pushed}
use Rattle.clipping_predictor_level_buffer.specs.Pushing.{is_count, offered, pushing_of, push_if, PushedOf}

-- ---- lists whose records have a count from 0 to 480

pub counted_none : Counted []
counted_none = record { each = λ i. omega arith }

pub counted_more : (l : Level) (ls : List Level) → l.clipped ≤ max_samples_per_channel → Counted ls → Counted (l ∷ ls)
counted_more l ls h k = record { each = λ i. elim i as (λ n. (get_or (l ∷ ls) n no_level).clipped ≤ max_samples_per_channel) [ zero ↦ h | suc j ↦ k.each j ] }

pub counted_tail : (l : Level) (ls : List Level) → Counted (l ∷ ls) → Counted ls
counted_tail l ls k = record { each = λ i. k.each (suc i) }

pub counted_take : (c : ℕ) (ls : List Level) → Counted ls → Counted (take c ls)
counted_take zero ls k = counted_none
counted_take (suc c) [] k = counted_none
counted_take (suc c) (l ∷ ls) k = counted_more l (take c ls) (k.each 0) (counted_take c ls (counted_tail l ls k))

pub counted_push : (c : ℕ) (l : Level) (ls : List Level) → l.clipped ≤ max_samples_per_channel → Counted ls → Counted (push c l ls)
counted_push c l ls h k = counted_take c (l ∷ ls) (counted_more l ls h k)

-- ---- the count that a push offers

pub is_count_lem : (n : ℕ) → n ≤ max_samples_per_channel → is_count (pos n) ≡ true
unfolding is_count
is_count_lem n h = le-leb n max_samples_per_channel h

pub no_count : (n : ℕ) → max_samples_per_channel < n → is_count (pos n) ≡ false
unfolding is_count
no_count n h = lt-leb n max_samples_per_channel h

-- a number that is outside
pub outside_count : (x : ℤ) → within_of 0 max_samples_per_channel x ≡ None → is_count x ≡ false
unfolding is_count
outside_count (pos n) e = ⊎_elim (λ h. absurd (not-suc-le-zero h)) (no_count n) (outside 0 max_samples_per_channel n e)
outside_count (negsuc n) e = refl

-- and one that is inside
pub inside_count : (x : ℤ) (n : ℕ) → within_of 0 max_samples_per_channel x ≡ Some n → (n ≤ max_samples_per_channel) × (is_count x ≡ true)
inside_count x n e = let i = told 0 max_samples_per_channel x n e in (i.most, ap is_count i.is ∙ is_count_lem n i.most)

-- ---- what a push answers

pub answers : (x : ℤ) → is_count x ≡ true → Ok tt ≡ pushing_of x
unfolding pushing_of
answers x t = rw t

pub answers_not : (x : ℤ) → is_count x ≡ false → Err RingRange ≡ pushing_of x
unfolding pushing_of
answers_not x t = rw t

module _ (x : ℤ) (s : ClippingPredictorLevelBuffer) (level : Level) where
  -- a refused push leaves the very ring
  pub push_refused : is_count x ≡ false → Good s → PushedOf x s level (record { ring = s; answer = Err RingRange })
  push_refused t ok = record {
    answer_is = ap said (answers_not x t);
    pushed = record { good = ok; capacity_is = refl; stored_is = rw t; same = λ e. refl };
  }

  pub push_accepted : (r : ClippingPredictorLevelBuffer) → is_count x ≡ true → Pushed s level r → PushedOf x s level (record { ring = r; answer = (Ok tt) })
  push_accepted r t p = record {
    answer_is = ap said (answers x t);
    pushed = record { good = p.good; capacity_is = p.capacity_is; stored_is = rw t p.stored_is; same = λ e. clash (sym t ∙ e) };
  }

-- a count that is a number n is offered as n
pub push_offered : (x : ℤ) (n : ℕ) (s : ClippingPredictorLevelBuffer) (average max : Float) (r : AfterPush) → within_of 0 max_samples_per_channel x ≡ Some n
    → PushedOf (pos n) s (record { average = average; max = max; clipped = n }) r → PushedOf x s (offered average max x) r
push_offered x n s average max r e p = subst (λ (z : ℤ). PushedOf z s (offered average max z) r) (sym (told 0 max_samples_per_channel x n e).is) p

-- a level whose count is in range is pushed
pub level_pushed : (s : ClippingPredictorLevelBuffer) (level : Level) (r : AfterPush) → level.clipped ≤ max_samples_per_channel → PushedOf (pos level.clipped) s level r → Pushed s level r.ring
level_pushed s level r h p = record {
  good = p.pushed.good;
  capacity_is = p.pushed.capacity_is;
  stored_is = p.pushed.stored_is ∙ ap (λ (b : Bool). push_if b s.capacity level (stored s)) (is_count_lem level.clipped h);
}
