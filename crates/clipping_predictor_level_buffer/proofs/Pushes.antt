-- Many pushes: what a ring stores after them, and that nothing pushed before the last `capacity` of them is left. Assumes nothing.
use mathlib.Core.Path.{◌≡◌, refl, sym, ap, ◌∙◌}
use mathlib.Core.List.{List, [], ◌∷◌, ◌++◌, reverse, reverse-cons}
use Prim.Native.Nat.{ℕ, zero, suc, ◌≤◌}
use native.Mathlib.Nat.{le_trans, not-suc-le-zero}
use native.Mathlib.Omega.{arith}
use lib.ListN.{length, take, length-reverse}
use lib.Seq.{take-take, take-append-le, append_snoc}
use Rattle.clipping_predictor_level_buffer.specs.declared.level.Level.{Level}
use Rattle.clipping_predictor_level_buffer.specs.Ring.{push, push_all}

-- a push cuts anyway, so what is cut before it makes no difference
cut : (c : ℕ) (l : Level) (ls : List Level) → push c l (take c ls) ≡ push c l ls
cut zero l ls = refl
cut (suc c) l ls = ap (λ (t : List Level). l ∷ t) (take-take c (suc c) ls (omega arith))

turned : (l : Level) (ls rs : List Level) → reverse ls ++ (l ∷ rs) ≡ reverse (l ∷ ls) ++ rs
turned l ls rs = sym (ap (λ (t : List Level). t ++ rs) (reverse-cons l ls) ∙ append_snoc (reverse ls) l rs)

-- after pushes, a ring stores the pushed records newest first and then what it stored before, cut to its capacity
pub stored_after : (c : ℕ) (levels records : List Level) → push_all c levels (take c records) ≡ take c (reverse levels ++ records)
unfolding push_all
stored_after c [] records = refl
stored_after c (l ∷ levels) records = ap (push_all c levels) (cut c l records) ∙ stored_after c levels (l ∷ records) ∙ ap (take c) (turned l levels records)

-- AFTER `capacity` PUSHES: a ring stores the first `capacity` of the pushed records, newest first, whatever it stored before
pub only_pushed : (c : ℕ) (levels records : List Level) → 1 ≤ c → c ≤ length levels → push_all c levels records ≡ take c (reverse levels)
unfolding push_all
only_pushed c [] records low h = absurd (not-suc-le-zero (le_trans low h))
only_pushed c (l ∷ levels) records low h =
    stored_after c levels (l ∷ records)
    ∙ ap (take c) (turned l levels records)
    ∙ take-append-le c (reverse (l ∷ levels)) records (rw length-reverse h)

-- so it does not depend on what was stored before
pub forgotten : (c : ℕ) (levels records others : List Level) → 1 ≤ c → c ≤ length levels → push_all c levels records ≡ push_all c levels others
forgotten c levels records others low h = only_pushed c levels records low h ∙ sym (only_pushed c levels others low h)

-- one push fewer is too few: a record from before is still stored
pub one_too_few : (pushed before : Level) → push_all 2 (pushed ∷ []) (before ∷ []) ≡ pushed ∷ before ∷ []
unfolding push_all
one_too_few pushed before = refl
