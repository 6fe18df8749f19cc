-- A loop that goes step by step and stops at the first place that passes a test, or at its end: what holds at each turn, and that it stops where `first` says. Assumes nothing.
use mathlib.Core.Path.{◌≡◌, sym, ap, ◌∙◌}
use mathlib.Core.Bool.{Bool, true, false}
use Prim.Native.Nat.{ℕ, ◌+◌, ◌≤◌, ◌<◌}
use native.Mathlib.Nat.{not-suc-le-zero}
use native.Mathlib.Omega.{arith}
use borrow.Author.Count.{below_more}
use Rattle.numbers.specs.First.{first}
use Rattle.numbers.proofs.First.{found}

-- `way k` is the place after k steps. Of n steps at most some are done, they led to v, and no place before v passes.
pub record Walked {A : Type 0} (way : ℕ → A) (met : A → Bool) (n : ℕ) (v : A) : Type 0 where
  pub steps : ℕ
  pub at : v ≡ way steps
  pub within : steps ≤ n
  pub before : (j : ℕ) → j < steps → met (way j) ≡ false

module _ {A : Type 0} {way : ℕ → A} {met : A → Bool} {n : ℕ} where
  -- before the first turn
  pub starts : {v : A} → v ≡ way 0 → Walked way met n v
  starts e = record { steps = 0; at = e; within = omega arith; before = λ j h. absurd (not-suc-le-zero h) }

  -- a turn that goes on
  pub goes_on : {v u : A} (w : Walked way met n v) → w.steps < n → met v ≡ false → u ≡ way (w.steps + 1) → Walked way met n u
  goes_on w h t e =
      record { steps = w.steps + 1; at = e; within = omega arith; before = below_more (λ j. met (way j) ≡ false) w.steps w.before (ap met (sym w.at) ∙ t) }

  -- the two ways to stop
  pub stops_at_end : {v : A} (w : Walked way met n v) → n ≤ w.steps → v ≡ way (first (λ j. met (way j)) n)
  stops_at_end w h = w.at ∙ ap way (found (record { within = w.within; before = w.before; here = λ l. absurd (omega arith) }))

  pub stops_here : {v : A} (w : Walked way met n v) → met v ≡ true → v ≡ way (first (λ j. met (way j)) n)
  stops_here w t = w.at ∙ ap way (found (record { within = w.within; before = w.before; here = λ l. ap met (sym w.at) ∙ t }))
