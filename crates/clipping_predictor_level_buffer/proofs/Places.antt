-- The places of a ring: one behind the other, around the end of the array. Assumes nothing.
use mathlib.Core.Path.{◌≡◌}
use mathlib.Core.Logic.{◌⊎◌, inl, inr, ⊎_elim, ◌≢◌}
use Prim.Native.Nat.{ℕ, ◌+◌, ◌-◌, ◌≤◌, ◌<◌}
use native.Mathlib.Omega.{arith}
use native.Mathlib.Decide.{dec_le, dec_lt}
use borrow.Author.Tests.{le-leb, lt-leb, lt-ltb, le-ltb}
use Rattle.clipping_predictor_level_buffer.specs.Ring.{behind, after}

behind_cases : (c t i : ℕ) → ((i ≤ t) × (behind c t i ≡ t - i)) ⊎ ((t < i) × (behind c t i ≡ t + c - i))
unfolding behind
behind_cases c t i = elim (dec_le i t) [ yes h ↦ inl (h, simp (le-leb i t h)) | no h ↦ inr (omega arith, simp (lt-leb i t (omega arith))) ]

after_cases : (c t : ℕ) → ((t + 1 < c) × (after c t ≡ t + 1)) ⊎ ((c ≤ t + 1) × (after c t ≡ 0))
unfolding after
after_cases c t = elim (dec_lt (t + 1) c) [ yes h ↦ inl (h, simp (lt-ltb (t + 1) c h)) | no h ↦ inr (omega arith, simp (le-ltb (t + 1) c (omega arith))) ]

pub after_within : (c t : ℕ) → t < c → after c t < c
after_within c t h = ⊎_elim (λ n. omega arith) (λ n. omega arith) (after_cases c t)

-- no places behind a place is the place itself
pub behind_none : (c t : ℕ) → behind c t 0 ≡ t
behind_none c t = ⊎_elim (λ b. omega arith) (λ b. omega arith) (behind_cases c t 0)

-- one place more behind the next place is as many behind the place
pub behind_next : (c t i : ℕ) → t < c → i + 1 < c → behind c (after c t) (i + 1) ≡ behind c t i
behind_next c t i h k =
    ⊎_elim
    (λ n. ⊎_elim (λ a. ⊎_elim (λ b. omega arith) (λ b. omega arith) (behind_cases c t i)) (λ a. ⊎_elim (λ b. omega arith) (λ b. omega arith) (behind_cases c t i)) (behind_cases c (after c t) (i + 1)))
    (λ n. ⊎_elim (λ a. ⊎_elim (λ b. omega arith) (λ b. omega arith) (behind_cases c t i)) (λ a. ⊎_elim (λ b. omega arith) (λ b. omega arith) (behind_cases c t i)) (behind_cases c (after c t) (i + 1)))
    (after_cases c t)

-- the next place is none of the c - 1 places from the place backwards
pub behind_other : (c t i : ℕ) → t < c → i + 1 < c → behind c t i ≢ after c t
behind_other c t i h k e = ⊎_elim (λ n. ⊎_elim (λ b. omega arith) (λ b. omega arith) (behind_cases c t i)) (λ n. ⊎_elim (λ b. omega arith) (λ b. omega arith) (behind_cases c t i)) (after_cases c t)
