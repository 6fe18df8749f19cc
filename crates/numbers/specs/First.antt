-- A search in order: the least number that passes a test. Definitions only.
use Rattle.std.specs.Prelude.{ℕ, zero, suc, Bool, true, false}

-- The search from 0 on, with n numbers left to it; the Bool says whether 0 passes.
unfoldable pub searched : (ℕ → Bool) → ℕ → Bool → ℕ
searched p zero here = zero
searched p (suc n) true = zero
searched p (suc n) false = suc (searched (λ k. p (suc k)) n (p 1))

-- The first k below n with p k, and n where there is none.
unfoldable pub first : (ℕ → Bool) → ℕ → ℕ
unfolding searched
first p n = searched p n (p 0)
