-- A fold over the first elements of a list, one element more at a time, as a loop takes them. Assumes nothing.
use mathlib.Core.Path.{◌≡◌, refl, subst}
use mathlib.Core.List.{List, [], ◌∷◌, map, foldl}
use Prim.Native.Nat.{ℕ, zero, suc, ◌+◌, ◌*◌, ◌≤◌, ◌<◌}
use native.Mathlib.Nat.{not-suc-le-zero, le_of_suc-le-suc, add-mul, one-mul}
use native.Mathlib.Numerals.{add-one}
use native.Mathlib.Omega.{arith}
use lib.ListN.{length, get_or, take}

module _ {A B C : Type 0} (f : C → B → C) (g : A → B) (d : A) where
  one_more : (b : C) (xs : List A) (i : ℕ) → i < length xs → foldl f b (map g (take (suc i) xs)) ≡ f (foldl f b (map g (take i xs))) (g (get_or xs i d))
  one_more b [] i h = absurd (not-suc-le-zero h)
  one_more b (x ∷ xs) zero h = refl
  one_more b (x ∷ xs) (suc i) h = one_more (f b (g x)) xs i (le_of_suc-le-suc h)

  pub folded_more : (b : C) (xs : List A) (i : ℕ) → i < length xs → foldl f b (map g (take (i + 1) xs)) ≡ f (foldl f b (map g (take i xs))) (g (get_or xs i d))
  folded_more b xs i h = rw add-one (one_more b xs i h)

-- a sum of counts that are each at most k
module _ {A : Type 0} (f : A → ℕ) (d : A) (k : ℕ) where
  step : (n m x l : ℕ) → x ≤ k → m ≤ n + x + l * k → (l + 1) * k ≡ l * k + 1 * k → 1 * k ≡ k → m ≤ n + (l + 1) * k
  step n m x l h s e o = go (l * k) ((l + 1) * k) (1 * k) h s e o
    where
      go : (a b c : ℕ) → x ≤ k → m ≤ n + x + a → b ≡ a + c → c ≡ k → m ≤ n + b
      go a b c h s e o = omega arith

  pub sum_most : (n : ℕ) (xs : List A) → ((i : ℕ) → f (get_or xs i d) ≤ k) → foldl ◌+◌ n (map f xs) ≤ n + length xs * k
  sum_most n [] h = omega arith
  sum_most n (x ∷ xs) h =
      let e : length xs + 1 ≡ suc (length xs) = omega arith in
      subst (λ (l : ℕ). foldl ◌+◌ (n + f x) (map f xs) ≤ n + l * k) e (step n _ (f x) (length xs) (h 0) (sum_most (n + f x) xs (λ i. h (suc i))) (add-mul (length xs) 1 k) (one-mul k))
