-- What holds of every item of a list. Assumes nothing.
use mathlib.Core.List.{List, [], ◌∷◌, map}
use Prim.Native.Nat.{ℕ, zero, suc, ◌<◌}
use native.Mathlib.Nat.{not-suc-le-zero, le_of_suc-le-suc}
use native.Mathlib.Omega.{arith}
use lib.ListN.{length, get_or, take, drop, replicate}
use Rattle.numbers.specs.Listed.{listed}
use Rattle.claims.specs.Every.{Every}

module _ {A : Type 0} (P : A → Type 0) where
  pub every_drop : (n : ℕ) (xs : List A) → Every P xs → Every P (drop n xs)
  every_drop zero xs f = f
  every_drop (suc n) [] f = f
  every_drop (suc n) (x ∷ xs) f = every_drop n xs f.1

  pub every_take : (n : ℕ) (xs : List A) → Every P xs → Every P (take n xs)
  every_take zero xs f = tt
  every_take (suc n) [] f = tt
  every_take (suc n) (x ∷ xs) f = (f.0, every_take n xs f.1)

  -- by places, there and back
  pub every_at : (xs : List A) (i : ℕ) (d : A) → Every P xs → i < length xs → P (get_or xs i d)
  every_at [] i d a h = absurd (not-suc-le-zero h)
  every_at (x ∷ xs) zero d a h = a.0
  every_at (x ∷ xs) (suc i) d a h = every_at xs i d a.1 (le_of_suc-le-suc h)

  pub every_from : (xs : List A) (d : A) → ((i : ℕ) → P (get_or xs i d)) → Every P xs
  every_from [] d h = tt
  every_from (x ∷ xs) d h = (h 0, every_from xs d (λ i. h (suc i)))

  pub every_listed : (f : ℕ → A) (n : ℕ) → ((i : ℕ) → i < n → P (f i)) → Every P (listed f n)
  unfolding listed
  every_listed f zero h = tt
  every_listed f (suc n) h = (h 0 (omega arith), every_listed (λ i. f (suc i)) n (λ i k. h (suc i) (omega arith)))

  pub every_any : ((x : A) → P x) → (xs : List A) → Every P xs
  every_any h [] = tt
  every_any h (x ∷ xs) = (h x, every_any h xs)

  pub every_map : {B : Type 0} (Q : B → Type 0) (f : A → B) (xs : List A) → ((x : A) → P x → Q (f x)) → Every P xs → Every Q (map f xs)
  every_map Q f [] h a = tt
  every_map Q f (x ∷ xs) h a = (h x a.0, every_map Q f xs h a.1)

  pub every_replicate : (n : ℕ) (x : A) → P x → Every P (replicate n x)
  every_replicate zero x h = tt
  every_replicate (suc n) x h = (h, every_replicate n x h)
