-- A table's rule: a test that is computed over the whole table, carried to each entry. Assumes nothing.
use mathlib.Core.Bool.{Bool, true, ◌&&◌}
use mathlib.Core.List.{List, [], ◌∷◌}
use Prim.Native.Nat.{ℕ, zero, suc, ◌≤◌, ◌<◌}
use native.Mathlib.Nat.{le_of_suc-le-suc, not-suc-le-zero}
use lib.Dec.{T}
use lib.Ieee.Fits.{and_l, and_r}
use lib.ListN.{length, get_or}

-- each entry passes
abbrev pub every : {A : Type 0} → (A → Bool) → List A → Bool
every p [] = true
every p (x ∷ l) = p x && every p l

pub at_each : {A : Type 0} (d : A) (p : A → Bool) (l : List A) → T (every p l) → (i : ℕ) → i < length l → T (p (get_or l i d))
at_each d p [] t i h = absurd (not-suc-le-zero h)
at_each d p (x ∷ l) t zero h = and_l (p x) (every p l) t
at_each d p (x ∷ l) t (suc i) h = at_each d p l (and_r (p x) (every p l) t) i (le_of_suc-le-suc h)

-- each entry passes together with the next
abbrev pub chained : {A : Type 0} → (A → A → Bool) → List A → Bool
chained r [] = true
chained r (x ∷ []) = true
chained r (x ∷ (y ∷ l)) = r x y && chained r (y ∷ l)

later : {A : Type 0} (r : A → A → Bool) (x : A) (l : List A) → T (chained r (x ∷ l)) → T (chained r l)
later r x [] t = tt
later r x (y ∷ l) t = and_r (r x y) (chained r (y ∷ l)) t

-- R is an order, and r its test
module _ {A : Type 0} (d : A) (R : A → A → Type 0) (same : (x : A) → R x x) (joined : (x y z : A) → R x y → R y z → R x z) (r : A → A → Bool) (passed : (x y : A) → T (r x y) → R x y) where
  from_first : (x : A) (l : List A) → T (chained r (x ∷ l)) → (j : ℕ) → j < length (x ∷ l) → R x (get_or (x ∷ l) j d)
  from_first x l t zero h = same x
  from_first x [] t (suc j) h = absurd (not-suc-le-zero (le_of_suc-le-suc h))
  from_first x (y ∷ l) t (suc j) h =
      joined x y (get_or (y ∷ l) j d) (passed x y (and_l (r x y) (chained r (y ∷ l)) t)) (from_first y l (and_r (r x y) (chained r (y ∷ l)) t) j (le_of_suc-le-suc h))

  -- an order that holds from each entry to the next holds from each entry to any later one
  pub in_order : (l : List A) → T (chained r l) → (i j : ℕ) → i ≤ j → j < length l → R (get_or l i d) (get_or l j d)
  in_order [] t i j p h = absurd (not-suc-le-zero h)
  in_order (x ∷ l) t zero j p h = from_first x l t j h
  in_order (x ∷ l) t (suc i) zero p h = absurd (not-suc-le-zero p)
  in_order (x ∷ l) t (suc i) (suc j) p h = in_order l (later r x l t) i j (le_of_suc-le-suc p) (le_of_suc-le-suc h)
