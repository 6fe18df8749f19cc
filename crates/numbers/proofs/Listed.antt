-- Laws of a list that is given by a function of the place. Assumes nothing.
use mathlib.Core.Path.{◌≡◌, refl, ap, ◌∙◌}
use mathlib.Core.List.{List, [], ◌∷◌, map}
use Prim.Native.Nat.{ℕ, zero, suc, ◌+◌, ◌≤◌, ◌<◌, min}
use native.Mathlib.Nat.{not-suc-le-zero, le_of_suc-le-suc}
use native.Mathlib.Numerals.{add-one}
use native.Mathlib.Omega.{arith}
use native.Mathlib.Decide.{dec_le}
use lib.ListN.{length, get_or, take, drop, replicate}
use lib.Seq.{take_all}
use Rattle.numbers.specs.Listed.{listed}

module _ {A : Type 0} where
  pub length_listed : (f : ℕ → A) (n : ℕ) → length (listed f n) ≡ n
  unfolding listed
  length_listed f zero = refl
  length_listed f (suc n) = ap suc (length_listed (λ i. f (suc i)) n)

  pub get_d_listed : (f : ℕ → A) (n i : ℕ) (d : A) → i < n → get_or (listed f n) i d ≡ f i
  unfolding listed
  get_d_listed f zero i d h = absurd (not-suc-le-zero h)
  get_d_listed f (suc n) zero d h = refl
  get_d_listed f (suc n) (suc i) d h = get_d_listed (λ j. f (suc j)) n i d (le_of_suc-le-suc h)

  pub listed_same : (f g : ℕ → A) (n : ℕ) → ((i : ℕ) → i < n → f i ≡ g i) → listed f n ≡ listed g n
  unfolding listed
  listed_same f g zero h = refl
  listed_same f g (suc n) h = rw (h 0 (omega arith), listed_same (λ i. f (suc i)) (λ i. g (suc i)) n (λ i k. h (suc i) (omega arith)))

  pub take_listed : (f : ℕ → A) (k n : ℕ) → k ≤ n → take k (listed f n) ≡ listed f k
  unfolding listed
  take_listed f zero n h = refl
  take_listed f (suc k) zero h = absurd (not-suc-le-zero h)
  take_listed f (suc k) (suc n) h = ap (λ (l : List A). f 0 ∷ l) (take_listed (λ i. f (suc i)) k n (le_of_suc-le-suc h))

  take_short : (f : ℕ → A) (k n : ℕ) → n ≤ k → take k (listed f n) ≡ listed f n
  take_short f k n h = take_all k (listed f n) (rw length_listed h)

  take_min : (f : ℕ → A) (k n : ℕ) → take k (listed f n) ≡ listed f (min k n)
  take_min f k n = elim (dec_le k n) [ yes h ↦ take_listed f k n h ∙ ap (listed f) (omega arith) | no h ↦ take_short f k n (omega arith) ∙ ap (listed f) (omega arith) ]

  -- g is f with l before it: its list is that of f with l before it, cut to c
  pub listed_push : (f g : ℕ → A) (l : A) (c n : ℕ) → 1 ≤ c → g 0 ≡ l → ((i : ℕ) → i + 1 < c → g (i + 1) ≡ f i)
      → listed g (min c (n + 1)) ≡ take c (l ∷ listed f n)
  unfolding listed
  listed_push f g l zero n p e k = absurd (not-suc-le-zero p)
  listed_push f g l (suc m) n p e k =
      let more : min (suc m) (n + 1) ≡ suc (min m n) = omega arith in
      ap (listed g) more ∙ rw (e, take_min f m n, listed_same (λ i. g (suc i)) f (min m n) (λ i h. rw add-one at (k i (omega arith))))

  -- n of the values from the d-th on
  pub slice_listed : (f : ℕ → A) (d n k : ℕ) → d + n ≤ k → take n (drop d (listed f k)) ≡ listed (λ j. f (d + j)) n
  unfolding listed
  slice_listed f zero n k h = take_listed f n k (omega arith) ∙ listed_same f (λ j. f (0 + j)) n (λ j _. ap f (omega arith))
  slice_listed f (suc d) n zero h = absurd (not-suc-le-zero {n = d} (omega arith))
  slice_listed f (suc d) n (suc k) h = slice_listed (λ j. f (suc j)) d n k (omega arith) ∙ listed_same (λ j. f (suc (d + j))) (λ j. f (suc d + j)) n (λ j _. ap f (omega arith))

  -- what is left from the i-th on begins with it
  pub drop_listed : (f : ℕ → A) (n i : ℕ) → i < n → drop i (listed f n) ≡ f i ∷ drop (i + 1) (listed f n)
  unfolding listed
  drop_listed f zero i h = absurd (not-suc-le-zero h)
  drop_listed f (suc n) zero h = refl
  drop_listed f (suc n) (suc i) h =
      let e : suc (i + 1) ≡ suc i + 1 = omega arith in
      drop_listed (λ j. f (suc j)) n i (le_of_suc-le-suc h) ∙ ap (λ (k : ℕ). f (suc i) ∷ drop k (listed f (suc n))) e

  -- and past the end there is nothing left
  pub drop_past : (f : ℕ → A) (n i : ℕ) → n ≤ i → drop i (listed f n) ≡ []
  unfolding listed
  drop_past f zero zero h = refl
  drop_past f zero (suc i) h = refl
  drop_past f (suc n) zero h = absurd (not-suc-le-zero h)
  drop_past f (suc n) (suc i) h = drop_past (λ j. f (suc j)) n i (le_of_suc-le-suc h)

  pub map_listed : {B : Type 0} (g : A → B) (f : ℕ → A) (n : ℕ) → map g (listed f n) ≡ listed (λ i. g (f i)) n
  unfolding listed
  map_listed g f zero = refl
  map_listed {B} g f (suc n) = ap (λ (l : List B). g (f 0) ∷ l) (map_listed g (λ i. f (suc i)) n)

  -- a list is that of its elements by their places
  pub listed_of : (xs : List A) (d : A) (f : ℕ → A) (n : ℕ) → length xs ≡ n → ((i : ℕ) → i < n → get_or xs i d ≡ f i) → xs ≡ listed f n
  unfolding listed
  listed_of [] d f zero e h = refl
  listed_of [] d f (suc n) e h = absurd (not-suc-le-zero {n = n} (omega arith))
  listed_of (x ∷ xs) d f zero e h = absurd (not-suc-le-zero {n = length xs} (omega arith))
  listed_of (x ∷ xs) d f (suc n) e h = λ i. h 0 (omega arith) i ∷ listed_of xs d (λ j. f (suc j)) n (omega arith) (λ j k. h (suc j) (omega arith)) i

  -- a list of one value throughout
  pub listed_constant : (a : A) (n : ℕ) → listed (λ _. a) n ≡ replicate n a
  unfolding listed
  listed_constant a zero = refl
  listed_constant a (suc n) = ap (λ (l : List A). a ∷ l) (listed_constant a n)
