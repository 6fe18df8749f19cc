-- Laws of tests and of lists: a test over a part of a list, a part of a part, maps and repeated values. Assumes nothing.
use mathlib.Core.Path.{◌≡◌, refl, sym, ap}
use mathlib.Core.Bool.{Bool, true, false, not, ◌&&◌}
use mathlib.Core.List.{List, [], ◌∷◌, ◌++◌, map}
use Prim.Native.Nat.{ℕ, zero, suc}
use native.Mathlib.Omega.{arith}
use lib.Dec.{T}
use lib.ListN.{take, drop, replicate}
use lib.Seq.{take-take, take-nil}
use Rattle.numbers.specs.Listed.{listed}
use Rattle.claims.specs.LeadIn.{all}

-- ---- tests

pub and_l : (a b : Bool) → T (a && b) → T a
and_l true b t = tt
and_l false b t = t

pub and_r : (a b : Bool) → T (a && b) → T b
and_r true b t = t
and_r false b t = absurd t

pub and_both : (a b : Bool) → T a → T b → T (a && b)
and_both true b t u = u
and_both false b t u = t

pub is_true : (b : Bool) → T b → b ≡ true
is_true true t = refl
is_true false t = absurd t

pub is_false : (b : Bool) → T (not b) → b ≡ false
is_false true t = absurd t
is_false false t = refl

-- ---- parts of lists

pub take_comm : {A : Type 0} (a b : ℕ) (xs : List A) → take a (take b xs) ≡ take b (take a xs)
take_comm zero b xs = sym (take-nil b)
take_comm (suc a) zero xs = refl
take_comm (suc a) (suc b) [] = refl
take_comm {A} (suc a) (suc b) (x ∷ xs) = ap (λ (r : List A). x ∷ r) (take_comm a b xs)

pub take_cons_take : {A : Type 0} (a : ℕ) (x : A) (xs : List A) → take a (x ∷ take a xs) ≡ take a (x ∷ xs)
take_cons_take zero x xs = refl
take_cons_take {A} (suc a) x xs = ap (λ (r : List A). x ∷ r) (take-take a (suc a) xs (omega arith))

pub all_take : {A : Type 0} (f : A → Bool) (k : ℕ) (xs : List A) → T (all f xs) → T (all f (take k xs))
unfolding all
all_take f zero xs t = tt
all_take f (suc k) [] t = tt
all_take f (suc k) (x ∷ xs) t = and_both (f x) (all f (take k xs)) (and_l (f x) (all f xs) t) (all_take f k xs (and_r (f x) (all f xs) t))

pub all_drop : {A : Type 0} (f : A → Bool) (k : ℕ) (xs : List A) → T (all f xs) → T (all f (drop k xs))
unfolding all
all_drop f zero xs t = t
all_drop f (suc k) [] t = tt
all_drop f (suc k) (x ∷ xs) t = all_drop f k xs (and_r (f x) (all f xs) t)

pub all_listed : {A : Type 0} (f : A → Bool) (g : ℕ → A) (n : ℕ) → ((i : ℕ) → T (f (g i))) → T (all f (listed g n))
unfolding all listed
all_listed f g zero h = tt
all_listed f g (suc n) h = and_both (f (g 0)) (all f (listed (λ i. g (suc i)) n)) (h 0) (all_listed f (λ i. g (suc i)) n (λ i. h (suc i)))

pub all_left : {A : Type 0} (f : A → Bool) (xs ys : List A) → T (all f (xs ++ ys)) → T (all f xs)
unfolding all
all_left f [] ys t = tt
all_left f (x ∷ xs) ys t = and_both (f x) (all f xs) (and_l (f x) _ t) (all_left f xs ys (and_r (f x) _ t))

pub all_right : {A : Type 0} (f : A → Bool) (xs ys : List A) → T (all f (xs ++ ys)) → T (all f ys)
unfolding all
all_right f [] ys t = t
all_right f (x ∷ xs) ys t = all_right f xs ys (and_r (f x) _ t)

-- ---- maps

pub map_same : {A B : Type 0} (f g : A → B) (xs : List A) → ((x : A) → f x ≡ g x) → map f xs ≡ map g xs
map_same f g [] h = refl
map_same {B = B} f g (x ∷ xs) h = λ i. h x i ∷ map_same f g xs h i

pub map_replicate : {A B : Type 0} (f : A → B) (n : ℕ) (a : A) → map f (replicate n a) ≡ replicate n (f a)
map_replicate f zero a = refl
map_replicate {B = B} f (suc n) a = ap (λ (r : List B). f a ∷ r) (map_replicate f n a)
