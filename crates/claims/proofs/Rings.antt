-- Rings during the lead-in, against `grown`, the list of all records that the lead-in gave so far: what of each ring is known. Assumes nothing.
use mathlib.Core.Path.{◌≡◌, refl, sym, ap, ◌∙◌, subst}
use mathlib.Core.List.{List, [], ◌∷◌, map}
use mathlib.Core.Bool.{Bool}
use Prim.Native.Nat.{ℕ, zero, suc, ◌≤◌}
use native.Mathlib.Omega.{arith}
use lib.Dec.{T}
use lib.ListN.{length, take, replicate}
use lib.Seq.{take-take, take-nil, take_all}
use Rattle.clipping_predictor_level_buffer.specs.declared.level.Level.{Level}
use Rattle.clipping_predictor.specs.Predictor.{push_each}
use Rattle.claims.specs.LeadIn.{all}
use Rattle.claims.proofs.Lists.{and_l, and_r, and_both, take_comm, take_cons_take, all_take}
use Rattle.claims.proofs.Kept.{Small}

-- one record more for each channel, newest first
unfoldable pub grow : List Level → List (List Level) → List (List Level)
grow levels [] = []
grow [] (g ∷ grown) = g ∷ grown
grow (l ∷ levels) (g ∷ grown) = (l ∷ g) ∷ grow levels grown

-- the newest m records of each ring are those of `grown`, cut to the capacity, and the newest k pass the test f
abbrev pub Match : (Level → Bool) → ℕ → ℕ → ℕ → List (List Level) → List (List Level) → Type 0
Match f capacity m k [] [] = Unit {0}
Match f capacity m k [] (g ∷ grown) = ⊥
Match f capacity m k (r ∷ rings) [] = ⊥
Match f capacity m k (r ∷ rings) (g ∷ grown) = (take m r ≡ take capacity (take m g)) × (T (all f (take k r))) × Match f capacity m k rings grown

-- at first nothing is known
pub match_start : (f : Level → Bool) (capacity n : ℕ) (rings : List (List Level)) → length rings ≡ n → Match f capacity 0 0 rings (replicate n [])
unfolding all
match_start f capacity zero [] e = tt
match_start f capacity zero (r ∷ rings) e = absurd (omega (arith, e))
match_start f capacity (suc n) [] e = absurd (omega (arith, e))
match_start f capacity (suc n) (r ∷ rings) e = (sym (take-nil capacity), tt, match_start f capacity n rings (omega (arith, e)))

-- a push of records that pass the test
pub match_push : (f : Level → Bool) (capacity m k : ℕ) (levels : List Level) (rings grown : List (List Level)) → length levels ≡ length rings → T (all f levels)
    → Match f capacity m k rings grown → Match f capacity (suc m) (suc k) (push_each capacity levels rings) (grow levels grown)
unfolding push_each grow all
match_push f capacity m k levels [] [] e t h = tt
match_push f capacity m k levels [] (g ∷ grown) e t h = absurd h
match_push f capacity m k levels (r ∷ rings) [] e t h = absurd h
match_push f capacity m k [] (r ∷ rings) (g ∷ grown) e t h = absurd (omega (arith, e))
match_push f capacity m k (l ∷ levels) (r ∷ rings) (g ∷ grown) e t h = (
  take_comm (suc m) capacity (l ∷ r) ∙ ap (λ (x : List Level). take capacity (l ∷ x)) h.0 ∙ take_cons_take capacity l (take m g),
  subst (λ (x : List Level). T (all f x)) (sym (take_comm (suc k) capacity (l ∷ r)))
      (all_take f capacity (l ∷ take k r) (and_both (f l) (all f (take k r)) (and_l (f l) (all f levels) t) h.1)),
  match_push f capacity m k levels rings grown (omega (arith, e)) (and_r (f l) (all f levels) t) h.2,
)

-- an emptied ring: nothing is known of it but that it has no record that fails the test
pub match_empty : (f : Level → Bool) (capacity m k : ℕ) (rings grown : List (List Level)) → Match f capacity m k rings grown
    → Match f capacity 0 k (map (λ (r : List Level). []) rings) grown
unfolding all
match_empty f capacity m k [] [] h = tt
match_empty f capacity m k [] (g ∷ grown) h = absurd h
match_empty f capacity m k (r ∷ rings) [] h = absurd h
match_empty f capacity m k (r ∷ rings) (g ∷ grown) h =
    (sym (take-nil capacity), subst (λ (x : List Level). T (all f x)) (sym (take-nil k)) tt, match_empty f capacity m k rings grown h.2)

-- where all of a ring is known, it is cut from `grown`
pub match_full : (f : Level → Bool) (capacity m k : ℕ) (rings grown : List (List Level)) → capacity ≤ m → Small capacity rings → Match f capacity m k rings grown
    → rings ≡ map (take capacity) grown
match_full f capacity m k [] [] c b h = refl
match_full f capacity m k [] (g ∷ grown) c b h = absurd h
match_full f capacity m k (r ∷ rings) [] c b h = absurd h
match_full f capacity m k (r ∷ rings) (g ∷ grown) c b h =
    let a : length r ≤ m = omega arith in
    ap (λ (x : List Level). x ∷ rings) (sym (take_all m r a) ∙ h.0 ∙ take-take capacity m g c)
    ∙ ap (λ (x : List (List Level)). take capacity g ∷ x) (match_full f capacity m k rings grown c b.1 h.2)
