-- The joined drops that choices in several channels can reach. Assumes nothing.
use mathlib.Core.Path.{◌≡◌, refl, sym, ap, ◌∙◌, subst}
use mathlib.Core.Logic.{◌⊎◌, inl, inr, ⊎_elim, ◌↔◌}
use mathlib.Core.List.{List, [], ◌∷◌, map, foldl}
use Prim.Native.Nat.{ℕ, ◌≤◌, max}
use native.Mathlib.Omega.{arith}
use native.Mathlib.Decide.{dec_le}
use Rattle.clipping_predictor.specs.declared.modes.Estimated.{Estimated}
use Rattle.clipping_predictor.specs.Turned.{Each, only}
use Rattle.clipping_predictor.specs.AllRings.{joined}
use Rattle.clipping_predictor.proofs.Turns.{Spread, spread_as, one_spread}

-- a choice for each of the channels xs, where R says what a channel can come to, and n before them, joins to v
pub record ChosenFrom {A : Type 0} (P : ℕ → Type 0) (R : A → ℕ → Type 0) (xs : List A) (v : ℕ) : Type 0 where
  pub first : ℕ
  pub is_first : P first
  pub drops : List ℕ
  pub each : Each R xs drops
  pub is : foldl max first drops ≡ v

abbrev pub Chosen : {A : Type 0} → (A → ℕ → Type 0) → List A → ℕ → Type 0
Chosen R xs v = ChosenFrom (λ (n : ℕ). 0 ≡ n) R xs v

record Joined (P Q : ℕ → Type 0) (v : ℕ) : Type 0 where
  one : ℕ
  two : ℕ
  is_one : P one
  is_two : Q two
  is : v ≡ max one two

joined_spread : {P Q : ℕ → Type 0} (a b : Estimated) → Spread P a → Spread Q b → Spread (Joined P Q) (joined a b)
joined_spread a b s t = record {
  drop_in = record { one = a.drop; two = b.drop; is_one = s.drop_in; is_two = t.drop_in; is = refl };
  low_in = record { one = a.low; two = b.low; is_one = s.low_in; is_two = t.low_in; is = refl };
  high_in = record { one = a.high; two = b.high; is_one = s.high_in; is_two = t.high_in; is = refl };
  low_le = λ v m. omega (arith, m.is, s.low_le m.one m.is_one, t.low_le m.two m.is_two);
  le_high = λ v m. omega (arith, m.is, s.le_high m.one m.is_one, t.le_high m.two m.is_two);
}

module _ {A : Type 0} (R : A → ℕ → Type 0) where
  -- with no channel left the choice is made
  none_left : (P : ℕ → Type 0) (v : ℕ) → ChosenFrom P R [] v → P v
  unfolding Each
  none_left P v c = go c.drops c.each c.is
    where
      go : (ds : List ℕ) → Each R [] ds → foldl max c.first ds ≡ v → P v
      go [] e q = subst P q c.is_first
      go (d ∷ ds) e q = absurd e

  -- a channel joined to those before it is one of those before the rest
  one_more : (P : ℕ → Type 0) (x : A) (xs : List A) (v : ℕ) → ChosenFrom (Joined P (R x)) R xs v → ChosenFrom P R (x ∷ xs) v
  unfolding Each
  one_more P x xs v c =
      let j = c.is_first in
      record { first = j.one; is_first = j.is_one; drops = j.two ∷ c.drops; each = (j.is_two, c.each); is = ap (λ (n : ℕ). foldl max n c.drops) (sym j.is) ∙ c.is }

  one_fewer : (P : ℕ → Type 0) (x : A) (xs : List A) (v : ℕ) → ChosenFrom P R (x ∷ xs) v → ChosenFrom (Joined P (R x)) R xs v
  unfolding Each
  one_fewer P x xs v c = go c.drops c.each c.is
    where
      go : (ds : List ℕ) → Each R (x ∷ xs) ds → foldl max c.first ds ≡ v → ChosenFrom (Joined P (R x)) R xs v
      go [] e q = absurd e
      go (d ∷ ds) e q =
          record { first = max c.first d; is_first = record { one = c.first; two = d; is_one = c.is_first; is_two = e.0; is = refl }; drops = ds; each = e.1; is = q }

  module _ (f : A → Estimated) (spread : (x : A) → Spread (R x) (f x)) where
    from_spread : (xs : List A) (P : ℕ → Type 0) (e : Estimated) → Spread P e → Spread (ChosenFrom P R xs) (foldl joined e (map f xs))
    unfolding Each
    from_spread [] P e s = spread_as (λ v p. record { first = v; is_first = p; drops = []; each = tt; is = refl }) (none_left P) s
    from_spread (x ∷ xs) P e s =
        spread_as (one_more P x xs) (one_fewer P x xs) (from_spread xs (Joined P (R x)) (joined e (f x)) (joined_spread e (f x) s (spread x)))

    -- THE SPREAD of all channels
    pub chosen_spread : (xs : List A) → Spread (Chosen R xs) (foldl joined (only 0) (map f xs))
    chosen_spread xs = from_spread xs (λ (n : ℕ). 0 ≡ n) (only 0) (one_spread 0)

  -- ---- which drops can be joined to

  -- v is a member of one of the sets
  pub InOne : ℕ → List A → Type 0
  InOne v [] = ⊥
  InOne v (x ∷ xs) = R x v ⊎ InOne v xs

  -- each set has a member up to v
  AllReach : ℕ → List A → Type 0
  AllReach v [] = Unit {0}
  AllReach v (x ∷ xs) = ((a : ℕ) × R x a × (a ≤ v)) × AllReach v xs

  max_grows : (n : ℕ) (ds : List ℕ) → n ≤ foldl max n ds
  max_grows n [] = omega arith
  max_grows n (d ∷ ds) = omega (arith, max_grows (max n d) ds)

  larger_of : (n d v : ℕ) → max n d ≡ v → (n ≡ v) ⊎ (d ≡ v)
  larger_of n d v e = elim (dec_le n d) [ yes h ↦ inr (omega arith) | no h ↦ inl (omega (arith, h)) ]

  choice_in : (n v : ℕ) (xs : List A) (ds : List ℕ) → Each R xs ds → foldl max n ds ≡ v → ((n ≡ v) ⊎ InOne v xs) × AllReach v xs
  unfolding Each InOne AllReach
  choice_in n v [] [] e q = (inl q, tt)
  choice_in n v [] (d ∷ ds) e q = absurd e
  choice_in n v (x ∷ xs) [] e q = absurd e
  choice_in n v (x ∷ xs) (d ∷ ds) e q =
      let r = choice_in (max n d) v xs ds e.1 q in (
        ⊎_elim (λ m. ⊎_elim (λ k. inl k) (λ k. inr (inl (subst (R x) k e.0))) (larger_of n d v m)) (λ m. inr (inr m)) r.0,
        ((d, e.0, omega (arith, max_grows (max n d) ds, q)), r.1),
      )

  abbrev Choice : ℕ → ℕ → List A → Type 0
  Choice n v xs = (ds : List ℕ) × Each R xs ds × (foldl max n ds ≡ v)

  chosen_first : (n v : ℕ) (x : A) (xs : List A) (d : ℕ) → R x d → Choice (max n d) v xs → Choice n v (x ∷ xs)
  unfolding Each
  chosen_first n v x xs d e c = (d ∷ c.0, (e, c.1), c.2)

  in_choice : (n v : ℕ) (xs : List A) → n ≤ v → (n ≡ v) ⊎ InOne v xs → AllReach v xs → Choice n v xs
  unfolding Each InOne AllReach
  in_choice n v [] h m r = ⊎_elim {C = Choice n v []} (λ e. ([], tt, e)) (λ k. absurd k) m
  in_choice n v (x ∷ xs) h m r =
      ⊎_elim {C = Choice n v (x ∷ xs)}
      (λ e. chosen_first n v x xs r.0.0 r.0.1 (in_choice (max n r.0.0) v xs (omega (arith, r.0.2)) (inl (omega (arith, e, r.0.2))) r.1))
      (⊎_elim {C = Choice n v (x ∷ xs)}
      (λ e. chosen_first n v x xs v e (in_choice (max n v) v xs (omega arith) (inl (omega arith)) r.1))
      (λ k. chosen_first n v x xs r.0.0 r.0.1 (in_choice (max n r.0.0) v xs (omega (arith, r.0.2)) (inr k) r.1)))
      m

  chosen_law : (v : ℕ) (x : A) (xs : List A) → Chosen R (x ∷ xs) v ↔ (InOne v (x ∷ xs) × AllReach v (x ∷ xs))
  unfolding InOne AllReach
  chosen_law v x xs = (out, into)
    where
      -- 0, with which the joining begins, is a member of the first set where it is a choice
      out : Chosen R (x ∷ xs) v → InOne v (x ∷ xs) × AllReach v (x ∷ xs)
      out c =
          let r = choice_in c.first v (x ∷ xs) c.drops c.each c.is in
          (⊎_elim (λ e. inl (subst (R x) (omega (arith, e, c.is_first, r.1.0.2)) r.1.0.1)) (λ m. m) r.0, r.1)

      into : InOne v (x ∷ xs) × AllReach v (x ∷ xs) → Chosen R (x ∷ xs) v
      into p = let c = in_choice 0 v (x ∷ xs) (omega arith) (inr p.0) p.1 in record { first = 0; is_first = refl; drops = c.0; each = c.1; is = c.2 }

  -- each set reaches v exactly if v is at least the largest of their least members
  all_reach : (f : A → Estimated) → ((x : A) → Spread (R x) (f x)) → (v : ℕ) (xs : List A) (e : Estimated) → ((foldl joined e (map f xs)).low ≤ v) ↔ ((e.low ≤ v) × AllReach v xs)
  unfolding AllReach
  all_reach f spread v [] e = (λ h. (h, tt), λ p. p.0)
  all_reach f spread v (x ∷ xs) e =
      let below = all_reach f spread v xs (joined e (f x)) in (
        λ h. let p = below.0 h in (omega (arith, p.0), (((f x).low, (spread x).low_in, omega (arith, p.0)), p.1)),
        λ p. below.1 (omega (arith, p.0, p.1.0.2, (spread x).low_le p.1.0.0 p.1.0.1), p.1.1),
      )

  -- THE LAW of the joined drops: exactly those members of all sets that are at least the largest of the sets' least members
  pub joined_drops : (f : A → Estimated) → ((x : A) → Spread (R x) (f x)) → (v : ℕ) (x : A) (xs : List A)
      → Chosen R (x ∷ xs) v ↔ (InOne v (x ∷ xs) × ((foldl joined (only 0) (map f (x ∷ xs))).low ≤ v))
  joined_drops f spread v x xs =
      let law = chosen_law v x xs in
      let reach = all_reach f spread v (x ∷ xs) (only 0) in
      (λ c. let r = law.0 c in (r.0, reach.1 (omega arith, r.1)), λ p. law.1 (p.0, (reach.0 p.1).1))
