-- What near tests can lead to in one estimate: the code's three numbers are what is reached, the least and the largest of it. Assumes nothing.
use mathlib.Core.Path.{◌≡◌, refl, sym, subst}
use mathlib.Core.Logic.{◌⊎◌, inl, inr, ⊎_elim, ◌↔◌}
use mathlib.Core.Bool.{Bool, true, false, cond}
use Prim.Native.Nat.{ℕ, ◌≤◌, min, max}
use native.Mathlib.Omega.{arith}
use native.Mathlib.Decide.{dec_le}
use borrow.Author.Tests.{ltb-true, ltb-false, lt-ltb}
use Rattle.numbers.proofs.Signs.{clash}
use Rattle.clipping_predictor.specs.declared.modes.Estimated.{Estimated}
use Rattle.clipping_predictor.specs.Tree.{Tree, leaf, test, reached}
use Rattle.clipping_predictor.specs.Turned.{Turned, only, beside, estimated, is_near}

-- ---- one test: it may be answered b if it is answered so, or is near

module _ {A : Type 0} (held failed : Tree A) (a : A) where
  pub turned_way : (outcome near b : Bool) → (near ≡ false → b ≡ outcome) → Turned (cond b held failed) a → Turned (test outcome near held failed) a
  unfolding Turned
  turned_way true false true e t = t
  turned_way true false false e t = clash (sym (e refl))
  turned_way false false true e t = clash (e refl)
  turned_way false false false e t = t
  turned_way true true true e t = inl t
  turned_way true true false e t = inr t
  turned_way false true true e t = inr t
  turned_way false true false e t = inl t

  pub way_turned : (outcome near : Bool) → Turned (test outcome near held failed) a → (b : Bool) × (near ≡ false → b ≡ outcome) × Turned (cond b held failed) a
  unfolding Turned
  way_turned true false t = (true, λ e. refl, t)
  way_turned false false t = (false, λ e. refl, t)
  way_turned true true (inl t) = (true, λ e. refl, t)
  way_turned true true (inr t) = (false, λ e. clash e, t)
  way_turned false true (inl t) = (false, λ e. refl, t)
  way_turned false true (inr t) = (true, λ e. clash e, t)

-- ---- the ends

-- of the numbers that P holds of, the drop is one, and the ends are the least and the largest
pub record Spread (P : ℕ → Type 0) (e : Estimated) : Type 0 where
  pub drop_in : P e.drop
  pub low_in : P e.low
  pub high_in : P e.high
  pub low_le : (v : ℕ) → P v → e.low ≤ v
  pub le_high : (v : ℕ) → P v → v ≤ e.high

-- the same numbers, said in another way
pub spread_as : {P Q : ℕ → Type 0} {e : Estimated} → ((v : ℕ) → P v → Q v) → ((v : ℕ) → Q v → P v) → Spread P e → Spread Q e
spread_as {e = e} f g s = record {
  drop_in = f e.drop s.drop_in;
  low_in = f e.low s.low_in;
  high_in = f e.high s.high_in;
  low_le = λ v m. s.low_le v (g v m);
  le_high = λ v m. s.le_high v (g v m);
}

pub one_spread : (n : ℕ) → Spread (λ (v : ℕ). n ≡ v) (only n)
one_spread n = record { drop_in = refl; low_in = refl; high_in = refl; low_le = λ v e. omega arith; le_high = λ v e. omega arith }

-- n is one of two numbers
smaller_in : (P Q : ℕ → Type 0) (a b : ℕ) → P a → Q b → P (min a b) ⊎ Q (min a b)
smaller_in P Q a b p q = elim (dec_le a b) [ yes h ↦ inl (subst P (omega arith) p) | no h ↦ inr (subst Q (omega (arith, h)) q) ]

larger_in : (P Q : ℕ → Type 0) (a b : ℕ) → P a → Q b → P (max a b) ⊎ Q (max a b)
larger_in P Q a b p q = elim (dec_le a b) [ yes h ↦ inr (subst Q (omega arith) q) | no h ↦ inl (subst P (omega (arith, h)) p) ]

beside_spread : {P Q : ℕ → Type 0} (a b : Estimated) → Spread P a → Spread Q b → Spread (λ (v : ℕ). P v ⊎ Q v) (beside a b)
beside_spread {P} {Q} a b s t = record {
  drop_in = inl s.drop_in;
  low_in = smaller_in P Q a.low b.low s.low_in t.low_in;
  high_in = larger_in P Q a.high b.high s.high_in t.high_in;
  low_le = λ v m. ⊎_elim (λ p. omega (arith, s.low_le v p)) (λ q. omega (arith, t.low_le v q)) m;
  le_high = λ v m. ⊎_elim (λ p. omega (arith, s.le_high v p)) (λ q. omega (arith, t.le_high v q)) m;
}

-- THE SPREAD of an estimate
pub turned_spread : (t : Tree ℕ) → Spread (Turned t) (estimated t)
unfolding Turned estimated
turned_spread (leaf n) = one_spread n
turned_spread (test true false held failed) = turned_spread held
turned_spread (test false false held failed) = turned_spread failed
turned_spread (test true true held failed) = beside_spread (estimated held) (estimated failed) (turned_spread held) (turned_spread failed)
turned_spread (test false true held failed) = beside_spread (estimated failed) (estimated held) (turned_spread failed) (turned_spread held)

-- its drop is what the tests lead to
pub drop_reached : (t : Tree ℕ) → (estimated t).drop ≡ reached t
unfolding estimated reached
drop_reached (leaf n) = refl
drop_reached (test true false held failed) = drop_reached held
drop_reached (test false false held failed) = drop_reached failed
drop_reached (test true true held failed) = drop_reached held
drop_reached (test false true held failed) = drop_reached failed

-- THE MARK of an estimate: its ends differ exactly if one of the numbers is not its drop
pub near_exactly : {P : ℕ → Type 0} (e : Estimated) → Spread P e → (is_near e ≡ true) ↔ ((v : ℕ) × P v × (v ≡ e.drop → ⊥))
near_exactly {P} e s = (other, apart)
  where
    other : is_near e ≡ true → (v : ℕ) × P v × (v ≡ e.drop → ⊥)
    other n =
        let l = ltb-true e.low e.high n in
        elim (dec_le e.high e.drop) [ yes h ↦ (e.low, s.low_in, λ q. omega arith) | no h ↦ (e.high, s.high_in, λ q. h (omega (arith, q))) ]

    apart : ((v : ℕ) × P v × (v ≡ e.drop → ⊥)) → is_near e ≡ true
    apart m =
        elim (dec_le e.high e.low) [
          | yes h ↦ absurd (m.2 (omega (arith, s.low_le m.0 m.1, s.le_high m.0 m.1, s.low_le e.drop s.drop_in, s.le_high e.drop s.drop_in)))
          | no h ↦ lt-ltb e.low e.high (omega (arith, h))
        ]

-- unmarked, all of them are its drop
pub unmarked_only : {P : ℕ → Type 0} (e : Estimated) → Spread P e → is_near e ≡ false → (v : ℕ) → P v → e.drop ≡ v
unmarked_only e s m v p = omega (arith, ltb-false e.low e.high m, s.low_le v p, s.le_high v p, s.low_le e.drop s.drop_in, s.le_high e.drop s.drop_in)
