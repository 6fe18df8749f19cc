-- What the search for a byte comes to, by the bytes on the way, and what its answer tells. Assumes nothing.
use mathlib.Core.Path.{◌≡◌, refl, sym, ap, ◌∙◌}
use mathlib.Core.Bool.{Bool}
use mathlib.Core.List.{List, [], ◌∷◌}
use Prim.Native.Nat.{ℕ, zero, suc, ◌+◌, ◌-◌, ◌≤◌, ◌<◌}
use native.Mathlib.Omega.{arith}
use lib.ListN.{length, get_or, drop, drop_of_length-le}
use borrow.Author.Tests.{eq-eqb, eqb-true, ne_eqb}
use Rattle.std.specs.Prelude.{Some, None, Option}
use Rattle.memchr.specs.Find.{IsFirstByte, is_byte}
use Rattle.frame_lines.specs.Search.{behind_if, here_if, first_of, place_from, place_of}

-- by the bytes that stand before it
pub first_is : (wanted : ℕ) (text : List ℕ) (n : ℕ) → n < length text → ((k : ℕ) → k < n → get_or text k 0 ≡ wanted → ⊥) → get_or text n 0 ≡ wanted → first_of wanted text ≡ Some n
unfolding first_of
first_is wanted [] n h f e = absurd (omega arith)
first_is wanted (b ∷ text) zero h f e = ap (λ (t : Bool). here_if t (first_of wanted text)) (eq-eqb b wanted e)
first_is wanted (b ∷ text) (suc n) h f e =
    ap (λ (t : Bool). here_if t (first_of wanted text)) (ne_eqb b wanted (f 0 (omega arith)))
    ∙ ap behind_if (first_is wanted text n (omega arith) (λ k l. f (suc k) (omega arith)) e)

pub none_is : (wanted : ℕ) (text : List ℕ) → ((k : ℕ) → k < length text → get_or text k 0 ≡ wanted → ⊥) → first_of wanted text ≡ None
unfolding first_of
none_is wanted [] f = refl
none_is wanted (b ∷ text) f =
    ap (λ (t : Bool). here_if t (first_of wanted text)) (ne_eqb b wanted (f 0 (omega arith)))
    ∙ ap behind_if (none_is wanted text (λ k l. f (suc k) (omega arith)))

-- by what `memchr` says of the bytes from a place on
module _ (wanted : ℕ) (bytes : List ℕ) (start : ℕ) (rest : List ℕ) (is : rest ≡ drop start bytes) where
  pub place_found : (n : ℕ) → IsFirstByte (is_byte wanted) rest (Some n) → Some (start + n) ≡ place_of wanted bytes start
  unfolding place_of
  place_found n f =
      let here : get_or rest n 0 ≡ wanted = eqb-true (get_or rest n 0) wanted f.1 in
      ap (place_from start) (sym (first_is wanted rest n f.0.high (λ k h e. f.0.before k (omega arith) h (eq-eqb (get_or rest k 0) wanted e)) here) ∙ ap (first_of wanted) is)

  pub place_lost : IsFirstByte (is_byte wanted) rest None → None ≡ place_of wanted bytes start
  unfolding place_of
  place_lost f = ap (place_from start) (sym (none_is wanted rest (λ k h e. f k (omega arith) h (eq-eqb (get_or rest k 0) wanted e))) ∙ ap (first_of wanted) is)

-- behind the end there is nothing
pub place_behind : (wanted : ℕ) (bytes : List ℕ) (start : ℕ) → length bytes ≤ start → None ≡ place_of wanted bytes start
unfolding place_of first_of
place_behind wanted bytes start h = sym (ap (λ (t : List ℕ). place_from start (first_of wanted t)) (drop_of_length-le bytes h))

-- ---- what it tells

pub found_if : (start e : ℕ) (o : Option ℕ) → place_from start o ≡ Some e → o ≡ Some (e - start)
found_if start e None p = let z : ◌≡◌ {A = ℕ} 0 1 = cc in absurd (omega arith)
found_if start e (Some n) p = let k : start + n ≡ e = cc in let m : n ≡ e - start = omega arith in ap Some m

pub least_if : (start e : ℕ) (o : Option ℕ) → place_from start o ≡ Some e → start ≤ e
least_if start e None p = let z : ◌≡◌ {A = ℕ} 0 1 = cc in absurd (omega arith)
least_if start e (Some n) p = let k : start + n ≡ e = cc in omega arith

pub lost_if : (start : ℕ) (o : Option ℕ) → place_from start o ≡ None → o ≡ None
lost_if start None p = refl
lost_if start (Some n) p = let z : ◌≡◌ {A = ℕ} 0 1 = cc in absurd (omega arith)
