-- A loop that replaces the elements of an array one by one: what holds at each turn. Assumes nothing.
use mathlib.Core.Path.{◌≡◌, refl, sym, subst, ◌∙◌}
use mathlib.Core.List.{List}
use Prim.Native.Nat.{ℕ, ◌+◌, ◌≤◌, ◌<◌}
use native.Mathlib.Nat.{not-suc-le-zero}
use native.Mathlib.Omega.{arith}
use native.Mathlib.Decide.{dec_lt}
use lib.ListN.{length, get_or, set, length-set}
use lib.Seq.{get_or-set_same, get_or-set_other}

-- The first n elements of ys stand in the relation R to those of xs, and the others are those of xs. d is what lies past the end.
pub record Replaced {A : Type 0} (d : A) (R : ℕ → A → A → Type 0) (n : ℕ) (xs ys : List A) : Type 0 where
  pub same_length : length ys ≡ length xs
  pub done : (i : ℕ) → i < n → R i (get_or xs i d) (get_or ys i d)
  pub rest : (i : ℕ) → n ≤ i → get_or ys i d ≡ get_or xs i d

module _ {A : Type 0} (d : A) (R : ℕ → A → A → Type 0) (xs : List A) where
  pub replaced_none : Replaced d R 0 xs xs
  replaced_none = record { same_length = refl; done = λ i h. absurd (not-suc-le-zero h); rest = λ i h. refl }

  pub replaced_more : (n : ℕ) (ys : List A) (y : A) → Replaced d R n xs ys → n < length xs → R n (get_or ys n d) y → Replaced d R (n + 1) xs (set ys n y)
  replaced_more n ys y p h r = record {
    same_length = simp length-set p.same_length;
    done = λ i k. elim (dec_lt i n) [
      | yes l ↦ subst (R i (get_or xs i d)) (sym (get_or-set_other ys n i y d (λ e. omega arith))) (p.done i l)
      | no l ↦ at i (omega arith)
    ];
    rest = λ i k. get_or-set_other ys n i y d (λ e. omega arith) ∙ p.rest i (omega arith);
  }
    where
      here : R n (get_or xs n d) (get_or (set ys n y) n d)
      here = subst (λ (a : A). R n a (get_or (set ys n y) n d)) (p.rest n (omega arith)) (subst (R n (get_or ys n d)) (sym (get_or-set_same ys n y d (omega (arith, p.same_length)))) r)

      at : (i : ℕ) → i ≡ n → R i (get_or xs i d) (get_or (set ys n y) i d)
      at i e = subst (λ (k : ℕ). R k (get_or xs k d) (get_or (set ys n y) k d)) (sym e) here
