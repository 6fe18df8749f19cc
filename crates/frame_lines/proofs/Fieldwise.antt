-- The fields of a line, one behind the other. Assumes nothing.
use mathlib.Core.Path.{◌≡◌, refl, sym, ap, ◌∙◌}
use mathlib.Core.Bool.{Bool, true, false, ◌&&◌, ◌||◌, not}
use mathlib.Core.List.{List, [], ◌∷◌, ◌++◌, map, append-nil, map-append}
use Prim.Native.Nat.{ℕ, ◌<◌}
use native.Mathlib.Nat.{not-suc-le-zero}
use native.Mathlib.Omega.{arith}
use lib.Dec.{leb}
use lib.ListN.{length}
use borrow.Author.Tests.{leb-true, ne_eqb, lt-leb}
use Rattle.frame_lines.specs.Digits.{is_decimal, is_letter, is_digit, are_digits}
use Rattle.frame_lines.specs.Forgiven.{is_capital, lowered_if, lowered, is_space, begins_field, field_if, fields_in, spaced, with_samples}
use Rattle.frame_lines.proofs.Tests.{both, and_false}

-- ---- a text without a blank

abbrev pub blankless : List ℕ → Bool
blankless [] = true
blankless (c ∷ text) = not (is_space c) && blankless text

-- it is one field where a blank or nothing follows
module _ (rest : List ℕ) (ends : begins_field rest ≡ false) where
  field_if_lem : (c : ℕ) (f : List ℕ) (t : Bool) → is_space c ≡ t → (not t && blankless f) ≡ true → (0 < length f → blankless f ≡ true → fields_in (f ++ rest) ≡ f ∷ fields_in rest)
      → field_if t (begins_field (f ++ rest)) c (fields_in (f ++ rest)) ≡ (c ∷ f) ∷ fields_in rest
  field_if_lem c f true p e h = let z : ◌≡◌ {A = ℕ} 0 1 = cc in absurd (omega arith)
  field_if_lem c [] false p e h = ap (λ (t : Bool). field_if false t c (fields_in rest)) ends
  field_if_lem c (d ∷ f) false p e h =
      let b = both (not (is_space d)) (blankless f) e in
      λ i. field_if false (b.first i) c (h (omega arith) e i)

  pub field_first : (f : List ℕ) → 0 < length f → blankless f ≡ true → fields_in (f ++ rest) ≡ f ∷ fields_in rest
  unfolding fields_in
  field_first [] h e = absurd (not-suc-le-zero h)
  field_first (c ∷ f) h e = field_if_lem c f (is_space c) refl e (field_first f)

-- ---- a line of four fields, of which the last may be empty

abbrev pub four_fields : List ℕ → List ℕ → List ℕ → List ℕ → List ℕ
four_fields a b c d = spaced (a ∷ b ∷ c ∷ d ∷ [])

module _ (a b c : List ℕ) (p : 0 < length a) (q : 0 < length b) (r : 0 < length c) (u : blankless a ≡ true) (v : blankless b ≡ true) (w : blankless c ≡ true) where
  heads_first : (d : List ℕ) → fields_in (four_fields a b c d) ≡ a ∷ b ∷ c ∷ fields_in d
  unfolding spaced fields_in
  heads_first d =
      field_first (32 ∷ (b ++ 32 ∷ (c ++ 32 ∷ d))) refl a p u
      ∙ ap (λ (l : List (List ℕ)). a ∷ l) (field_first (32 ∷ (c ++ 32 ∷ d)) refl b q v ∙ ap (λ (l : List (List ℕ)). b ∷ l) (field_first (32 ∷ d) refl c r w))

  pub four_spaced : (d : List ℕ) → blankless d ≡ true → spaced (with_samples (fields_in (four_fields a b c d))) ≡ four_fields a b c d
  unfolding fields_in
  four_spaced [] e = ap (λ (l : List (List ℕ)). spaced (with_samples l)) (heads_first [])
  four_spaced (x ∷ d) e =
      let last : fields_in (x ∷ d) ≡ (x ∷ d) ∷ [] = ap fields_in (sym (append-nil (x ∷ d))) ∙ field_first [] refl (x ∷ d) (omega arith) e in
      ap (λ (l : List (List ℕ)). spaced (with_samples l)) (heads_first (x ∷ d) ∙ ap (λ (l : List (List ℕ)). a ∷ b ∷ c ∷ l) last)

-- ---- digits have no blank and no capital among them

record Small (c : ℕ) : Type 0 where
  full : not (is_space c) ≡ true
  small : lowered c ≡ c

uncapital : (c : ℕ) → (is_capital c ≡ false) → lowered c ≡ c
unfolding lowered
uncapital c e = ap (λ (t : Bool). lowered_if t c) e

small_if : (c : ℕ) (t u : Bool) → is_decimal c ≡ t → is_letter c ≡ u → (t || u) ≡ true → Small c
small_if c true u p q e =
    let b = both (leb 48 c) (leb c 57) p in
    let least = leb-true 48 c b.first in
    let most = leb-true c 57 b.second in
    record {
      full = ap not (ne_eqb c 32 (λ (k : c ≡ 32). omega arith));
      small = uncapital c (ap (λ (t : Bool). t && leb c 90) (lt-leb 65 c (omega arith)));
    }
small_if c false u p q e =
    let b = both (leb 97 c) (leb c 102) (q ∙ e) in
    let least = leb-true 97 c b.first in
    record {
      full = ap not (ne_eqb c 32 (λ (k : c ≡ 32). omega arith));
      small = uncapital c (ap (λ (t : Bool). leb 65 c && t) (lt-leb c 90 (omega arith)) ∙ and_false (leb 65 c));
    }

digit_small : (c : ℕ) → is_digit c ≡ true → Small c
unfolding is_digit
digit_small c e = small_if c (is_decimal c) (is_letter c) refl refl e

pub digits_blankless : (t : List ℕ) → are_digits t ≡ true → blankless t ≡ true
unfolding are_digits
digits_blankless [] e = refl
digits_blankless (c ∷ t) e = let b = both (is_digit c) (are_digits t) e in λ i. (digit_small c b.first).full i && digits_blankless t b.second i

pub digits_small : (t : List ℕ) → are_digits t ≡ true → map lowered t ≡ t
unfolding are_digits
digits_small [] e = refl
digits_small (c ∷ t) e = let b = both (is_digit c) (are_digits t) e in λ i. (digit_small c b.first).small i ∷ digits_small t b.second i

-- fields that are their own small letters make a line that is
small_two : (a t : List ℕ) → map lowered a ≡ a → map lowered t ≡ t → map lowered (a ++ 32 ∷ t) ≡ a ++ 32 ∷ t
unfolding lowered
small_two a t p q = map-append lowered a (32 ∷ t) ∙ (λ i. p i ++ 32 ∷ q i)

pub four_small : (a b c d : List ℕ) → map lowered a ≡ a → map lowered b ≡ b → map lowered c ≡ c → map lowered d ≡ d → map lowered (four_fields a b c d) ≡ four_fields a b c d
unfolding spaced
four_small a b c d p q r s = small_two a (b ++ 32 ∷ (c ++ 32 ∷ d)) p (small_two b (c ++ 32 ∷ d) q (small_two c d r s))
