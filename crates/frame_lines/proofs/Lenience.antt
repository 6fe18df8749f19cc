-- What the lenient reader forgives makes no difference to it. Assumes nothing.
use mathlib.Core.Path.{◌≡◌, refl, sym, ap, ◌∙◌}
use mathlib.Core.Bool.{Bool, true, false, ◌&&◌, not}
use mathlib.Core.List.{List, [], ◌∷◌, ◌++◌, map, map-append}
use Prim.Native.Nat.{ℕ, ◌+◌, ◌≤◌, ◌<◌}
use native.Mathlib.Omega.{arith}
use lib.Dec.{leb}
use lib.ListN.{length, length-append, length-map}
use borrow.Author.Tests.{leb-true, ne_eqb, le-leb, lt-leb}
use Rattle.frame_lines.specs.Line.{most_characters, meaning}
use Rattle.frame_lines.specs.Forgiven.{is_capital, lowered_if, lowered, is_space, begins_field, field_if, fields_in, spaced, with_samples, forgiven, lenient_if, lenient_meaning}
use Rattle.frame_lines.proofs.Tests.{both, and_false}
use Rattle.frame_lines.proofs.Readers.{short_lenient}

-- lines that are forgiven alike mean the same, where both are short enough
alike : (x y : List ℕ) → length x ≤ most_characters → length y ≤ most_characters → forgiven x ≡ forgiven y → lenient_meaning x ≡ lenient_meaning y
alike x y h k e = short_lenient x h ∙ ap meaning e ∙ sym (short_lenient y k)

same_fields : (x y : List ℕ) → fields_in x ≡ fields_in y → forgiven x ≡ forgiven y
unfolding forgiven
same_fields x y e = ap (λ (fields : List (List ℕ)). map lowered (spaced (with_samples fields))) e

-- ---- blanks

blank_before : (x : List ℕ) → fields_in (32 ∷ x) ≡ fields_in x
unfolding fields_in
blank_before x = refl

begins_behind : (x : List ℕ) → begins_field (x ++ 32 ∷ []) ≡ begins_field x
begins_behind [] = refl
begins_behind (c ∷ x) = refl

blank_behind : (x : List ℕ) → fields_in (x ++ 32 ∷ []) ≡ fields_in x
unfolding fields_in
blank_behind [] = refl
blank_behind (c ∷ x) = λ i. field_if (is_space c) (begins_behind x i) c (blank_behind x i)

begins_between : (a b : List ℕ) → begins_field (a ++ 32 ∷ 32 ∷ b) ≡ begins_field (a ++ 32 ∷ b)
begins_between [] b = refl
begins_between (c ∷ a) b = refl

blank_between : (a b : List ℕ) → fields_in (a ++ 32 ∷ 32 ∷ b) ≡ fields_in (a ++ 32 ∷ b)
unfolding fields_in
blank_between [] b = refl
blank_between (c ∷ a) b = λ i. field_if (is_space c) (begins_between a b i) c (blank_between a b i)

pub one_before : (x : List ℕ) → length x < most_characters → lenient_meaning (32 ∷ x) ≡ lenient_meaning x
one_before x h = alike (32 ∷ x) x (omega arith) (omega arith) (same_fields (32 ∷ x) x (blank_before x))

pub one_behind : (x : List ℕ) → length x < most_characters → lenient_meaning (x ++ 32 ∷ []) ≡ lenient_meaning x
one_behind x h = alike (x ++ 32 ∷ []) x (omega (arith, length-append x (32 ∷ []))) (omega arith) (same_fields (x ++ 32 ∷ []) x (blank_behind x))

pub one_more : (a b : List ℕ) → length (a ++ 32 ∷ b) < most_characters → lenient_meaning (a ++ 32 ∷ 32 ∷ b) ≡ lenient_meaning (a ++ 32 ∷ b)
one_more a b h =
    alike (a ++ 32 ∷ 32 ∷ b) (a ++ 32 ∷ b) (omega (arith, length-append a (32 ∷ 32 ∷ b), length-append a (32 ∷ b))) (omega arith)
    (same_fields (a ++ 32 ∷ 32 ∷ b) (a ++ 32 ∷ b) (blank_between a b))

-- ---- capitals

-- a capital is no blank, and neither is its small letter
space_if : (c : ℕ) (t : Bool) → is_capital c ≡ t → is_space (lowered_if t c) ≡ is_space c
space_if c true e =
    let b = both (leb 65 c) (leb c 90) e in
    let least = leb-true 65 c b.first in
    ne_eqb (c + 32) 32 (λ k. omega arith) ∙ sym (ne_eqb c 32 (λ k. omega arith))
space_if c false e = refl

space_kept : (c : ℕ) → is_space (lowered c) ≡ is_space c
unfolding lowered
space_kept c = space_if c (is_capital c) refl

begins_kept : (x : List ℕ) → begins_field (map lowered x) ≡ begins_field x
begins_kept [] = refl
begins_kept (c ∷ x) = ap not (space_kept c)

small_if : (t b : Bool) (c : ℕ) (fields : List (List ℕ)) → field_if t b (lowered c) (map (map lowered) fields) ≡ map (map lowered) (field_if t b c fields)
small_if true b c fields = refl
small_if false false c fields = refl
small_if false true c [] = refl
small_if false true c (field ∷ fields) = refl

fields_small : (x : List ℕ) → fields_in (map lowered x) ≡ map (map lowered) (fields_in x)
unfolding fields_in
fields_small [] = refl
fields_small (c ∷ x) =
    (λ i. field_if (space_kept c i) (begins_kept x i) (lowered c) (fields_small x i)) ∙ small_if (is_space c) (begins_field x) c (fields_in x)

spaced_small : (fields : List (List ℕ)) → spaced (map (map lowered) fields) ≡ map lowered (spaced fields)
unfolding spaced lowered
spaced_small [] = refl
spaced_small (a ∷ []) = refl
spaced_small (a ∷ b ∷ fields) = ap (λ (l : List ℕ). map lowered a ++ 32 ∷ l) (spaced_small (b ∷ fields)) ∙ sym (map-append lowered a (32 ∷ spaced (b ∷ fields)))

samples_small : (fields : List (List ℕ)) → with_samples (map (map lowered) fields) ≡ map (map lowered) (with_samples fields)
samples_small [] = refl
samples_small (a ∷ []) = refl
samples_small (a ∷ b ∷ []) = refl
samples_small (a ∷ b ∷ c ∷ []) = refl
samples_small (a ∷ b ∷ c ∷ d ∷ fields) = refl

-- capitals may be forgiven first
small_first : (x : List ℕ) → forgiven x ≡ spaced (with_samples (fields_in (map lowered x)))
unfolding forgiven
small_first x =
    sym (spaced_small (with_samples (fields_in x))) ∙ ap spaced (sym (samples_small (fields_in x))) ∙ ap (λ (fields : List (List ℕ)). spaced (with_samples fields)) (sym (fields_small x))

small_alike : (x y : List ℕ) → map lowered x ≡ map lowered y → lenient_meaning x ≡ lenient_meaning y
unfolding lenient_meaning
small_alike x y e =
    let n : length x ≡ length y = sym (length-map x lowered) ∙ ap length e ∙ length-map y lowered in
    let same : forgiven x ≡ forgiven y = small_first x ∙ ap (λ (l : List ℕ). spaced (with_samples (fields_in l))) e ∙ sym (small_first y) in
    ap (λ (k : ℕ). lenient_if (leb k most_characters) x) n ∙ meant_alike (leb (length y) most_characters) same
  where
    meant_alike : (t : Bool) → forgiven x ≡ forgiven y → lenient_if t x ≡ lenient_if t y
    meant_alike true s = ap meaning s
    meant_alike false s = refl

-- a capital and its small letter have the same small letter
letter_small : (c : ℕ) → 65 ≤ c → c ≤ 90 → lowered c ≡ lowered (c + 32)
unfolding lowered
letter_small c h k =
    let is : is_capital c ≡ true = λ i. le-leb 65 c h i && le-leb c 90 k i in
    let is-not : is_capital (c + 32) ≡ false = ap (λ (t : Bool). leb 65 (c + 32) && t) (lt-leb (c + 32) 90 (omega arith)) ∙ and_false (leb 65 (c + 32)) in
    ap (λ (t : Bool). lowered_if t c) is ∙ ap (λ (t : Bool). lowered_if t (c + 32)) (sym is-not)

pub capitals : (a b : List ℕ) (c : ℕ) → 65 ≤ c → c ≤ 90 → lenient_meaning (a ++ c ∷ b) ≡ lenient_meaning (a ++ (c + 32) ∷ b)
capitals a b c h k =
    small_alike (a ++ c ∷ b) (a ++ (c + 32) ∷ b)
    (map-append lowered a (c ∷ b) ∙ ap (λ (n : ℕ). map lowered a ++ n ∷ map lowered b) (letter_small c h k) ∙ sym (map-append lowered a ((c + 32) ∷ b)))
