-- A line that is walked from field to field: what each step finds, and what the fields that were put make. Assumes nothing.
use mathlib.Core.Path.{◌≡◌, refl, sym, ap, subst, ◌∙◌}
use mathlib.Core.Bool.{Bool, true, false, ◌&&◌, not}
use mathlib.Core.List.{List, [], ◌∷◌, ◌++◌, map, append_assoc, append-nil, map-append}
use Prim.Native.Nat.{ℕ, zero, suc, ◌+◌, ◌-◌, ◌≤◌, ◌<◌}
use native.Mathlib.Omega.{arith}
use lib.ListN.{length, get_or, get_or-map, take, drop, set, length-append, length-map, length-drop, drop_of_length-le, take-append-drop}
use lib.Seq.{take-append_seam, set-append_seam, drop-cons, drop-drop, take-length, drop-length, length-take-le, paste}
use native.Mathlib.Decide.{dec_lt}
use borrow.Author.Tests.{eq-eqb, ne_eqb, lt-ltb, le-ltb, le-leb, lt-leb}
use Rattle.std.specs.Char.{to_ascii_lowercase}
use Rattle.numbers.proofs.Signs.{clash}
use Rattle.std.specs.Prelude.{Some, None, Option}
use Rattle.frame_lines.specs.Line.{part}
use Rattle.frame_lines.specs.Answer.{laid}
use Rattle.frame_lines.specs.Search.{here_if, first_of, place_of}
use Rattle.frame_lines.specs.Forgiven.{lowered, is_space, begins_field, field_if, fields_in, spaced, with_samples}
use Rattle.frame_lines.specs.Walk.{FieldBehind, FieldTo, closed, length_if, forgiven_length, WalkedAs}
use Rattle.frame_lines.proofs.Parts.{behind}
use Rattle.frame_lines.proofs.Searching.{found_if, least_if, lost_if}
use Rattle.frame_lines.proofs.Answers.{put_behind}
use Rattle.frame_lines.proofs.Fieldwise.{blankless, field_first}

-- ---- over blanks

module _ (line : List ℕ) (i : ℕ) (h : i < length line) where
  pub blank_on : get_or line i 0 ≡ 32 → fields_in (drop (i + 1) line) ≡ fields_in (drop i line)
  unfolding fields_in
  blank_on e =
      let rest = drop (i + 1) line in
      sym (ap fields_in (behind line i (i + 1) refl h) ∙ ap (λ (t : Bool). field_if t (begins_field rest) (get_or line i 0) (fields_in rest)) (eq-eqb _ _ e))

-- ---- to the end of a field

-- a text up to its first blank
record UpToBlank (text : List ℕ) (n : ℕ) : Type 0 where
  within : n < length text
  whole : blankless (take n text) ≡ true
  ends : begins_field (drop n text) ≡ false

blank_if : (c : ℕ) (text : List ℕ) (n : ℕ) (t : Bool) (o : Option ℕ) → is_space c ≡ t → first_of 32 text ≡ o → ((m : ℕ) → first_of 32 text ≡ Some m → UpToBlank text m)
    → here_if t o ≡ Some n → UpToBlank (c ∷ text) n
blank_if c text n true o p q f e = let k : 0 ≡ n = cc in subst (UpToBlank (c ∷ text)) k (record { within = omega arith; whole = refl; ends = ap not p })
blank_if c text n false None p q f e = let z : ◌≡◌ {A = ℕ} 0 1 = cc in absurd (omega arith)
blank_if c text n false (Some m) p q f e =
    let k : suc m ≡ n = cc in
    let u = f m q in
    subst (UpToBlank (c ∷ text)) k (record { within = omega (arith, u.within); whole = λ i. not (p i) && u.whole i; ends = u.ends })

up_to_blank : (text : List ℕ) (n : ℕ) → first_of 32 text ≡ Some n → UpToBlank text n
unfolding first_of
up_to_blank [] n e = let z : ◌≡◌ {A = ℕ} 0 1 = cc in absurd (omega arith)
up_to_blank (c ∷ text) n e = blank_if c text n (is_space c) (first_of 32 text) refl refl (up_to_blank text) e

no_blank_if : (c : ℕ) (text : List ℕ) (t : Bool) (o : Option ℕ) → is_space c ≡ t → first_of 32 text ≡ o → (first_of 32 text ≡ None → blankless text ≡ true) → here_if t o ≡ None → blankless (c ∷ text) ≡ true
no_blank_if c text true o p q f e = let z : ◌≡◌ {A = ℕ} 0 1 = cc in absurd (omega arith)
no_blank_if c text false None p q f e = λ i. not (p i) && f q i
no_blank_if c text false (Some m) p q f e = let z : ◌≡◌ {A = ℕ} 0 1 = cc in absurd (omega arith)

no_blank : (text : List ℕ) → first_of 32 text ≡ None → blankless text ≡ true
unfolding first_of
no_blank [] e = refl
no_blank (c ∷ text) e = no_blank_if c text (is_space c) (first_of 32 text) refl refl (no_blank text) e

-- a field is not empty, and so the blank stands behind its first character
some_first : (text : List ℕ) (n : ℕ) → begins_field text ≡ true → begins_field (drop n text) ≡ false → 0 < n
some_first text zero b e = clash (sym b ∙ e)
some_first text (suc n) b e = omega arith

first_of_lem : (text : List ℕ) (n : ℕ) → begins_field text ≡ true → UpToBlank text n → (0 < n) × (fields_in text ≡ take n text ∷ fields_in (drop n text))
first_of_lem text n b u =
    let more = some_first text n b u.ends in
    let full : 0 < length (take n text) = omega (arith, length-take-le n text (omega (arith, u.within))) in (
      more,
      ap fields_in (sym (take-append-drop n text)) ∙ field_first (drop n text) u.ends (take n text) full u.whole,
    )

-- the standard library's small letter
small_is : (c : ℕ) → to_ascii_lowercase c ≡ lowered c
unfolding lowered
small_is c = elim (dec_lt c 65) [
  | yes h ↦ simp (lt-ltb c 65 h, lt-leb 65 c h)
  | no h ↦ elim (dec_lt c 91) [
    | yes k ↦ (let a : 65 ≤ c = omega arith in let b : c ≤ 90 = omega arith in simp (le-ltb c 65 a, lt-ltb c 91 k, le-leb 65 c a, le-leb c 90 b))
    | no k ↦ (let a : 65 ≤ c = omega arith in let b : 91 ≤ c = omega arith in let d : 90 < c = omega arith in simp (le-ltb c 65 a, le-ltb c 91 b, le-leb 65 c a, lt-leb c 90 d))
  ]
]

pub small_at : (text : List ℕ) (i : ℕ) → to_ascii_lowercase (get_or text i 0) ≡ get_or (map lowered text) i 0
unfolding lowered
small_at text i = small_is (get_or text i 0) ∙ sym (get_or-map lowered text i 0)

begins_some : (text : List ℕ) → begins_field text ≡ true → 0 < length text
begins_some [] e = clash (sym e)
begins_some (c ∷ text) e = omega arith

all_of : (text : List ℕ) → begins_field text ≡ true → blankless text ≡ true → fields_in text ≡ text ∷ fields_in []
unfolding fields_in
all_of text b e = ap fields_in (sym (append-nil text)) ∙ field_first [] refl text (begins_some text b) e

module _ (line : List ℕ) (at : ℕ) (h : at ≤ length line) where
  pub ends_at : (e : ℕ) → place_of 32 line at ≡ Some e → FieldTo line at e
  unfolding place_of
  ends_at e p =
      let u = up_to_blank (drop at line) (e - at) (found_if at e (first_of 32 (drop at line)) p) in
      let l = least_if at e (first_of 32 (drop at line)) p in
      let k : at + (e - at) ≡ e = omega arith in
      let behind-it : drop (e - at) (drop at line) ≡ drop e line = drop-drop (e - at) at line ∙ ap (λ (n : ℕ). drop n line) k in
      record {
        within = (l, omega (arith, u.within, length-drop at line));
        field = λ b. (let f = first_of_lem (drop at line) (e - at) b u in (omega (arith, f.0), f.1 ∙ ap (λ (t : List ℕ). part line at (e - at) ∷ fields_in t) behind-it));
      }

  pub ends_line : place_of 32 line at ≡ None → FieldTo line at (length line)
  unfolding place_of
  ends_line p =
      let e = no_blank (drop at line) (lost_if at (first_of 32 (drop at line)) p) in
      let k : length (drop at line) ≡ length line - at = length-drop at line in
      let all : part line at (length line - at) ≡ drop at line = ap (λ (n : ℕ). take n (drop at line)) (sym k) ∙ take-length (drop at line) in
      let none_left : drop (length line) line ≡ [] = drop-length line in
      record {
        within = (h, omega arith);
        field = λ b. (
          omega (arith, k, begins_some (drop at line) b),
          all_of (drop at line) b e ∙ (λ i. sym all i ∷ fields_in (sym none_left i)),
        );
      }

-- ---- the fields that were put

pub closed_append : (xs ys : List (List ℕ)) → closed (xs ++ ys) ≡ closed xs ++ closed ys
unfolding closed
closed_append [] ys = refl
closed_append (x ∷ xs) ys = ap (λ (l : List ℕ). x ++ 32 ∷ l) (closed_append xs ys) ∙ sym (append_assoc x (32 ∷ closed xs) (closed ys))

-- no more bytes than the line and one
room_if : (c n : ℕ) (t begins : Bool) (fields : List (List ℕ)) → length (closed fields) ≤ n + 1 → (begins ≡ false → length (closed fields) ≤ n) → length (closed (field_if t begins c fields)) ≤ n + 2
unfolding closed
room_if c n true begins fields h k = omega arith
room_if c n false false fields h k = omega (arith, k refl)
room_if c n false true [] h k = omega arith
room_if c n false true (field ∷ fields) h k = omega arith

less_if : (c n : ℕ) (t : Bool) (fields : List (List ℕ)) (begins : Bool) → length (closed fields) ≤ n + 1 → not t ≡ false → length (closed (field_if t begins c fields)) ≤ n + 1
less_if c n true fields begins h e = h
less_if c n false fields begins h e = clash e

-- and not even the one where the line begins with a blank
record Short (t : List ℕ) : Type 0 where
  most : length (closed (fields_in t)) ≤ length t + 1
  less : begins_field t ≡ false → length (closed (fields_in t)) ≤ length t

short : (t : List ℕ) → Short t
unfolding fields_in closed
short [] = record { most = omega arith; less = λ e. omega arith }
short (c ∷ t) =
    let s = short t in
    record {
      most = omega (arith, room_if c (length t) (is_space c) (begins_field t) (fields_in t) s.most s.less);
      less = λ e. omega (arith, less_if c (length t) (is_space c) (fields_in t) (begins_field t) s.most e);
    }

pub closed_short : (t : List ℕ) → length (closed (fields_in t)) ≤ length t + 1
closed_short t = (short t).most

-- without the last blank they are a line
closed_spaced : (field : List ℕ) (fields : List (List ℕ)) → closed (field ∷ fields) ≡ spaced (field ∷ fields) ++ 32 ∷ []
unfolding closed spaced
closed_spaced field [] = refl
closed_spaced field (next ∷ fields) = ap (λ (l : List ℕ). field ++ 32 ∷ l) (closed_spaced next fields) ∙ sym (append_assoc field (32 ∷ spaced (next ∷ fields)) (32 ∷ []))

but_last : (xs : List ℕ) (c : ℕ) → take (length (xs ++ c ∷ []) - 1) (xs ++ c ∷ []) ≡ xs
but_last xs c =
    let n : length (xs ++ c ∷ []) - 1 ≡ length xs = omega (arith, length-append xs (c ∷ [])) in
    ap (λ (k : ℕ). take k (xs ++ c ∷ [])) n ∙ take-append_seam xs (c ∷ [])

open_last : (field : List ℕ) (fields : List (List ℕ)) → take (length (closed (field ∷ fields)) - 1) (closed (field ∷ fields)) ≡ spaced (field ∷ fields)
open_last field fields = ap (λ (l : List ℕ). take (length l - 1) l) (closed_spaced field fields) ∙ but_last (spaced (field ∷ fields)) 32

pub opened : (fields : List (List ℕ)) → take (forgiven_length (length fields) (length (closed fields))) (closed fields) ≡ spaced (with_samples fields)
unfolding closed spaced
opened [] = refl
opened (a ∷ []) = open_last a []
opened (a ∷ b ∷ []) = open_last a (b ∷ [])
opened (a ∷ b ∷ c ∷ []) = take-length (closed (a ∷ b ∷ c ∷ []))
opened (a ∷ b ∷ c ∷ d ∷ fields) =
    let l = closed (a ∷ b ∷ c ∷ d ∷ fields) in
    ap (λ (t : Bool). take (length_if t (length l)) l) (ne_eqb (length (a ∷ b ∷ c ∷ d ∷ fields)) 3 (λ e. omega arith)) ∙ open_last a (b ∷ c ∷ d ∷ fields)

-- ---- one field after the other

-- a field has at least the blank behind it
count_short : (fields : List (List ℕ)) → length fields ≤ length (closed fields)
unfolding closed
count_short [] = omega arith
count_short (field ∷ fields) = omega (arith, count_short fields, length-append field (32 ∷ closed fields))

-- a byte behind a text, at the beginning of a slice
one_behind : (t out : List ℕ) (c : ℕ) → length t < length out → set (laid t out) (length t) c ≡ laid (t ++ c ∷ []) out
one_behind t out c h =
    let n : suc (length t) ≡ length (t ++ c ∷ []) = omega (arith, length-append t (c ∷ [])) in
    ap (λ (l : List ℕ). set (t ++ l) (length t) c) (drop-cons out (length t) 0 h)
    ∙ set-append_seam t (get_or out (length t) 0) (drop (suc (length t)) out) c
    ∙ sym (append_assoc t (c ∷ []) (drop (suc (length t)) out))
    ∙ ap (λ (k : ℕ). (t ++ c ∷ []) ++ drop k out) n

-- Some fields of a line are done, and the rest are those from a place on
pub record Walking (line out₀ out : List ℕ) (count written from : ℕ) : Type 0 where
  pub done : List (List ℕ)
  pub within : from ≤ length line
  pub begins : from < length line → begins_field (drop from line) ≡ true
  pub fields : fields_in line ≡ done ++ fields_in (drop from line)
  pub count_is : count ≡ length done
  pub written_is : written ≡ length (map lowered (closed done))
  pub out_is : out ≡ laid (map lowered (closed done)) out₀

module _ (line out₀ : List ℕ) where
  pub starts : (r : ℕ) → FieldBehind line 0 r → Walking line out₀ out₀ 0 0 r
  unfolding closed
  starts r b = record { done = []; within = b.within.1; begins = b.begins; fields = sym b.same; count_is = refl; written_is = refl; out_is = refl }

  module _ (room : length line < length out₀) (out : List ℕ) (count written from : ℕ) (w : Walking line out₀ out count written from) where
    abbrev text : List ℕ
    text = map lowered (closed w.done)

    -- what is done fits, and so the slice keeps its length
    done_most : length (closed w.done) + length (closed (fields_in (drop from line))) ≤ length line + 1
    done_most =
        let all : length (closed (fields_in line)) ≡ length (closed w.done ++ closed (fields_in (drop from line))) =
        ap (λ (l : List (List ℕ)). length (closed l)) w.fields ∙ ap length (closed_append w.done (fields_in (drop from line))) in
        omega (arith, all, length-append (closed w.done) (closed (fields_in (drop from line))), closed_short line)

    pub out_length : length out ≡ length out₀
    out_length =
        let n = length-map (closed w.done) lowered in
        omega (arith, ap length w.out_is, length-append text (drop (length text) out₀), length-drop (length text) out₀, n, done_most, room)

    -- the next field is put, and its blank
    module _ (more : from < length line) (end : ℕ) (to : FieldTo line from end) where
      abbrev next : List ℕ
      next = part line from (end - from)

      found : (from < end) × (fields_in (drop from line) ≡ next ∷ fields_in (drop end line))
      found = to.field (w.begins more)

      pub goes_on : from < end
      goes_on = found.0

      next_length : length next ≡ end - from
      next_length = length-take-le (end - from) (drop from line) (omega (arith, length-drop from line, to.within))

      abbrev before : List ℕ
      before = text ++ map lowered next

      closed_next : map lowered (closed (w.done ++ next ∷ [])) ≡ before ++ 32 ∷ []
      unfolding closed lowered
      closed_next =
          ap (map lowered) (closed_append w.done (next ∷ []))
          ∙ map-append lowered (closed w.done) (next ++ 32 ∷ [])
          ∙ ap (λ (l : List ℕ). text ++ l) (map-append lowered next (32 ∷ []))
          ∙ sym (append_assoc text (map lowered next) (32 ∷ []))

      before_length : length before ≡ written + (end - from)
      before_length = omega (arith, length-append text (map lowered next), length-map next lowered, next_length, w.written_is)

      -- there is room for it, and every number is in range
      pub fits : written + (end - from) + 1 ≤ length line + 1
      unfolding closed
      fits =
          let n = length-map (closed w.done) lowered in
          let f : length (closed (fields_in (drop from line))) ≡ length (closed (next ∷ fields_in (drop end line))) = ap (λ (l : List (List ℕ)). length (closed l)) found.1 in
          omega (arith, done_most, f, length-append next (32 ∷ closed (fields_in (drop end line))), next_length, n, w.written_is)

      pub count_fits : count + 1 ≤ length line + 1
      count_fits = let n = length-map (closed w.done) lowered in omega (arith, fits, w.count_is, count_short w.done, n, w.written_is)

      pub field_fits : written + length next ≤ length out
      field_fits = omega (arith, fits, next_length, out_length, room)

      module _ (put : List ℕ) (p : put ≡ paste out written (map lowered next) (length next)) where
        put_is : put ≡ laid before out₀
        put_is =
            let n : length next ≡ length (map lowered next) = sym (length-map next lowered) in
            p ∙ (λ i. paste out (w.written_is i) (map lowered next) (n i)) ∙ put_behind text (map lowered next) out₀ out w.out_is

        pub blank_fits : written + (end - from) < length put
        blank_fits = omega (arith, ap length put_is, length-append before (drop (length before) out₀), length-drop (length before) out₀, before_length, fits, room)

        pub stepped : (r : ℕ) → FieldBehind line end r → Walking line out₀ (set put (written + (end - from)) 32) (count + 1) (written + (end - from) + 1) r
        stepped r b = record {
          done = w.done ++ next ∷ [];
          within = b.within.1;
          begins = b.begins;
          fields =
              w.fields
              ∙ ap (λ (l : List (List ℕ)). w.done ++ l) (found.1 ∙ ap (λ (l : List (List ℕ)). next ∷ l) (sym b.same))
              ∙ sym (append_assoc w.done (next ∷ []) (fields_in (drop r line)));
          count_is = omega (arith, w.count_is, length-append w.done (next ∷ []));
          written_is = sym (ap length closed_next ∙ length-append before (32 ∷ []) ∙ ap (λ (n : ℕ). n + 1) before_length);
          out_is =
              (λ i. set (put_is i) (sym before_length i) 32)
              ∙ one_behind before out₀ 32 (omega (arith, before_length, fits, room))
              ∙ ap (λ (t : List ℕ). laid t out₀) (sym closed_next);
        }

    -- no field is left
    pub walked : length line ≤ from → WalkedAs line out₀ out (record { count = count; length = written })
    unfolding fields_in
    walked h =
        let all : w.done ≡ fields_in line = sym (w.fields ∙ ap (λ (t : List ℕ). w.done ++ fields_in t) (drop_of_length-le line h) ∙ append-nil w.done) in
        record {
          count_is = w.count_is ∙ ap length all;
          length_is = w.written_is ∙ ap (λ (l : List (List ℕ)). length (map lowered (closed l))) all;
          out_is = w.out_is ∙ ap (λ (l : List (List ℕ)). laid (map lowered (closed l)) out₀) all;
        }
