-- The answer to a line that is respelled, at the beginning of a slice. Assumes nothing.
use mathlib.Core.Path.{◌≡◌, refl, sym, ap, ◌∙◌}
use mathlib.Core.Bool.{Bool, true, false}
use mathlib.Core.List.{List, [], ◌∷◌, ◌++◌}
use Prim.Native.Nat.{ℕ, ◌+◌, ◌-◌, ◌≤◌, ◌<◌}
use native.Mathlib.Numerals.{add-one}
use native.Mathlib.Omega.{arith}
use lib.Dec.{leb, ltb}
use lib.ListN.{length, take, drop, set, length-append, length-map}
use lib.Seq.{take-length, take-suc-set, drop-set-lt, drop-append-add, drop-drop, take-paste, drop-paste}
use borrow.Author.Tests.{leb-true, leb-false, ltb-false}
use Rattle.numbers.specs.declared.refusal.Refusal.TheVariants.{FrameLine}
use Rattle.std.specs.Prelude.{Result, Ok, Err, Option, None, Some}
use Rattle.frame_lines.specs.declared.spelling.Unspelled.{Unspelled}
use Rattle.frame_lines.specs.declared.spelling.Unspelled.TheVariants.{Malformed, NoRoom}
use Rattle.frame_lines.specs.Line.{Fields}
use Rattle.frame_lines.specs.Answer.{decimal, number_text, answer_of, laid, PutAs}
use Rattle.frame_lines.specs.Forgiven.{lowered, fields_in, lenient_meaning}
use Rattle.frame_lines.specs.Spelling.{spelling}
use Rattle.frame_lines.specs.Walk.{closed, taken_if, respelled_if, tried_if, RespelledAs}
use Rattle.frame_lines.specs.Respelled.{longest_respelling, respelled_text, text_of_line, AnswersIn}
use Rattle.frame_lines.proofs.Answers.{had_room}
use Rattle.frame_lines.proofs.Walking.{closed_short}
use Rattle.frame_lines.proofs.Readers.{long_lenient}
use Rattle.frame_lines.proofs.OneSpelling.{taken_short}

-- ---- what an answer tells of the line

pub record Means (line : List ℕ) (n : ℕ) : Type 0 where
  pub fields : Fields
  pub means : lenient_meaning line ≡ Some fields
  pub length_is : n ≡ length (spelling fields)

module _ (line : List ℕ) where
  means_if : (n : ℕ) (o : Option Fields) → lenient_meaning line ≡ o → taken_if o ≡ Ok n → Means line n
  means_if n None p e = let z : ◌≡◌ {A = ℕ} 0 1 = cc in absurd (omega arith)
  means_if n (Some f) p e = record { fields = f; means = p; length_is = cc }

  spelled_if : (n : ℕ) (s r : Bool) → respelled_if s r line ≡ Ok n → Means line n
  spelled_if n false r e = let z : ◌≡◌ {A = ℕ} 0 1 = cc in absurd (omega arith)
  spelled_if n true false e = let z : ◌≡◌ {A = ℕ} 0 1 = cc in absurd (omega arith)
  spelled_if n true true e = means_if n (lenient_meaning line) refl e

  none_if : (o : Option Fields) → taken_if o ≡ Err Malformed → o ≡ None
  none_if None e = refl
  none_if (Some f) e = let z : ◌≡◌ {A = ℕ} 0 1 = cc in absurd (omega arith)

  malformed_if : (s r : Bool) → leb (length line) 2000 ≡ s → respelled_if s r line ≡ Err Malformed → lenient_meaning line ≡ None
  malformed_if false r p e = long_lenient line (leb-false (length line) 2000 p)
  malformed_if true false p e = let z : ◌≡◌ {A = ℕ} 0 1 = cc in absurd (omega arith)
  malformed_if true true p e = none_if (lenient_meaning line) e

  no_room_if : (n : ℕ) (s r : Bool) → leb (length line) 2000 ≡ s → ltb (length line) n ≡ r → respelled_if s r line ≡ Err NoRoom → longest_respelling ≤ n → ⊥
  no_room_if n false r p q e h = let z : ◌≡◌ {A = ℕ} 0 1 = cc in omega arith
  no_room_if n true false p q e h = omega (arith, leb-true (length line) 2000 p, ltb-false (length line) n q)
  no_room_if n true true p q e h = taken_apart (lenient_meaning line) e
    where
      taken_apart : (o : Option Fields) → taken_if o ≡ Err NoRoom → ⊥
      taken_apart None k = let z : ◌≡◌ {A = ℕ} 0 1 = cc in omega arith
      taken_apart (Some f) k = let z : ◌≡◌ {A = ℕ} 0 1 = cc in omega arith

  -- how much is tried
  tried_short : (s r : Bool) → leb (length line) 2000 ≡ s → length (tried_if s r line) ≤ longest_respelling
  tried_short false r p = omega arith
  tried_short true false p = omega arith
  tried_short true true p = omega (arith, leb-true (length line) 2000 p, closed_short line, length-map (closed (fields_in line)) lowered)

-- behind a text that is laid a slice is as it was
laid_rest : (t before : List ℕ) (m : ℕ) → length t ≤ m → drop m (laid t before) ≡ drop m before
laid_rest t before m h =
    let k : m ≡ length t + (m - length t) = omega arith in
    ap (λ (n : ℕ). drop n (laid t before)) k
    ∙ drop-append-add t (drop (length t) before) (m - length t)
    ∙ drop-drop (m - length t) (length t) before
    ∙ ap (λ (n : ℕ). drop n before) (sym k)

full : (t : List ℕ) → 0 < length t → t ≡ [] → ⊥
full t h e = omega (arith, ap length e)

module _ (line before tried : List ℕ) (a : Result ℕ Unspelled) (h : RespelledAs line before tried a) (room : longest_respelling ≤ length before) (same : length tried ≡ length before) where
  rest : (m : ℕ) → longest_respelling ≤ m → drop m tried ≡ drop m before
  rest m k =
      let s = leb (length line) 2000 in
      let r = ltb (length line) (length before) in
      ap (drop m) h.lent_is ∙ laid_rest (tried_if s r line) before m (omega (arith, tried_short line s r refl))

  pub never : a ≡ Err NoRoom → ⊥
  never e = no_room_if line (length before) (leb (length line) 2000) (ltb (length line) (length before)) refl refl (sym h.answer_is ∙ e) room

  module _ (n : ℕ) (e : a ≡ Ok n) where
    told : Means line n
    told = spelled_if line n (leb (length line) 2000) (ltb (length line) (length before)) (sym h.answer_is ∙ e)

    pub feed_fits : n < length tried
    feed_fits = omega (arith, told.length_is, taken_short line told.fields told.means, same, room)

    text : text_of_line line ≡ spelling told.fields ++ 10 ∷ []
    unfolding respelled_text
    text = ap respelled_text told.means

    pub spelled_answer : AnswersIn (text_of_line line) before (set tried n 10) (n + 1)
    spelled_answer =
        let count : n + 1 ≡ length (text_of_line line) = omega (arith, told.length_is, ap length text, length-append (spelling told.fields) (10 ∷ [])) in
        record {
          written_is = count;
          text_is =
              ap (λ (k : ℕ). take k (set tried n 10)) (add-one n)
              ∙ take-suc-set tried n 10 feed_fits
              ∙ ap (λ (l : List ℕ). l ++ 10 ∷ []) (h.spelled told.fields n told.means e)
              ∙ sym text;
          rest_is = drop-set-lt (n + 1 + longest_respelling) tried n 10 (omega arith) ∙ rest (n + 1 + longest_respelling) (omega arith);
          none_is = λ k. absurd (full (text_of_line line) (omega (arith, count)) k);
        }

  pub refused_answer : a ≡ Err Malformed → (after : List ℕ) (r : ℕ) → PutAs (answer_of (Err FrameLine)) 0 tried after r → AnswersIn (text_of_line line) before after r
  unfolding answer_of respelled_text number_text decimal
  refused_answer e after r p =
      let t = answer_of (Err FrameLine) in
      let is : text_of_line line ≡ t = ap respelled_text (malformed_if line (leb (length line) 2000) (ltb (length line) (length before)) refl (sym h.answer_is ∙ e)) in
      let put = had_room t 0 tried after r (omega (arith, same, room)) p in
      let count : r ≡ length t = put.0 in
      let more : length t + (r + longest_respelling - length t) ≡ r + longest_respelling = omega (arith, count) in
      record {
        written_is = count ∙ ap length (sym is);
        text_is = (λ i. take (count i) (put.1 i)) ∙ take-paste tried 0 t (length t) (omega arith) (omega arith) ∙ take-length t ∙ sym is;
        rest_is =
            ap (λ (k : ℕ). drop k after) (sym more)
            ∙ sym (drop-drop (r + longest_respelling - length t) (length t) after)
            ∙ ap (drop (r + longest_respelling - length t)) (ap (drop (length t)) put.1 ∙ drop-paste tried 0 t (length t) (omega arith) (omega arith))
            ∙ drop-drop (r + longest_respelling - length t) (length t) tried
            ∙ ap (λ (k : ℕ). drop k tried) more
            ∙ rest (r + longest_respelling) (omega arith);
        none_is = λ k. absurd (full (text_of_line line) (omega (arith, ap length is)) k);
      }
