-- The lines within a piece, answered one after another: what holds at each turn, and what it leaves. Assumes nothing.
use mathlib.Core.Path.{◌≡◌, refl, sym, ap, ◌∙◌}
use mathlib.Core.Bool.{true}
use mathlib.Core.List.{List, [], ◌∷◌, ◌++◌, flatten, append_assoc, append-nil}
use Prim.Native.Nat.{ℕ, suc, ◌+◌, ◌-◌, ◌≤◌, ◌<◌}
use native.Mathlib.Omega.{arith}
use lib.ListN.{length, take, drop, length-append, length-take, length-drop, drop_of_length-le}
use lib.Seq.{length-take-le, take-add, take-append-add, take_all, drop-append-add, drop-drop}
use borrow.Author.Tests.{le-leb}
use Rattle.std.specs.Prelude.{Some, None, Option}
use Rattle.frame_lines.specs.Line.{Fields}
use Rattle.frame_lines.specs.Answer.{decimal, number_text}
use Rattle.frame_lines.specs.Forgiven.{lenient_meaning}
use Rattle.frame_lines.specs.Spelling.{spelling}
use Rattle.frame_lines.specs.Search.{first_of, place_of}
use Rattle.frame_lines.specs.Stream.{ended, begun}
use Rattle.frame_lines.specs.Search.{line_feed_from}
use Rattle.frame_lines.specs.Respelled.{longest_respelling, respelled_text, text_of_line, text_of_lines, AnswersIn, has_room, used_if, used_from, WholeAs}
use Rattle.frame_lines.proofs.Pieces.{ended_two, begun_two}
use Rattle.frame_lines.proofs.Searching.{found_if}
use Rattle.frame_lines.proofs.FeedPlaces.{FirstLine, first_line, line_found, no_line_ends}

-- ---- texts of lines

pub text_append : (xs ys : List (List ℕ)) → text_of_lines (xs ++ ys) ≡ text_of_lines xs ++ text_of_lines ys
unfolding flatten
text_append [] ys = refl
text_append (x ∷ xs) ys = ap (λ (l : List ℕ). text_of_line x ++ l) (text_append xs ys) ∙ sym (append_assoc (text_of_line x) (text_of_lines xs) (text_of_lines ys))

one_text : (line : List ℕ) → text_of_lines (line ∷ []) ≡ text_of_line line
unfolding flatten
one_text line = append-nil (text_of_line line)

-- ---- one line more

module _ (piece : List ℕ) (at e : ℕ) (found : line_feed_from piece at ≡ Some e) where
  abbrev line : List ℕ
  line = take (e - at) (drop at piece)

  pub found_at : (at ≤ e) × (e < length piece)
  unfolding ended
  found_at = let f = line_found [] piece at refl e found in (f.least, f.within)

  first : FirstLine (drop at piece) (e - at)
  unfolding place_of
  first = first_line (drop at piece) (e - at) (found_if at e (first_of 10 (drop at piece)) found)

  line_length : length line ≡ e - at
  line_length = length-take-le (e - at) (drop at piece) (omega (arith, first.within))

  next : take (e + 1) piece ≡ take at piece ++ take (suc (e - at)) (drop at piece)
  next = let k : e + 1 ≡ at + suc (e - at) = omega (arith, found_at.0) in ap (λ (m : ℕ). take m piece) k ∙ take-add at (suc (e - at)) piece

  -- what lies behind it
  ended_behind : ended (drop at piece) ≡ line ∷ ended (drop (e + 1) piece)
  unfolding ended
  ended_behind = (line_found [] piece at refl e found).line

  begun_behind : begun (drop at piece) ≡ begun (drop (e + 1) piece)
  unfolding ended
  begun_behind = (line_found [] piece at refl e found).begins

  module _ (b : begun (take at piece) ≡ []) where
    ended_next : ended (take (e + 1) piece) ≡ ended (take at piece) ++ line ∷ []
    ended_next =
        let rest = take (suc (e - at)) (drop at piece) in
        ap ended next
        ∙ ended_two (take at piece) rest
        ∙ ap (λ (l : List ℕ). ended (take at piece) ++ ended (l ++ rest)) b
        ∙ ap (λ (l : List (List ℕ)). ended (take at piece) ++ l) first.alone

    begun_next : begun (take (e + 1) piece) ≡ []
    begun_next =
        let rest = take (suc (e - at)) (drop at piece) in
        ap begun next ∙ begun_two (take at piece) rest ∙ ap (λ (l : List ℕ). begun (l ++ rest)) b ∙ first.clears

    text_next : text_of_lines (ended (take (e + 1) piece)) ≡ text_of_lines (ended (take at piece)) ++ text_of_line line
    text_next = ap text_of_lines ended_next ∙ text_append (ended (take at piece)) (line ∷ []) ∙ ap (λ (l : List ℕ). text_of_lines (ended (take at piece)) ++ l) (one_text line)

-- ---- what holds at each turn

pub record SoFar (piece out₀ out : List ℕ) (at written : ℕ) : Type 0 where
  pub within : at ≤ length piece
  pub begins : begun (take at piece) ≡ []
  pub answers : AnswersIn (text_of_lines (ended (take at piece))) out₀ out written
  pub fits : written ≤ length out₀
  pub same : length out ≡ length out₀
  pub used : used_from (length out₀) (ended piece) (begun piece) ≡ at + used_from (length out₀ - written) (ended (drop at piece)) (begun (drop at piece))

pub starts : (piece out₀ : List ℕ) → SoFar piece out₀ out₀ 0 0
unfolding ended begun flatten
starts piece out₀ =
    let all : length out₀ ≡ length out₀ - 0 = omega arith in
    let start : used_from (length out₀) (ended piece) (begun piece) ≡ 0 + used_from (length out₀ - 0) (ended piece) (begun piece) = omega (arith, ap (λ (n : ℕ). used_from n (ended piece) (begun piece)) all) in
    record {
      within = omega arith;
      begins = refl;
      answers = record { written_is = refl; text_is = refl; rest_is = refl; none_is = λ e. refl };
      fits = omega arith;
      same = refl;
      used = start;
    }

-- an answer has at least its line feed
full_if : (o : Option Fields) → 0 < length (respelled_text o)
unfolding respelled_text number_text decimal
full_if None = omega arith
full_if (Some f) = omega (arith, length-append (spelling f) (10 ∷ []))

text_full : (x : List ℕ) → 0 < length (text_of_line x)
text_full x = full_if (lenient_meaning x)

module _ (piece out₀ out : List ℕ) (at written : ℕ) (h : SoFar piece out₀ out at written) where
  ends : (longest_respelling ≤ length out₀ - written → ended (drop at piece) ≡ []) → WholeAs piece out₀ out (record { used = at; written = written })
  ends stops = record { within = h.within; begins = h.begins; answers = h.answers; fits = h.fits; used_is = h.used; stops = stops }

  -- no line feed is found, or no room is left
  pub none_ends : line_feed_from piece at ≡ None → WholeAs piece out₀ out (record { used = at; written = written })
  unfolding ended
  none_ends lost = ends (λ k. no_line_ends [] piece at refl lost)

  pub written_within : written ≤ length out
  written_within = omega (arith, h.fits, h.same)

  -- what is left of the slice
  abbrev left : List ℕ
  left = take (length out - written) (drop written out)

  left_is : left ≡ drop written out
  left_is = take_all (length out - written) (drop written out) (omega (arith, length-drop written out))

  pub left_length : length left ≡ length out - written
  left_length = ap length left_is ∙ length-drop written out

  -- a line is answered there
  module _ (e : ℕ) (found : line_feed_from piece at ≡ Some e) (more : longest_respelling ≤ length out - written) (part : List ℕ) (r : ℕ) (same : length part ≡ length left) (a : AnswersIn (text_of_line (line piece at e found)) left part r) where
    abbrev before : List ℕ
    before = take written out

    before_length : length before ≡ written
    before_length = length-take-le written out written_within

    abbrev next_out : List ℕ
    next_out = before ++ (part ++ drop (length out - written) (drop written out))

    next_is : next_out ≡ before ++ part
    next_is =
        let end : length (drop written out) ≤ length out - written = omega (arith, length-drop written out) in
        let none_left : drop (length out - written) (drop written out) ≡ [] = drop_of_length-le (drop written out) end in
        ap (λ (l : List ℕ). before ++ (part ++ l)) none_left ∙ ap (λ (l : List ℕ). before ++ l) (append-nil part)

    abbrev text : List ℕ
    text = text_of_line (line piece at e found)

    r_within : r ≤ length part
    r_within = omega (arith, a.written_is, ap length a.text_is, length-take r part)

    pub next_within : written + r ≤ length out
    next_within = omega (arith, r_within, same, left_length, written_within)

    text_two : text_of_lines (ended (take (e + 1) piece)) ≡ text_of_lines (ended (take at piece)) ++ text
    text_two = text_next piece at e found h.begins

    answers_two : AnswersIn (text_of_lines (ended (take (e + 1) piece))) out₀ next_out (written + r)
    answers_two =
        let place : (n : ℕ) → written + n ≡ length before + n = λ n. omega (arith, before_length) in
        let more_of : written + r + longest_respelling ≡ written + (r + longest_respelling) = omega arith in
        let further : written + longest_respelling + r ≡ written + r + longest_respelling = omega arith in
        record {
          written_is = omega (arith, h.answers.written_is, a.written_is, ap length text_two, length-append (text_of_lines (ended (take at piece))) text);
          text_is =
              (λ i. take (place r i) (next_is i))
              ∙ take-append-add before part r
              ∙ (λ i. h.answers.text_is i ++ a.text_is i)
              ∙ sym text_two;
          rest_is =
              (λ i. drop ((more_of ∙ place (r + longest_respelling)) i) (next_is i))
              ∙ drop-append-add before part (r + longest_respelling)
              ∙ a.rest_is
              ∙ ap (drop (r + longest_respelling)) left_is
              ∙ drop-drop (r + longest_respelling) written out
              ∙ ap (λ (n : ℕ). drop n out) (sym more_of ∙ sym further)
              ∙ sym (drop-drop r (written + longest_respelling) out)
              ∙ ap (drop r) h.answers.rest_is
              ∙ drop-drop r (written + longest_respelling) out₀
              ∙ ap (λ (n : ℕ). drop n out₀) further;
          none_is = λ k. absurd (omega (arith, text_full (line piece at e found), ap length (sym text_two ∙ k), length-append (text_of_lines (ended (take at piece))) text));
        }

    used_two : used_from (length out₀) (ended piece) (begun piece) ≡ e + 1 + used_from (length out₀ - (written + r)) (ended (drop (e + 1) piece)) (begun (drop (e + 1) piece))
    unfolding used_from
    used_two =
        let room = length out₀ - written in
        let has : has_room room ≡ true = le-leb longest_respelling room (omega (arith, more, h.same)) in
        let l = line piece at e found in
        let less : room - length text ≡ length out₀ - (written + r) = omega (arith, a.written_is) in
        let later = used_from (length out₀ - (written + r)) (ended (drop (e + 1) piece)) (begun (drop (e + 1) piece)) in
        let sum : at + (suc (length l) + later) ≡ e + 1 + later = omega (arith, line_length piece at e found, (found_at piece at e found).0) in
        h.used
        ∙ (λ i. at + used_from room (ended_behind piece at e found i) (begun_behind piece at e found i))
        ∙ (λ i. at + used_if (has i) (suc (length l) + used_from (less i) (ended (drop (e + 1) piece)) (begun (drop (e + 1) piece))))
        ∙ sum

    pub one_more : SoFar piece out₀ next_out (e + 1) (written + r)
    one_more = record {
      within = omega (arith, (found_at piece at e found).1);
      begins = begun_next piece at e found h.begins;
      answers = answers_two;
      fits = omega (arith, next_within, h.same);
      same = omega (arith, ap length next_is, length-append before part, before_length, same, left_length, written_within, h.same);
      used = used_two;
    }
