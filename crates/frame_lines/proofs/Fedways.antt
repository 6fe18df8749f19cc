-- What `feed` hands back, way by way. Assumes nothing.
use mathlib.Core.Path.{◌≡◌, refl, sym, ap, subst, ◌∙◌}
use mathlib.Core.Bool.{Bool, true, false}
use mathlib.Core.List.{List, [], ◌∷◌, ◌++◌, flatten, append-nil}
use Prim.Native.Nat.{ℕ, suc, ◌+◌, ◌-◌, ◌≤◌, ◌<◌}
use native.Mathlib.Nat.{not-suc-le-zero}
use native.Mathlib.Numerals.{add-one}
use native.Mathlib.Omega.{arith}
use lib.ListN.{length, take, drop, length-drop, take-append-drop}
use lib.Seq.{length-take-le, take_all, take-length}
use borrow.Author.Tests.{le-leb, lt-leb}
use Rattle.frame_lines.specs.declared.lines.Begun.{Begun}
use Rattle.frame_lines.specs.declared.respelling.Fed.{Fed}
use Rattle.frame_lines.specs.declared.respelling.Whole.{Whole}
use Rattle.std.specs.Prelude.{Some, None, Option}
use Rattle.frame_lines.specs.Search.{first_of, place_of}
use Rattle.frame_lines.specs.Stream.{kept_characters, cut, ended, begun}
use Rattle.frame_lines.specs.Feeds.{kept, Keeps, GoodBeginning}
use Rattle.frame_lines.specs.Search.{line_feed_from}
use Rattle.frame_lines.specs.Forgiven.{lenient_meaning}
use Rattle.frame_lines.specs.Respelled.{longest_respelling, respelled_text, text_of_line, text_of_lines, AnswersIn, has_room, used_if, used_from, up_to_feed, used_of, FedAs, finished_if, finished_text, WholeAs}
use Rattle.frame_lines.proofs.Pieces.{joined, begun_after, ended_two, begun_two, ended_after, begun_after_lem, begun_all, ended_take}
use Rattle.frame_lines.proofs.Searching.{found_if, lost_if}
use Rattle.frame_lines.proofs.FeedPlaces.{FirstLine, first_line, no_line_ends}
use Rattle.frame_lines.proofs.LastLine.{last_one, last_none}
use Rattle.frame_lines.proofs.Meanings.{alike_cut}
use Rattle.frame_lines.proofs.Readers.{long_lenient}

-- ---- a line is answered as far as it is kept

pub cut_text : (line : List ℕ) → text_of_line (cut line) ≡ text_of_line line
cut_text line = ap respelled_text (alike_cut lenient_meaning None long_lenient line)

-- ---- how much is used

used_none_if : (room : ℕ) (lines : List (List ℕ)) (rest : List ℕ) → has_room room ≡ false → used_from room lines rest ≡ 0
unfolding used_from
used_none_if room [] rest e = ap (λ (t : Bool). used_if t (length rest)) e
used_none_if room (line ∷ lines) rest e = ap (λ (t : Bool). used_if t (suc (length line) + used_from (room - length (text_of_line line)) lines rest)) e

used_nothing : (k piece out : List ℕ) → has_room (length out) ≡ false → used_of k piece out ≡ 0
used_nothing [] piece out e = used_none_if (length out) (ended piece) (begun piece) e
used_nothing (b ∷ k) piece out e = ap (λ (t : Bool). used_if t (up_to_feed (first_of 10 piece) piece)) e

used_end : (k piece out : List ℕ) → 0 < length k → has_room (length out) ≡ true → used_of k piece out ≡ up_to_feed (first_of 10 piece) piece
used_end [] piece out h e = absurd (not-suc-le-zero h)
used_end (b ∷ k) piece out h e = ap (λ (t : Bool). used_if t (up_to_feed (first_of 10 piece) piece)) e

-- ---- nothing is put

nothing_put : (lines : List (List ℕ)) (before : List ℕ) → lines ≡ [] → AnswersIn (text_of_lines lines) before before 0
unfolding flatten
nothing_put lines before e =
    let t : [] ≡ text_of_lines lines = ap text_of_lines (sym e) in
    record { written_is = ap length t; text_is = t; rest_is = refl; none_is = λ k. refl }

module _ (p : Begun) (u : GoodBeginning p) where
  pub kept_length : length (kept p) ≡ p.length
  kept_length = length-take-le p.length p.bytes (omega (arith, u.good.within, u.good.places))

  all_kept : cut (kept p) ≡ kept p
  all_kept = take_all kept_characters (kept p) (omega (arith, kept_length, u.good.within))

  -- nothing more has come
  pub still_kept : kept p ≡ cut (begun (kept p ++ []))
  still_kept = sym (ap (λ (l : List ℕ). cut (begun l)) (append-nil (kept p)) ∙ ap cut (begun_all (kept p) u.unended) ∙ all_kept)

  module _ (piece before : List ℕ) where
    -- there is no room
    pub nothing_used : length before < longest_respelling → FedAs (kept p) piece before before (record { begun = p; used = 0; written = 0 })
    nothing_used h =
        let e : ended (kept p ++ []) ≡ [] = ap ended (append-nil (kept p)) ∙ u.unended in
        record {
          used_is = sym (used_nothing (kept p) piece before (lt-leb longest_respelling (length before) h));
          within = omega arith;
          good = u;
          kept_is = still_kept;
          answers = nothing_put (ended (kept p ++ [])) before e;
        }

    -- no line ends: all is kept
    pub goes_on : 0 < p.length → longest_respelling ≤ length before → line_feed_from piece 0 ≡ None → (next : Begun) → Keeps (cut (kept p ++ piece)) next → FedAs (kept p) piece before before (record { begun = next; used = length piece; written = 0 })
    unfolding place_of
    goes_on more room lost next k =
        let all : take (length piece) piece ≡ piece = take-length piece in
        let none_ends : ended (kept p ++ piece) ≡ [] = no_line_ends (kept p) piece 0 u.unended lost in
        record {
          used_is = sym (used_end (kept p) piece before (omega (arith, kept_length)) (le-leb longest_respelling (length before) room) ∙ ap (λ (o : Option ℕ). up_to_feed o piece) (lost_if 0 (first_of 10 piece) lost));
          within = omega arith;
          good = record { good = k.good; unended = ap ended k.kept_is ∙ ended_take kept_characters (kept p ++ piece) none_ends };
          kept_is = k.kept_is ∙ ap cut (sym (begun_all (kept p ++ piece) none_ends)) ∙ ap (λ (l : List ℕ). cut (begun (kept p ++ l))) (sym all);
          answers = nothing_put (ended (kept p ++ take (length piece) piece)) before (ap (λ (l : List ℕ). ended (kept p ++ l)) all ∙ none_ends);
        }

    -- the line ends at e
    module _ (more : 0 < p.length) (room : longest_respelling ≤ length before) (e : ℕ) (found : line_feed_from piece 0 ≡ Some e) where
      first_at : first_of 10 piece ≡ Some e
      unfolding place_of
      first_at = let n : e - 0 ≡ e = omega arith in found_if 0 e (first_of 10 piece) found ∙ ap Some n

      first : FirstLine piece e
      first = first_line piece e first_at

      pub end_within : e < length piece
      end_within = first.within

      abbrev used : List ℕ
      used = take (e + 1) piece

      used_is : used ≡ take (suc e) piece
      used_is = ap (λ (n : ℕ). take n piece) (add-one e)

      one_ends : ended (kept p ++ used) ≡ (kept p ++ take e piece) ∷ []
      one_ends = ap (λ (l : List ℕ). ended (kept p ++ l)) used_is ∙ ended_after (kept p) (take (suc e) piece) u.unended ∙ ap (joined (kept p)) first.alone

      none_begins : begun (kept p ++ used) ≡ []
      none_begins =
          ap (λ (l : List ℕ). begun (kept p ++ l)) used_is ∙ begun_after_lem (kept p) (take (suc e) piece) u.unended ∙ (λ i. begun_after (kept p) (first.alone i) (first.clears i))

      pub line_ends : (w : Begun) → Keeps (cut (kept p ++ take e piece)) w → (after : List ℕ) (r : ℕ) → AnswersIn (text_of_line (kept w)) before after r → (next : Begun) → Keeps [] next
          → FedAs (kept p) piece before after (record { begun = next; used = e + 1; written = r })
      unfolding ended flatten
      line_ends w k after r a next c =
          let line = kept p ++ take e piece in
          let text : text_of_line (kept w) ≡ text_of_lines (ended (kept p ++ used)) =
          ap text_of_line k.kept_is ∙ cut_text line ∙ sym (append-nil (text_of_line line)) ∙ ap text_of_lines (sym one_ends) in
          record {
            used_is = add-one e ∙ sym (used_end (kept p) piece before (omega (arith, kept_length)) (le-leb longest_respelling (length before) room) ∙ ap (λ (o : Option ℕ). up_to_feed o piece) first_at);
            within = omega (arith, first.within);
            good = record { good = c.good; unended = ap ended c.kept_is };
            kept_is = c.kept_is ∙ ap cut (sym none_begins);
            answers = subst (λ (t : List ℕ). AnswersIn t before after r) text a;
          }

-- ---- the end of the input

module _ (p : Begun) (u : GoodBeginning p) (before : List ℕ) where
  finished_if_lem : (t : Bool) → p.length ≡ 0 → finished_if t (kept p) ≡ []
  finished_if_lem true e = last_none p e
  finished_if_lem false e = refl

  pub nothing_left : p.length ≡ 0 → AnswersIn (finished_text (kept p) before) before before 0
  nothing_left e = nothing_put (finished_if (has_room (length before)) (kept p)) before (finished_if_lem (has_room (length before)) e)

  pub unanswered : length before < longest_respelling → AnswersIn (finished_text (kept p) before) before before 0
  unanswered h = nothing_put (finished_if (has_room (length before)) (kept p)) before (ap (λ (t : Bool). finished_if t (kept p)) (lt-leb longest_respelling (length before) h))

  pub last_answered : 0 < p.length → longest_respelling ≤ length before → (after : List ℕ) (r : ℕ) → AnswersIn (text_of_line (kept p)) before after r → AnswersIn (finished_text (kept p) before) before after r
  unfolding flatten
  last_answered more room after r a =
      let text : text_of_line (kept p) ≡ finished_text (kept p) before =
      sym (append-nil (text_of_line (kept p)))
      ∙ ap text_of_lines (sym (last_one p u.good more))
      ∙ ap (λ (t : Bool). text_of_lines (finished_if t (kept p))) (sym (le-leb longest_respelling (length before) room)) in
      subst (λ (t : List ℕ). AnswersIn t before after r) text a

-- ---- no line had begun

module _ (piece before after : List ℕ) (w : Whole) (h : WholeAs piece before after w) (p : Begun) (u : GoodBeginning p) (none_kept : kept p ≡ []) where
  -- no room is left
  pub room_used : length before - w.written < longest_respelling → FedAs (kept p) piece before after (record { begun = p; used = w.used; written = w.written })
  room_used k =
      let r : Fed = record { begun = p; used = w.used; written = w.written } in
      subst (λ (l : List ℕ). FedAs l piece before after r) (sym none_kept) (record {
        used_is = sym (h.used_is ∙ ap (λ (n : ℕ). w.used + n) (used_none_if (length before - w.written) (ended (drop w.used piece)) (begun (drop w.used piece)) (lt-leb longest_respelling (length before - w.written) k)) ∙ right_zero);
        within = h.within;
        good = u;
        kept_is = none_kept ∙ ap cut (sym h.begins);
        answers = h.answers;
      })
    where
      right_zero : w.used + 0 ≡ w.used
      right_zero = omega arith

  -- the rest is kept
  module _ (room : longest_respelling ≤ length before - w.written) (next : Begun) where
    abbrev rest : List ℕ
    rest = drop w.used piece

    none_ends : ended rest ≡ []
    none_ends = h.stops room

    ended_all : ended piece ≡ ended (take w.used piece)
    ended_all =
        ap ended (sym (take-append-drop w.used piece))
        ∙ ended_two (take w.used piece) rest
        ∙ ap (λ (l : List ℕ). ended (take w.used piece) ++ ended (l ++ rest)) h.begins
        ∙ ap (λ (l : List (List ℕ)). ended (take w.used piece) ++ l) none_ends
        ∙ append-nil (ended (take w.used piece))

    begun_rest : begun rest ≡ rest
    begun_rest = begun_all rest none_ends

    begun_whole : begun piece ≡ rest
    begun_whole =
        ap begun (sym (take-append-drop w.used piece))
        ∙ begun_two (take w.used piece) rest
        ∙ ap (λ (l : List ℕ). begun (l ++ rest)) h.begins
        ∙ begun_rest

    rest_used : used_from (length before - w.written) (ended rest) (begun rest) ≡ length rest
    unfolding used_from
    rest_used =
        ap (λ (l : List (List ℕ)). used_from (length before - w.written) l (begun rest)) none_ends
        ∙ ap (λ (t : Bool). used_if t (length (begun rest))) (le-leb longest_respelling (length before - w.written) room)
        ∙ ap length begun_rest

    pub rest_kept : Keeps (cut (kept p ++ rest)) next → FedAs (kept p) piece before after (record { begun = next; used = length piece; written = w.written })
    rest_kept k =
        let all : take (length piece) piece ≡ piece = take-length piece in
        let kept-rest : kept next ≡ cut rest = k.kept_is ∙ ap (λ (l : List ℕ). cut (l ++ rest)) none_kept in
        let r : Fed = record { begun = next; used = length piece; written = w.written } in
        subst (λ (l : List ℕ). FedAs l piece before after r) (sym none_kept) (record {
          used_is = sym (h.used_is ∙ ap (λ (n : ℕ). w.used + n) rest_used ∙ whole_length);
          within = omega arith;
          good = record { good = k.good; unended = ap ended kept-rest ∙ ended_take kept_characters rest none_ends };
          kept_is = kept-rest ∙ ap cut (sym (ap begun all ∙ begun_whole));
          answers = subst (λ (l : List (List ℕ)). AnswersIn (text_of_lines l) before after w.written) (sym (ap ended all ∙ ended_all)) h.answers;
        })
      where
        whole_length : w.used + length rest ≡ length piece
        whole_length = omega (arith, length-drop w.used piece, h.within)
