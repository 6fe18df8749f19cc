-- A piece whose first lines were fed, and then the rest of it, with what is left of the slice for the answers. Assumes nothing.
use mathlib.Core.Path.{◌≡◌, sym, ap, subst, ◌∙◌}
use mathlib.Core.List.{List, [], ◌++◌, append_assoc}
use Prim.Native.Nat.{ℕ, ◌+◌, ◌-◌, ◌/◌, ◌≤◌, ◌<◌}
use native.Mathlib.Omega.{arith}
use lib.ListN.{length, take, drop, length-append, length-drop, take-append-drop}
use lib.Seq.{length-take-le, take-append_seam, drop-append_seam, drop-append-le, drop-drop}
use Rattle.std.specs.Prelude.{Some, None}
use Rattle.frame_lines.specs.Answer.{longest, answer_of, laid, PutAs}
use Rattle.frame_lines.specs.Stream.{ended}
use Rattle.frame_lines.specs.Search.{line_feed_from}
use Rattle.frame_lines.specs.Feeds.{kept}
use Rattle.frame_lines.proofs.Answers.{answer_fits, had_room}
use Rattle.frame_answers.specs.declared.stream.Stream.{Stream}
use Rattle.frame_answers.specs.declared.stream.Fed.{Fed}
use Rattle.frame_answers.specs.declared.stream.Ended.{Ended}
use Rattle.frame_answers.specs.Stream.{State, view_of, Good, Becomes, text_of_piece, after_piece, up_to, used_of, EndedAs, FedAs}
use Rattle.frame_answers.proofs.InTwo.{text_two, after_two}
use Rattle.frame_lines.proofs.Parts.{lent_rest}
use Rattle.frame_answers.proofs.Turns.{SoFar, starts, out_length, found_at, goes_on, none_ends, ends_piece}

-- a text at the beginning of a part lies at the beginning of the whole
laid_part : (k : ℕ) (x out : List ℕ) → length x ≤ length (take k out) → laid x (take k out) ++ drop k out ≡ laid x out
laid_part k x out h =
    append_assoc x (drop (length x) (take k out)) (drop k out)
    ∙ ap (λ (l : List ℕ). x ++ l) (sym (drop-append-le (length x) (take k out) (drop k out) h) ∙ ap (drop (length x)) (take-append-drop k out))

-- two texts, one behind the other
laid_behind : (t x out : List ℕ) → t ++ laid x (drop (length t) out) ≡ laid (t ++ x) out
laid_behind t x out =
    sym (append_assoc t x (drop (length x) (drop (length t) out)))
    ∙ ap (λ (l : List ℕ). (t ++ x) ++ l) (drop-drop (length x) (length t) out ∙ ap (λ (n : ℕ). drop n out) (sym (length-append t x)))

module _ (self : State) (piece out₀ : List ℕ) (s : Stream) (at written room : ℕ) (out : List ℕ) (h : SoFar self piece out₀ s at written room out) (n : ℕ) where
  -- the rest, as a part of the piece to its end; and, as a part of the slice between two places, n places for its answers
  abbrev rest : List ℕ
  rest = take (length piece - at) (drop at piece)

  abbrev k : ℕ
  k = written + n - written

  abbrev left : List ℕ
  left = take k (drop written out)

  module _ (fits : written + n ≤ length out) (roomy : n / longest ≡ room) (after : List ℕ) (same : length after ≡ length left) (r : Fed) (f : FedAs (view_of s) rest left after r) where
    abbrev used : List ℕ
    used = used_of left rest

    -- the answers to the first lines, and to the rest
    abbrev first : List ℕ
    first = text_of_piece self (take at piece)

    abbrev others : List ℕ
    others = text_of_piece (view_of s) used

    used_both : used_of out₀ piece ≡ take at piece ++ used
    used_both =
        let e : room ≡ length left / longest = omega (arith, roomy, length-take-le k (drop written out) (omega (arith, fits, length-drop written out))) in
        h.used ∙ (λ i. take at piece ++ up_to (sym (lent_rest piece at) i) (e i))

    text_both : text_of_piece self (used_of out₀ piece) ≡ first ++ others
    text_both = ap (text_of_piece self) used_both ∙ text_two self (take at piece) used ∙ ap (λ (x : State). first ++ text_of_piece x used) (sym h.becomes.is)

    after_both : after_piece self (used_of out₀ piece) ≡ after_piece (view_of s) used
    after_both = ap (after_piece self) used_both ∙ after_two self (take at piece) used ∙ ap (λ (x : State). after_piece x used) (sym h.becomes.is)

    out_both : take written out ++ (after ++ drop k (drop written out)) ≡ laid (text_of_piece self (used_of out₀ piece)) out₀
    out_both =
        let behind : drop written out ≡ drop (length first) out₀ = (λ i. drop (h.written_is i) (h.out_is i)) ∙ drop-append_seam first (drop (length first) out₀) in
        (λ i. ((λ j. take (h.written_is j) (h.out_is j)) ∙ take-append_seam first (drop (length first) out₀)) i ++ (f.out i ++ drop k (drop written out)))
        ∙ ap (λ (l : List ℕ). first ++ l) (laid_part k others (drop written out) (omega (arith, same, ap length f.out, length-append others (drop (length others) left))))
        ∙ ap (λ (l : List ℕ). first ++ laid others l) behind
        ∙ laid_behind first others out₀
        ∙ ap (λ (t : List ℕ). laid t out₀) (sym text_both)

    pub then_rest : FedAs self piece out₀ (take written out ++ (after ++ drop k (drop written out))) (record { stream = r.stream; used = r.used + at; written = r.written + written })
    then_rest = record {
      stream = subst (λ (x : State). Becomes x r.stream) (sym after_both) f.stream;
      used = omega (arith, f.used, ap length used_both, length-append (take at piece) used, length-take-le at piece h.within);
      written = omega (arith, f.written, h.written_is, ap length text_both, length-append first others);
      out = out_both;
    }

-- ---- a line that had begun ends in a piece, and then comes the rest of it, with the room of one answer less

module _ (s : Stream) (good : Good s) (piece out : List ℕ) (room : longest ≤ length out) where
  begins : SoFar (view_of s) piece out s 0 0 (length out / 5) out
  begins = starts piece out s good

  some_room : 0 < length out / 5
  some_room = omega arith

  pub no_end : line_feed_from piece 0 ≡ None → ended (kept s.begun ++ piece) ≡ []
  no_end lost = none_ends _ _ _ _ _ _ _ _ begins lost some_room

  pub all_kept : line_feed_from piece 0 ≡ None → (r : Stream) → Becomes (after_piece (view_of s) piece) r → FedAs (view_of s) piece out out (record { stream = r; used = length piece; written = 0 })
  all_kept lost r b = ends_piece _ _ _ _ _ _ _ _ begins lost some_room r b

  module _ (e : ℕ) (found : line_feed_from piece 0 ≡ Some e) where
    pub end_within : e < length piece
    end_within = (found_at _ _ _ _ _ _ _ _ begins e found some_room).1

    module _ (r : Ended) (ends : EndedAs (view_of s) (take e piece) r) (put : List ℕ) (start : ℕ) (p : PutAs (answer_of r.reply) 0 out put start) where
      first_fed : SoFar (view_of s) piece out r.stream (e + 1) start (length out / 5 - 1) put
      first_fed =
          let n : e ≡ e - 0 = omega arith in
          goes_on _ _ _ _ _ _ _ _ begins e found some_room r (subst (λ (m : ℕ). EndedAs (view_of s) (take m piece) r) n ends) start put p

      pub same_room : length put ≡ length out
      same_room = out_length _ _ _ _ _ _ _ _ first_fed

      pub others_fit : start + (length out - 5) ≤ length put
      others_fit = omega (arith, same_room, (had_room (answer_of r.reply) 0 out put start room p).0, (answer_fits r.reply).within)

      pub both_fed : (after : List ℕ) → length after ≡ length (take (start + (length out - 5) - start) (drop start put)) → (f : Fed)
          → FedAs (view_of r.stream) (take (length piece - (e + 1)) (drop (e + 1) piece)) (take (start + (length out - 5) - start) (drop start put)) after f
          → FedAs (view_of s) piece out (take start put ++ (after ++ drop (start + (length out - 5) - start) (drop start put))) (record { stream = f.stream; used = f.used + (e + 1); written = f.written + start })
      both_fed after same f fed = then_rest _ _ _ _ _ _ _ _ first_fed _ others_fit (omega arith) after same f fed
