-- The lines of a piece, one after another: what holds at each turn, and what it leaves. Assumes nothing.
use mathlib.Core.Path.{◌≡◌, refl, sym, ap, subst, ◌∙◌}
use mathlib.Core.Bool.{Bool, true, false}
use mathlib.Core.List.{List, [], ◌∷◌, ◌++◌, append_assoc, append-nil}
use Prim.Native.Nat.{ℕ, suc, ◌+◌, ◌-◌, ◌*◌, ◌/◌, ◌≤◌, ◌<◌}
use native.Mathlib.Omega.{arith}
use lib.Dec.{ltb}
use lib.ListN.{length, take, drop, length-append, length-drop, take-append-drop}
use lib.Seq.{take_all, take-length, length-take-le, drop-drop, take-add, paste}
use Rattle.std.specs.Prelude.{Some, None, Ok, Err, Option}
use Rattle.frame_lines.specs.Answer.{Reply, longest, number_text, decimal, answer_of, laid, PutAs}
use Rattle.frame_lines.specs.Lines.{is_feed}
use Rattle.frame_lines.specs.Stream.{kept_characters, cut, ended, begun}
use Rattle.frame_lines.specs.Search.{here_if, first_of, place_of, line_feed_from}
use Rattle.frame_lines.specs.Feeds.{kept}
use Rattle.frame_lines.proofs.Answers.{Fitting, number_fits, answer_fits, put_behind, had_room}
use Rattle.frame_lines.proofs.Searching.{found_if, lost_if}
use Rattle.frame_lines.proofs.FeedPlaces.{FirstLine, first_line, line_found, no_line_ends}
use Rattle.frame_lines.proofs.Pieces.{joined, begun_after, ended_after, begun_after_lem, begun_all}
use Rattle.frame_answers.specs.declared.stream.Stream.{Stream}
use Rattle.frame_answers.specs.declared.stream.Ended.{Ended}
use Rattle.frame_answers.specs.LineStep.{Answer, recommended, refused}
use Rattle.frame_answers.specs.Texts.{text_of, after_lines, text_of_lines}
use Rattle.frame_answers.specs.Answered.{reply_says}
use Rattle.frame_answers.specs.Stream.{State, view_of, Good, Becomes, text_of_piece, after_piece, room_behind, up_to, used_of, line_ended, EndedAs, FedAs}
use Rattle.frame_answers.proofs.InTwo.{text_two, after_two, text_none}

-- ---- an answer has at most five bytes

pub text_fits : (a : Answer) → Fitting (text_of a)
unfolding text_of answer_of number_text decimal
text_fits (recommended volume near) = answer_fits (Ok (record { volume = volume; near = near }))
text_fits (refused n) = number_fits (ltb n 10) n

pub says_text : (reply : Reply) → answer_of reply ≡ text_of (reply_says reply)
unfolding answer_of text_of
says_text (Ok r) = refl
says_text (Err cause) = refl

-- ---- a stream in good order that nothing is fed

module _ (s : Stream) (good : Good s) where
  all_kept : cut (kept s.begun) ≡ kept s.begun
  all_kept = take_all kept_characters (kept s.begun) (omega (arith, length-take-le s.begun.length s.begun.bytes (omega (arith, good.begun.within, good.begun.places)), good.begun.within))

  pub after_none : after_piece (view_of s) [] ≡ view_of s
  unfolding after_piece after_lines
  after_none =
      let k = kept s.begun in
      let e : ended (k ++ []) ≡ [] = ap ended (append-nil k) ∙ good.unended in
      let b : cut (begun (k ++ [])) ≡ k = ap (λ (l : List ℕ). cut (begun l)) (append-nil k) ∙ ap cut (begun_all k good.unended) ∙ all_kept in
      λ i. record { controller = after_lines (view_of s).controller (e i); kept = b i }

-- ---- what is used of a text

-- with room for one answer more its first line is used, and what is used of the rest
first_used_if : (b : ℕ) (text : List ℕ) (n m : ℕ) (t : Bool) (o : Option ℕ) → is_feed b ≡ t → first_of 10 text ≡ o
    → ((k : ℕ) → first_of 10 text ≡ Some k → up_to text (suc m) ≡ take (suc k) text ++ up_to (drop (suc k) text) m) → here_if t o ≡ Some n
    → up_to (b ∷ text) (suc m) ≡ take (suc n) (b ∷ text) ++ up_to (drop (suc n) (b ∷ text)) m
unfolding up_to
first_used_if b text n m true o p q f e =
    let k : 0 ≡ n = cc in
    subst (λ (i : ℕ). up_to (b ∷ text) (suc m) ≡ take (suc i) (b ∷ text) ++ up_to (drop (suc i) (b ∷ text)) m) k (ap (λ (t : Bool). b ∷ up_to text (room_behind t m)) p)
first_used_if b text n m false None p q f e = let z : ◌≡◌ {A = ℕ} 0 1 = cc in absurd (omega arith)
first_used_if b text n m false (Some k) p q f e =
    let i : suc k ≡ n = cc in
    subst (λ (i : ℕ). up_to (b ∷ text) (suc m) ≡ take (suc i) (b ∷ text) ++ up_to (drop (suc i) (b ∷ text)) m) i (ap (λ (t : Bool). b ∷ up_to text (room_behind t m)) p ∙ ap (λ (l : List ℕ). b ∷ l) (f k q))

first_used : (text : List ℕ) (n m : ℕ) → first_of 10 text ≡ Some n → up_to text (suc m) ≡ take (suc n) text ++ up_to (drop (suc n) text) m
unfolding first_of
first_used [] n m e = let z : ◌≡◌ {A = ℕ} 0 1 = cc in absurd (omega arith)
first_used (b ∷ text) n m e = first_used_if b text n m (is_feed b) (first_of 10 text) refl refl (λ k. first_used text k m) e

-- a text without a line feed is used whole
whole_if : (b : ℕ) (text : List ℕ) (m : ℕ) (t : Bool) (o : Option ℕ) → is_feed b ≡ t → first_of 10 text ≡ o → ((n : ℕ) → first_of 10 text ≡ None → up_to text (suc n) ≡ text)
    → here_if t o ≡ None → up_to (b ∷ text) (suc m) ≡ b ∷ text
unfolding up_to
whole_if b text m true o p q f e = let z : ◌≡◌ {A = ℕ} 0 1 = cc in absurd (omega arith)
whole_if b text m false None p q f e = ap (λ (t : Bool). b ∷ up_to text (room_behind t m)) p ∙ ap (λ (l : List ℕ). b ∷ l) (f m q)
whole_if b text m false (Some n) p q f e = let z : ◌≡◌ {A = ℕ} 0 1 = cc in absurd (omega arith)

used_whole : (text : List ℕ) (m : ℕ) → first_of 10 text ≡ None → up_to text (suc m) ≡ text
unfolding first_of up_to
used_whole [] m e = refl
used_whole (b ∷ text) m e = whole_if b text m (is_feed b) (first_of 10 text) refl refl (used_whole text) e

used_none : (text : List ℕ) → up_to text 0 ≡ []
unfolding up_to
used_none [] = refl
used_none (b ∷ text) = refl

-- ---- a turn: the stream is fed the rest of a line with its line feed

module _ (s : State) (u : ended s.kept ≡ []) (text : List ℕ) (n : ℕ) (f : FirstLine text n) where
  line_ends : ended (s.kept ++ take (suc n) text) ≡ (s.kept ++ take n text) ∷ []
  line_ends = ended_after s.kept (take (suc n) text) u ∙ ap (joined s.kept) f.alone

  none_begins : begun (s.kept ++ take (suc n) text) ≡ []
  none_begins = begun_after_lem s.kept (take (suc n) text) u ∙ (λ i. begun_after s.kept (f.alone i) (f.clears i))

  line_text : text_of_piece s (take (suc n) text) ≡ text_of (line_ended s (take n text)).answer
  unfolding text_of_piece text_of_lines
  line_text = ap (text_of_lines s.controller) line_ends ∙ append-nil _

  line_after : after_piece s (take (suc n) text) ≡ record { controller = (line_ended s (take n text)).state; kept = [] }
  unfolding after_piece after_lines
  line_after = λ i. record { controller = after_lines s.controller (line_ends i); kept = cut (none_begins i) }

-- ---- what holds at each turn

pub record SoFar (self : State) (piece out₀ : List ℕ) (stream : Stream) (at written room : ℕ) (out : List ℕ) : Type 0 where
  pub within : at ≤ length piece
  pub becomes : Becomes (after_piece self (take at piece)) stream
  pub written_is : written ≡ length (text_of_piece self (take at piece))
  pub out_is : out ≡ laid (text_of_piece self (take at piece)) out₀
  pub fits : written + room * 5 ≤ length out₀
  pub used : used_of out₀ piece ≡ take at piece ++ up_to (drop at piece) room

module _ (piece out₀ : List ℕ) where
  pub starts : (s : Stream) → Good s → SoFar (view_of s) piece out₀ s 0 0 (length out₀ / 5) out₀
  starts s good = record {
    within = omega arith;
    becomes = record { good = good; is = sym (after_none s good) };
    written_is = ap length (sym (text_none (view_of s) good.unended));
    out_is = ap (λ (t : List ℕ). laid t out₀) (sym (text_none (view_of s) good.unended));
    fits = omega arith;
    used = refl;
  }

  module _ (self : State) (s : Stream) (at written room : ℕ) (out : List ℕ) (h : SoFar self piece out₀ s at written room out) where
    pub out_length : length out ≡ length out₀
    out_length =
        let t = text_of_piece self (take at piece) in
        let o : length out ≡ length t + length (drop (length t) out₀) = ap length h.out_is ∙ length-append t (drop (length t) out₀) in
        omega (arith, h.fits, h.written_is, length-drop (length t) out₀)

    reply_room : 0 < room → written + longest ≤ length out
    reply_room more = omega (arith, h.fits, out_length)

    -- room is left and a line feed was found at e
    module _ (e : ℕ) (found : line_feed_from piece at ≡ Some e) (more : 0 < room) where
      abbrev n : ℕ
      n = e - at

      first_is : first_of 10 (drop at piece) ≡ Some n
      unfolding place_of
      first_is = found_if at e (first_of 10 (drop at piece)) found

      first : FirstLine (drop at piece) n
      first = first_line (drop at piece) n first_is

      pub found_at : (at ≤ e) × (e < length piece)
      found_at = let f = line_found (kept s.begun) piece at h.becomes.good.unended e found in (f.least, f.within)

      next : take (e + 1) piece ≡ take at piece ++ take (suc n) (drop at piece)
      next = let k : e + 1 ≡ at + suc (e - at) = omega (arith, found_at.0) in ap (λ (m : ℕ). take m piece) k ∙ take-add at (suc (e - at)) piece

      rest : drop (suc n) (drop at piece) ≡ drop (e + 1) piece
      rest = let k : at + suc (e - at) ≡ e + 1 = omega (arith, found_at.0) in drop-drop (suc (e - at)) at piece ∙ ap (λ (m : ℕ). drop m piece) k

      abbrev part : List ℕ
      part = take n (drop at piece)

      abbrev answered : List ℕ
      answered = text_of (line_ended (view_of s) part).answer

      text_next : text_of_piece self (take (e + 1) piece) ≡ text_of_piece self (take at piece) ++ answered
      text_next =
          ap (text_of_piece self) next
          ∙ text_two self (take at piece) (take (suc n) (drop at piece))
          ∙ ap (λ (l : List ℕ). text_of_piece self (take at piece) ++ l)
          (ap (λ (x : State). text_of_piece x (take (suc n) (drop at piece))) (sym h.becomes.is)
          ∙ line_text (view_of s) h.becomes.good.unended (drop at piece) n first)

      after_next : after_piece self (take (e + 1) piece) ≡ record { controller = (line_ended (view_of s) part).state; kept = [] }
      after_next =
          ap (after_piece self) next
          ∙ after_two self (take at piece) (take (suc n) (drop at piece))
          ∙ ap (λ (x : State). after_piece x (take (suc n) (drop at piece))) (sym h.becomes.is)
          ∙ line_after (view_of s) h.becomes.good.unended (drop at piece) n first

      used_next : used_of out₀ piece ≡ take (e + 1) piece ++ up_to (drop (e + 1) piece) (room - 1)
      used_next =
          let k : room ≡ suc (room - 1) = omega arith in
          h.used
          ∙ ap (λ (m : ℕ). take at piece ++ up_to (drop at piece) m) k
          ∙ ap (λ (l : List ℕ). take at piece ++ l) (first_used (drop at piece) n (room - 1) first_is)
          ∙ sym (append_assoc (take at piece) (take (suc n) (drop at piece)) (up_to (drop (suc n) (drop at piece)) (room - 1)))
          ∙ (λ i. sym next i ++ up_to (rest i) (room - 1))

      module _ (r : Ended) (ends : EndedAs (view_of s) (take (e - at) (drop at piece)) r) where
        text_is : answer_of r.reply ≡ answered
        text_is = says_text r.reply ∙ ap text_of ends.reply

        pub goes_on : (w : ℕ) (o : List ℕ) → PutAs (answer_of r.reply) written out o w → SoFar self piece out₀ r.stream (e + 1) w (room - 1) o
        goes_on w o p =
            let put = had_room (answer_of r.reply) written out o w (reply_room more) p in
            record {
              within = omega (arith, found_at.1);
              becomes = record { good = ends.stream.good; is = ends.stream.is ∙ sym after_next };
              written_is = put.0 ∙ (λ i. h.written_is i + length (text_is i)) ∙ sym (length-append (text_of_piece self (take at piece)) answered) ∙ ap length (sym text_next);
              out_is =
                  put.1
                  ∙ (λ i. paste out (h.written_is i) (text_is i) (length (text_is i)))
                  ∙ put_behind (text_of_piece self (take at piece)) answered out₀ out h.out_is
                  ∙ ap (λ (t : List ℕ). laid t out₀) (sym text_next);
              fits = omega (arith, put.0, ap length text_is, (text_fits (line_ended (view_of s) part).answer).within, h.fits);
              used = used_next;
            }

    -- what is used is the piece up to a place, and no line ends behind it
    leaves : (end : ℕ) (r : Stream) → used_of out₀ piece ≡ take end piece → end ≤ length piece → text_of_piece self (take end piece) ≡ text_of_piece self (take at piece) → Becomes (after_piece self (take end piece)) r
        → FedAs self piece out₀ out (record { stream = r; used = end; written = written })
    leaves end r u w t b = record {
      stream = subst (λ (x : List ℕ). Becomes (after_piece self x) r) (sym u) b;
      used = sym (ap length u ∙ length-take-le end piece w);
      written = h.written_is ∙ ap length (sym t ∙ ap (text_of_piece self) (sym u));
      out = h.out_is ∙ ap (λ (x : List ℕ). laid x out₀) (sym t ∙ ap (text_of_piece self) (sym u));
    }

    -- no room is left
    pub no_room : room ≡ 0 → FedAs self piece out₀ out (record { stream = s; used = at; written = written })
    no_room e =
        leaves at s (h.used ∙ ap (λ (m : ℕ). take at piece ++ up_to (drop at piece) m) e ∙ ap (λ (l : List ℕ). take at piece ++ l) (used_none (drop at piece)) ∙ append-nil (take at piece))
        h.within refl h.becomes

    -- no line feed was found: what is left is kept
    module _ (lost : line_feed_from piece at ≡ None) (more : 0 < room) where
      pub none_ends : ended (kept s.begun ++ drop at piece) ≡ []
      none_ends = no_line_ends (kept s.begun) piece at h.becomes.good.unended lost

      all : take (length piece) piece ≡ take at piece ++ drop at piece
      all = take-length piece ∙ sym (take-append-drop at piece)

      text_rest : text_of_piece (view_of s) (drop at piece) ≡ []
      unfolding text_of_piece text_of_lines
      text_rest = ap (text_of_lines (view_of s).controller) none_ends

      text_all : text_of_piece self (take (length piece) piece) ≡ text_of_piece self (take at piece)
      text_all =
          ap (text_of_piece self) all
          ∙ text_two self (take at piece) (drop at piece)
          ∙ ap (λ (l : List ℕ). text_of_piece self (take at piece) ++ l) (ap (λ (x : State). text_of_piece x (drop at piece)) (sym h.becomes.is) ∙ text_rest)
          ∙ append-nil (text_of_piece self (take at piece))

      after_all : after_piece (view_of s) (drop at piece) ≡ after_piece self (take (length piece) piece)
      after_all =
          ap (λ (x : State). after_piece x (drop at piece)) h.becomes.is
          ∙ sym (after_two self (take at piece) (drop at piece))
          ∙ ap (after_piece self) (sym all)

      used_all : used_of out₀ piece ≡ take (length piece) piece
      unfolding place_of
      used_all =
          let k : room ≡ suc (room - 1) = omega arith in
          h.used
          ∙ ap (λ (m : ℕ). take at piece ++ up_to (drop at piece) m) k
          ∙ ap (λ (l : List ℕ). take at piece ++ l) (used_whole (drop at piece) (room - 1) (lost_if at (first_of 10 (drop at piece)) lost))
          ∙ sym all

      pub ends_piece : (r : Stream) → Becomes (after_piece (view_of s) (drop at piece)) r → FedAs self piece out₀ out (record { stream = r; used = length piece; written = written })
      ends_piece r b = leaves (length piece) r used_all (omega arith) text_all (subst (λ (x : State). Becomes x r) after_all b)
