-- However a text is cut into pieces, the stream answers what the definition says of the whole; so does every run of the code. Assumes nothing.
use mathlib.Core.Path.{◌≡◌, refl, sym, ap, subst, ◌∙◌}
use mathlib.Core.Bool.{Bool, true, false}
use mathlib.Core.List.{List, [], ◌∷◌, ◌++◌, flatten, append_assoc, append-nil}
use Prim.Native.Nat.{ℕ, zero, suc, ◌*◌, ◌/◌, ◌≤◌, ◌<◌}
use native.Mathlib.Nat.{le_of_suc-le-suc, not-suc-le-zero}
use native.Mathlib.Omega.{arith}
use lib.ListN.{length, take, drop, length-append, length-take}
use lib.Seq.{take-append_seam}
use Rattle.frame_lines.specs.declared.answer.Text.{Text}
use Rattle.frame_lines.specs.Answer.{longest}
use Rattle.frame_lines.specs.Lines.{is_feed}
use Rattle.frame_lines.specs.Stream.{ended, begun, last_line}
use Rattle.frame_lines.proofs.Answers.{held_text}
use Rattle.frame_lines.proofs.Pieces.{whole, last_cut}
use Rattle.frame_answers.specs.declared.stream.Stream.{Stream}
use Rattle.frame_answers.specs.declared.stream.Fed.{Fed}
use Rattle.frame_answers.specs.Texts.{after_lines, text_of_lines, start_controller, output_of}
use Rattle.frame_answers.specs.Stream.{State, view_of, Becomes, fresh_state, text_of_piece, after_piece, finished_text, text_of_pieces, room_behind, up_to, used_of, FedAs, Run, ends, feeds}
use Rattle.frame_answers.proofs.InTwo.{text_append, text_alike, text_two, after_two}

-- ---- the definition of the stream

-- what a stream answers that is fed a text and ends
abbrev in_all : State → List ℕ → List ℕ
in_all s text = text_of_piece s text ++ finished_text (after_piece s text)

-- x was fed before
one_more : (s : State) (x piece bytes : List ℕ) → text_of_piece s x ++ (text_of_piece (after_piece s x) piece ++ bytes) ≡ text_of_piece s (x ++ piece) ++ bytes
one_more s x piece bytes =
    sym (append_assoc (text_of_piece s x) (text_of_piece (after_piece s x) piece) bytes) ∙ ap (λ (l : List ℕ). l ++ bytes) (sym (text_two s x piece))

fed_before : (s : State) (x : List ℕ) (pieces : List (List ℕ)) → text_of_piece s x ++ text_of_pieces (after_piece s x) pieces ≡ in_all s (x ++ flatten pieces)
unfolding text_of_pieces flatten
fed_before s x [] = ap (in_all s) (sym (append-nil x))
fed_before s x (piece ∷ pieces) =
    one_more s x piece (text_of_pieces (after_piece (after_piece s x) piece) pieces)
    ∙ ap (λ (t : State). text_of_piece s (x ++ piece) ++ text_of_pieces t pieces) (sym (after_two s x piece))
    ∙ fed_before s (x ++ piece) pieces
    ∙ ap (in_all s) (append_assoc x piece (flatten pieces))

-- nothing was fed yet
fresh_text : text_of_piece fresh_state [] ≡ []
unfolding text_of_piece text_of_lines ended
fresh_text = refl

fresh_after : after_piece fresh_state [] ≡ fresh_state
unfolding after_piece after_lines ended begun
fresh_after = refl

fresh_all : (text : List ℕ) → in_all fresh_state text ≡ output_of text
unfolding output_of text_of_piece after_piece finished_text
fresh_all text =
    let c = after_lines start_controller (ended text) in
    ap (λ (l : List ℕ). text_of_lines start_controller (ended text) ++ l) (text_alike c _ _ (last_cut (begun text)))
    ∙ sym (text_append start_controller (ended text) (last_line (begun text)))
    ∙ ap (text_of_lines start_controller) (sym (whole text))

-- THE CLAIM about the definition: pieces of any number and size are answered as the whole text
pub pieces_answered : (pieces : List (List ℕ)) → text_of_pieces fresh_state pieces ≡ output_of (flatten pieces)
pieces_answered pieces =
    (λ i. sym fresh_text i ++ text_of_pieces (sym fresh_after i) pieces)
    ∙ fed_before fresh_state [] pieces
    ∙ fresh_all (flatten pieces)

-- ---- five bytes of room for each byte of a piece suffice for all of it

room_least : (t : Bool) (m n : ℕ) → m ≤ n → m ≤ room_behind t n
room_least true m n h = h
room_least false m n h = omega arith

roomy : (piece : List ℕ) (n : ℕ) → length piece ≤ n → up_to piece n ≡ piece
unfolding up_to
roomy [] n h = refl
roomy (b ∷ piece) zero h = absurd (not-suc-le-zero h)
roomy (b ∷ piece) (suc n) h = ap (λ (l : List ℕ). b ∷ l) (roomy piece (room_behind (is_feed b) n) (room_least (is_feed b) (length piece) n (le_of_suc-le-suc h)))

pub all_used : (piece out : List ℕ) → length piece * 5 ≤ length out → used_of out piece ≡ piece
all_used piece out h = roomy piece (length out / longest) (omega arith)

some_of : (piece : List ℕ) (n : ℕ) → 0 < length piece → 0 < n → 0 < length (up_to piece n)
unfolding up_to
some_of [] n h k = absurd (not-suc-le-zero h)
some_of (b ∷ piece) zero h k = absurd (not-suc-le-zero k)
some_of (b ∷ piece) (suc n) h k = omega arith

-- ---- the code, by its contracts

used_first : (piece : List ℕ) (n : ℕ) → take (length (up_to piece n)) piece ≡ up_to piece n
unfolding up_to
used_first [] n = refl
used_first (b ∷ piece) zero = refl
used_first (b ∷ piece) (suc n) = ap (λ (l : List ℕ). b ∷ l) (used_first piece (room_behind (is_feed b) n))

module _ (self : State) (piece before after : List ℕ) (r : Fed) (f : FedAs self piece before after r) where
  used_is : take r.used piece ≡ used_of before piece
  used_is = ap (λ (n : ℕ). take n piece) f.used ∙ used_first piece (length before / longest)

  bytes_are : take r.written after ≡ text_of_piece self (take r.used piece)
  bytes_are =
      let t = text_of_piece self (used_of before piece) in
      (λ i. take (f.written i) (f.out i)) ∙ take-append_seam t (drop (length t) before) ∙ ap (text_of_piece self) (sym used_is)

  state_is : view_of r.stream ≡ after_piece self (take r.used piece)
  state_is = f.stream.is ∙ ap (after_piece self) (sym used_is)

  -- the answers lie within the slice
  pub written_within : r.written ≤ length after
  written_within =
      let t = text_of_piece self (used_of before piece) in
      omega (arith, f.written, ap length f.out, length-append t (drop (length t) before))

  -- with five bytes for each byte of the piece all of it is used
  pub whole_piece : length piece * 5 ≤ length before → Becomes (after_piece self piece) r.stream
  whole_piece h = subst (λ (x : List ℕ). Becomes (after_piece self x) r.stream) (all_used piece before h) f.stream

  pub used_within : r.used ≤ length piece
  used_within = omega (arith, f.used, ap length used_is, length-take r.used piece)

  -- with room for an answer some of the piece is used
  pub some_used : 0 < length piece → 5 ≤ length before → 0 < r.used
  some_used h k = omega (arith, f.used, some_of piece (length before / longest) h (omega arith))

run_before : (s : State) (x : List ℕ) {stream : Stream} {text bytes : List ℕ} → view_of stream ≡ after_piece s x → Run stream text bytes → text_of_piece s x ++ bytes ≡ in_all s (x ++ text)
run_before s x e (ends r q) =
    ap (λ (l : List ℕ). text_of_piece s x ++ l) (ap (λ (t : Text). take t.length t.bytes) q ∙ held_text _ ∙ ap finished_text e) ∙ ap (in_all s) (sym (append-nil x))
run_before s x {stream} e (feeds {rest = rest} {bytes = bytes} piece before after r f run) =
    let used = take r.used piece in
    ap (λ (l : List ℕ). text_of_piece s x ++ (l ++ bytes)) (bytes_are _ piece before after r f ∙ ap (λ (t : State). text_of_piece t used) e)
    ∙ one_more s x used bytes
    ∙ run_before s (x ++ used) (state_is _ piece before after r f ∙ ap (λ (t : State). after_piece t used) e ∙ sym (after_two s x used)) run
    ∙ ap (in_all s) (append_assoc x used rest)

-- THE CLAIM about the code: however a text comes to a fresh stream, the bytes that are put are the definition's of the whole text
pub runs_answer : (stream : Stream) (text bytes : List ℕ) → Becomes fresh_state stream → Run stream text bytes → bytes ≡ output_of text
runs_answer stream text bytes b run =
    ap (λ (l : List ℕ). l ++ bytes) (sym fresh_text) ∙ run_before fresh_state [] (b.is ∙ sym fresh_after) run ∙ fresh_all text
