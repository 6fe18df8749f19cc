-- However a text comes to `feed`, in pieces of any number and size, the bytes that are put are the definition's of the whole. Assumes nothing.
use mathlib.Core.Path.{◌≡◌, refl, sym, ap, ◌∙◌}
use mathlib.Core.Bool.{Bool}
use mathlib.Core.List.{List, [], ◌∷◌, ◌++◌, flatten}
use Prim.Native.Nat.{ℕ, suc, ◌+◌, ◌-◌, ◌≤◌, ◌<◌}
use native.Mathlib.Omega.{arith}
use lib.ListN.{length, take, length-take}
use borrow.Author.Tests.{le-leb}
use Rattle.std.specs.Prelude.{Option, None, Some}
use Rattle.frame_lines.specs.declared.lines.Begun.{Begun}
use Rattle.frame_lines.specs.declared.respelling.Fed.{Fed}
use Rattle.frame_lines.specs.Search.{first_of}
use Rattle.frame_lines.specs.Stream.{cut, ended, begun, handed_on}
use Rattle.frame_lines.specs.Feeds.{kept, Keeps}
use Rattle.frame_lines.specs.Respelled.{longest_respelling, text_of_line, text_of_lines, respelled_of, used_if, used_from, up_to_feed, used_of, FedAs, finished_if, Run, ends, feeds}
use Rattle.frame_lines.proofs.Pieces.{pieces_read, begun_all}
use Rattle.frame_lines.proofs.Wholes.{text_append}
use Rattle.frame_lines.proofs.Fedways.{cut_text}

-- ---- the pieces of a run

unfoldable parts : {p : Begun} {text bytes : List ℕ} → Run p text bytes → List (List ℕ)
parts (ends before after r room a) = []
parts (feeds piece before after r f run) = take r.used piece ∷ parts run

parts_whole : {p : Begun} {text bytes : List ℕ} (run : Run p text bytes) → text ≡ flatten (parts run)
unfolding flatten parts
parts_whole (ends before after r room a) = refl
parts_whole (feeds piece before after r f run) = ap (λ (l : List ℕ). take r.used piece ++ l) (parts_whole run)

-- the lines that they hand on are answered
run_text : {p : Begun} {text bytes : List ℕ} (run : Run p text bytes) → bytes ≡ text_of_lines (handed_on (kept p) (parts run))
unfolding handed_on parts
run_text {p} (ends before after r room a) = a.text_is ∙ ap (λ (t : Bool). text_of_lines (finished_if t (kept p))) (le-leb longest_respelling (length before) room)
run_text {p} (feeds piece before after r f run) =
    let used = take r.used piece in
    (λ i. f.answers.text_is i ++ run_text run i)
    ∙ ap (λ (k : List ℕ). text_of_lines (ended (kept p ++ used)) ++ text_of_lines (handed_on k (parts run))) f.kept_is
    ∙ sym (text_append (ended (kept p ++ used)) (handed_on (cut (begun (kept p ++ used))) (parts run)))

-- THE CLAIM about the code
pub runs_respell : (p : Begun) (text bytes : List ℕ) → Keeps [] p → Run p text bytes → bytes ≡ respelled_of text
unfolding respelled_of
runs_respell p text bytes k run =
    run_text run
    ∙ ap (λ (l : List ℕ). text_of_lines (handed_on l (parts run))) k.kept_is
    ∙ ap flatten (pieces_read text_of_line cut_text (parts run))
    ∙ ap respelled_of (sym (parts_whole run))

-- ---- how far a call comes

used_some_if : (room : ℕ) (piece : List ℕ) (lines : List (List ℕ)) → ended piece ≡ lines → longest_respelling ≤ room → 0 < length piece → 0 < used_from room lines (begun piece)
unfolding used_from
used_some_if room piece [] e h k = omega (arith, ap (λ (t : Bool). used_if t (length (begun piece))) (le-leb longest_respelling room h), ap length (begun_all piece e))
used_some_if room piece (line ∷ lines) e h k = omega (arith, ap (λ (t : Bool). used_if t (suc (length line) + used_from (room - length (text_of_line line)) lines (begun piece))) (le-leb longest_respelling room h))

end_some : (o : Option ℕ) (piece : List ℕ) → 0 < length piece → 0 < up_to_feed o piece
end_some None piece h = h
end_some (Some n) piece h = omega arith

used_some : (k piece out : List ℕ) → longest_respelling ≤ length out → 0 < length piece → 0 < used_of k piece out
used_some [] piece out h m = used_some_if (length out) piece (ended piece) refl h m
used_some (b ∷ k) piece out h m = omega (arith, ap (λ (t : Bool). used_if t (up_to_feed (first_of 10 piece) piece)) (le-leb longest_respelling (length out) h), end_some (first_of 10 piece) piece m)

module _ (k piece before after : List ℕ) (r : Fed) (f : FedAs k piece before after r) where
  -- with room for the longest answer some of a piece is used
  pub some_used : longest_respelling ≤ length before → 0 < length piece → 0 < r.used
  some_used h m = omega (arith, f.used_is, used_some k piece before h m)

  -- the answers lie within the slice
  pub written_within : r.written ≤ length after
  written_within = omega (arith, f.answers.written_is, ap length f.answers.text_is, length-take r.written after)
