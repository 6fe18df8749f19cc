-- A stream's calls, from what the calls that they make say. Assumes nothing.
use mathlib.Core.Path.{◌≡◌, refl, sym, ap, subst, ◌∙◌}
use mathlib.Core.List.{List, [], ◌∷◌, ◌++◌, append-nil}
use Prim.Native.Nat.{ℕ, ◌≤◌}
use native.Mathlib.Omega.{arith}
use lib.IntN.{ℤ, pos}
use lib.ListN.{length}
use Rattle.mono_input_volume_controller.specs.declared.config.Config.{Config}
use Rattle.mono_input_volume_controller.specs.Config.{defaults}
use Rattle.input_volume_controller.specs.declared.Created.{Created}
use Rattle.input_volume_controller.specs.declared.InputVolumeController.{InputVolumeController}
use Rattle.input_volume_controller.specs.Controller.{making_of, CreatedOf}
use Rattle.input_volume_controller.specs.Controller as Controller
use Rattle.frame_lines.specs.declared.answer.Text.{Text}
use Rattle.frame_lines.specs.declared.lines.Begun.{Begun}
use Rattle.frame_lines.specs.Answer.{answer_of, held}
use Rattle.frame_lines.specs.Stream.{kept_characters, cut, ended, last_line}
use Rattle.frame_lines.specs.Feeds.{kept, Keeps}
use Rattle.frame_lines.proofs.Answers.{Fitting}
use Rattle.frame_lines.proofs.Pieces.{begun_all, ended_take}
use Rattle.frame_lines.proofs.LastLine.{last_one, last_none}
use Rattle.frame_answers.specs.declared.answers.Answered.{Answered}
use Rattle.frame_answers.specs.declared.stream.Stream.{Stream}
use Rattle.frame_answers.specs.LineStep.{LineStep, line_step}
use Rattle.frame_answers.specs.Texts.{text_of, after_lines, text_of_lines, start_controller}
use Rattle.frame_answers.specs.Answered.{AnsweredAs}
use Rattle.frame_answers.specs.Stream.{State, view_of, Good, Becomes, fresh_state, after_piece, finished_text, EndedAs}
use Rattle.frame_answers.proofs.InTwo.{cut_step}
use Rattle.frame_answers.proofs.Turns.{text_fits, says_text}

nothing_ends : (p : Begun) → kept p ≡ [] → ended (kept p) ≡ []
unfolding ended
nothing_ends p e = ap ended e

-- ---- a fresh stream

pub starts_fresh : (z : ℤ) (config : Config) (m : Created) (p : Begun) → CreatedOf z config m → config ≡ defaults → Keeps [] p → z ≡ pos 1 → Becomes fresh_state (record { controller = m.controller; begun = p })
unfolding start_controller
starts_fresh z config m p c d k e = record {
  good = record { controller = c.good; begun = k.good; unended = nothing_ends p k.kept_is };
  is = λ i. record { controller = (c.view ∙ (λ j. (making_of (e j) (d j)).controller)) i; kept = k.kept_is i };
}

-- ---- the rest of a piece is kept

pub keeps_part : (s : Stream) → Good s → (part : List ℕ) → ended (kept s.begun ++ part) ≡ [] → (p : Begun) → Keeps (cut (kept s.begun ++ part)) p
    → Becomes (after_piece (view_of s) part) (record { controller = s.controller; begun = p })
unfolding after_piece after_lines
keeps_part s good part none p k = record {
  good = record {
    controller = good.controller;
    begun = k.good;
    unended = ap ended k.kept_is ∙ ended_take kept_characters (kept s.begun ++ part) none;
  };
  is = λ i. record {
    controller = after_lines (view_of s).controller (sym none i);
    kept = (k.kept_is ∙ ap cut (sym (begun_all (kept s.begun ++ part) none))) i;
  };
}

-- ---- an answer's text

text_of_lem : (c : InputVolumeController) (line : List ℕ) (a : Answered) → AnsweredAs c line a → (t : Text) → t ≡ held (answer_of a.reply) → t ≡ held (text_of (line_step (Controller.view_of c) line).answer)
text_of_lem c line a h t e = e ∙ ap held (says_text a.reply ∙ ap text_of h.leads.reply)

-- ---- a line ends

module _ (s : Stream) (good : Good s) where
  -- none was begun before
  pub ends_within : kept s.begun ≡ [] → (part : List ℕ) (a : Answered) → AnsweredAs s.controller part a
      → EndedAs (view_of s) part (record { stream = record { controller = a.controller; begun = s.begun }; reply = a.reply })
  ends_within none part a h =
      let same : line_step (view_of s).controller part ≡ line_step (view_of s).controller (kept s.begun ++ part) = ap (λ (l : List ℕ). line_step (view_of s).controller (l ++ part)) (sym none) in
      record {
        stream = record {
          good = record { controller = h.leads.good; begun = good.begun; unended = good.unended };
          is = λ i. record { controller = (h.leads.view ∙ ap (λ (x : LineStep). x.state) same) i; kept = none i };
        };
        reply = h.leads.reply ∙ ap (λ (x : LineStep). x.answer) same;
      }

  -- one was: what was kept of it, and the part
  pub ends_begun : (part : List ℕ) (w : Begun) → Keeps (cut (kept s.begun ++ part)) w → (a : Answered) → AnsweredAs s.controller (kept w) a
      → (p : Begun) → Keeps [] p → EndedAs (view_of s) part (record { stream = record { controller = a.controller; begun = p }; reply = a.reply })
  ends_begun part w k a h p c =
      let same : line_step (view_of s).controller (kept w) ≡ line_step (view_of s).controller (kept s.begun ++ part) = ap (line_step (view_of s).controller) k.kept_is ∙ cut_step (view_of s).controller (kept s.begun ++ part) in
      record {
        stream = record {
          good = record { controller = h.leads.good; begun = c.good; unended = nothing_ends p c.kept_is };
          is = λ i. record { controller = (h.leads.view ∙ ap (λ (x : LineStep). x.state) same) i; kept = c.kept_is i };
        };
        reply = h.leads.reply ∙ ap (λ (x : LineStep). x.answer) same;
      }

-- ---- the end of the input

pub nothing_left : (s : Stream) → s.begun.length ≡ 0 → record { bytes = 0 ∷ 0 ∷ 0 ∷ 0 ∷ 0 ∷ []; length = 0 } ≡ held (finished_text (view_of s))
unfolding finished_text text_of_lines
nothing_left s e = ap (λ (lines : List (List ℕ)). held (text_of_lines (view_of s).controller lines)) (sym (last_none s.begun e))

pub line_left : (s : Stream) → Good s → (s.begun.length ≡ 0 → ⊥) → (a : Answered) → AnsweredAs s.controller (kept s.begun) a → (t : Text) → t ≡ held (answer_of a.reply) → t ≡ held (finished_text (view_of s))
unfolding finished_text text_of_lines
line_left s good more a h t k =
    text_of_lem s.controller (kept s.begun) a h t k
    ∙ ap held (sym (append-nil (text_of (line_step (view_of s).controller (kept s.begun)).answer)))
    ∙ ap (λ (lines : List (List ℕ)). held (text_of_lines (view_of s).controller lines)) (sym (last_one s.begun good.begun (omega arith)))

-- what is left is answered by one line at most
left_fits : (c : Controller.Controller) (l : List ℕ) → Fitting (text_of_lines c (last_line l))
unfolding text_of_lines
left_fits c [] = record { within = omega arith; places = refl }
left_fits c (b ∷ l) = subst Fitting (sym (append-nil (text_of (line_step c (b ∷ l)).answer))) (text_fits (line_step c (b ∷ l)).answer)

finished_fits : (s : State) → Fitting (finished_text s)
unfolding finished_text
finished_fits s = left_fits s.controller s.kept

-- so it lies within its array
pub finished_within : (s : State) (t : Text) → t ≡ held (finished_text s) → t.length ≤ length t.bytes
finished_within s t e =
    let f = finished_fits s in
    omega (arith, f.within, f.places, ap (λ (x : Text). x.length) e, ap (λ (x : Text). length x.bytes) e)
