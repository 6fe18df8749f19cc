-- A text that is fed in two parts leads to what it leads to as one. Assumes nothing.
use mathlib.Core.Path.{◌≡◌, refl, sym, ap, ◌∙◌}
use mathlib.Core.List.{List, [], ◌∷◌, ◌++◌, map, append_assoc, append-nil}
use Prim.Native.Nat.{ℕ}
use Rattle.input_volume_controller.specs.Controller.{Controller}
use Rattle.frame_lines.specs.Stream.{cut, ended, begun}
use Rattle.frame_lines.proofs.Meanings.{cut_alike}
use Rattle.frame_lines.proofs.Pieces.{ended_two, begun_two, ended_begun, ended_cut, begins_cut}
use Rattle.frame_answers.specs.LineStep.{LineStep, meant_step, line_step}
use Rattle.frame_answers.specs.Texts.{text_of, after_lines, text_of_lines}
use Rattle.frame_answers.specs.Stream.{State, text_of_piece, after_piece}

-- ---- lines, one after another

pub text_append : (c : Controller) (xs ys : List (List ℕ)) → text_of_lines c (xs ++ ys) ≡ text_of_lines c xs ++ text_of_lines (after_lines c xs) ys
unfolding text_of_lines after_lines
text_append c [] ys = refl
text_append c (x ∷ xs) ys =
    let t = text_of (line_step c x).answer in
    let d = (line_step c x).state in
    ap (λ (l : List ℕ). t ++ l) (text_append d xs ys) ∙ sym (append_assoc t (text_of_lines d xs) (text_of_lines (after_lines d xs) ys))

pub after_append : (c : Controller) (xs ys : List (List ℕ)) → after_lines c (xs ++ ys) ≡ after_lines (after_lines c xs) ys
unfolding after_lines
after_append c [] ys = refl
after_append c (x ∷ xs) ys = after_append (line_step c x).state xs ys

-- ---- a line leads to the same as far as it is kept

pub cut_step : (c : Controller) (line : List ℕ) → line_step c (cut line) ≡ line_step c line
unfolding line_step
cut_step c line = ap (meant_step c) (cut_alike line)

text_map : (c : Controller) (lines : List (List ℕ)) → text_of_lines c (map cut lines) ≡ text_of_lines c lines
unfolding text_of_lines
text_map c [] = refl
text_map c (x ∷ xs) =
    (λ i. text_of (cut_step c x i).answer ++ text_of_lines (cut_step c x i).state (map cut xs))
    ∙ ap (λ (l : List ℕ). text_of (line_step c x).answer ++ l) (text_map (line_step c x).state xs)

after_map : (c : Controller) (lines : List (List ℕ)) → after_lines c (map cut lines) ≡ after_lines c lines
unfolding after_lines
after_map c [] = refl
after_map c (x ∷ xs) = ap (λ (s : LineStep). after_lines s.state (map cut xs)) (cut_step c x) ∙ after_map (line_step c x).state xs

module _ (c : Controller) (xs ys : List (List ℕ)) (e : map cut xs ≡ map cut ys) where
  pub text_alike : text_of_lines c xs ≡ text_of_lines c ys
  text_alike = sym (text_map c xs) ∙ ap (text_of_lines c) e ∙ text_map c ys

  pub after_alike : after_lines c xs ≡ after_lines c ys
  after_alike = sym (after_map c xs) ∙ ap (after_lines c) e ∙ after_map c ys

-- ---- two parts

module _ (s : State) (x y : List ℕ) where
  -- the lines that both end
  lines_of_both : ended (s.kept ++ (x ++ y)) ≡ ended (s.kept ++ x) ++ ended (begun (s.kept ++ x) ++ y)
  lines_of_both = ap ended (sym (append_assoc s.kept x y)) ∙ ended_two (s.kept ++ x) y

  lines_alike : map cut (ended (begun (s.kept ++ x) ++ y)) ≡ map cut (ended (cut (begun (s.kept ++ x)) ++ y))
  lines_alike = sym (ended_cut (begun (s.kept ++ x)) y (ended_begun (s.kept ++ x)))

  pub text_two : text_of_piece s (x ++ y) ≡ text_of_piece s x ++ text_of_piece (after_piece s x) y
  unfolding text_of_piece after_piece
  text_two =
      let c = after_lines s.controller (ended (s.kept ++ x)) in
      ap (text_of_lines s.controller) lines_of_both
      ∙ text_append s.controller (ended (s.kept ++ x)) (ended (begun (s.kept ++ x) ++ y))
      ∙ ap (λ (l : List ℕ). text_of_lines s.controller (ended (s.kept ++ x)) ++ l) (text_alike c _ _ lines_alike)

  controller_two : (after_piece s (x ++ y)).controller ≡ (after_piece (after_piece s x) y).controller
  unfolding after_piece
  controller_two =
      let c = after_lines s.controller (ended (s.kept ++ x)) in
      ap (after_lines s.controller) lines_of_both
      ∙ after_append s.controller (ended (s.kept ++ x)) (ended (begun (s.kept ++ x) ++ y))
      ∙ after_alike c _ _ lines_alike

  kept_two : (after_piece s (x ++ y)).kept ≡ (after_piece (after_piece s x) y).kept
  unfolding after_piece
  kept_two =
      ap (λ (l : List ℕ). cut (begun l)) (sym (append_assoc s.kept x y))
      ∙ ap cut (begun_two (s.kept ++ x) y)
      ∙ sym (begins_cut (begun (s.kept ++ x)) y (ended_begun (s.kept ++ x)))

  pub after_two : after_piece s (x ++ y) ≡ after_piece (after_piece s x) y
  after_two = λ i. record { controller = controller_two i; kept = kept_two i }

-- ---- nothing is fed: no line ends in what is kept, and all of it is kept

module _ (s : State) (u : ended s.kept ≡ []) where
  pub text_none : text_of_piece s [] ≡ []
  unfolding text_of_piece text_of_lines
  text_none = ap (λ (l : List ℕ). text_of_lines s.controller (ended l)) (append-nil s.kept) ∙ ap (text_of_lines s.controller) u
