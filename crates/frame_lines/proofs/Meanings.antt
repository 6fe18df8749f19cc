-- What a line means is told by as much of it as a stream keeps; and the samples of a line in order are those that `parse` leaves in the lent slice. Assumes nothing.
use mathlib.Core.Path.{◌≡◌, refl, sym, ap, ◌∙◌}
use mathlib.Core.Bool.{Bool, true, false, ◌&&◌}
use mathlib.Core.List.{List, [], ◌∷◌, map}
use Prim.Native.Nat.{ℕ, ◌≤◌, ◌<◌}
use native.Mathlib.Nat.{le_of_suc-le-suc, not-suc-le-zero}
use native.Mathlib.Omega.{arith}
use native.Mathlib.Decide.{dec_le}
use lib.Ieee.{Float}
use lib.Dec.{leb}
use lib.ListN.{length, take, length-take, length-map, length-drop}
use lib.Seq.{take_all}
use borrow.Author.Tests.{lt-leb, leb-true}
use Rattle.std.specs.Prelude.{Option, Some, None}
use Rattle.frame_lines.specs.declared.line.Frame.{Frame}
use Rattle.frame_lines.specs.Digits.{are_digits}
use Rattle.frame_lines.specs.Samples.{are_samples}
use Rattle.frame_lines.specs.Line.{Fields, most_characters, most_samples, part, is_blank, is_dashed, level_is_good, samples_start, sample_text, head_is_good, is_framed, is_well_formed, fields_of, meaning_if, meaning}
use Rattle.frame_lines.specs.Parsed.{frame_of, parsed_of, sample_of, samples_read, over, ParsedAs}
use Rattle.frame_lines.specs.Stream.{kept_characters, cut}
use Rattle.frame_lines.proofs.Tests.{Both, both}
use Rattle.frame_lines.proofs.Counted.{two_below}
use Rattle.frame_lines.proofs.Parts.{part_two}
use Rattle.frame_lines.proofs.Heads.{blank_within}
use Rattle.frame_lines.proofs.SampleTexts.{fours}

too_long : (line : List ℕ) → most_characters < length line → meaning line ≡ None
unfolding meaning is_well_formed is_framed
too_long line h = simp (lt-leb _ _ h)

-- a line that is cut is too long, and so is what is kept of it: whoever makes one thing of all that are too long makes the same of both
pub alike_cut : {A : Type 0} (f : List ℕ → A) (x : A) → ((line : List ℕ) → most_characters < length line → f line ≡ x) → (line : List ℕ) → f (cut line) ≡ f line
alike_cut f x long line = elim (dec_le (length line) most_characters) [
  | yes h ↦ ap f (take_all kept_characters line (omega arith))
  | no h ↦ long (cut line) (omega (arith, length-take kept_characters line)) ∙ sym (long line (omega arith))
]

pub cut_alike : (line : List ℕ) → meaning (cut line) ≡ meaning line
cut_alike line = alike_cut meaning None too_long line

-- ---- the samples

framed_if : (line : List ℕ) (f : Fields) (t u : Bool) → meaning_if (t && u) line ≡ Some f → t ≡ true
framed_if line f true u e = refl
framed_if line f false u e = let z : ◌≡◌ {A = ℕ} 0 1 = cc in absurd (omega arith)

kept_if : (line : List ℕ) (f : Fields) (t : Bool) → meaning_if t line ≡ Some f → fields_of line ≡ f
kept_if line f true e = cc
kept_if line f false e = let z : ◌≡◌ {A = ℕ} 0 1 = cc in absurd (omega arith)

module _ (line : List ℕ) (f : Fields) (e : meaning line ≡ Some f) where
  framed : is_framed line ≡ true
  unfolding meaning is_well_formed
  framed = framed_if line f (is_framed line) (are_samples (sample_text line)) e

  fields : fields_of line ≡ f
  unfolding meaning
  fields = kept_if line f (is_well_formed line) e

  -- its volume is of two digits
  head : head_is_good line ≡ true
  unfolding is_framed
  head = (both (leb (length line) most_characters) (head_is_good line) framed).second

  volume_good : Both (are_digits (part line 0 2)) (is_blank line 2)
  unfolding head_is_good
  volume_good =
      let first = are_digits (part line 0 2) && is_blank line 2 in
      let second = are_digits (part line 3 8) && is_blank line 11 in
      both (are_digits (part line 0 2)) (is_blank line 2) (both first second (both (first && second) (level_is_good (is_dashed line) line) head).first).first

  pub small_volume : f.volume < 256
  unfolding fields_of
  small_volume =
      let g = volume_good in
      omega (arith, two_below (part_two line 0 (omega (arith, blank_within line 2 g.second))) g.first, ap (λ (g : Fields). g.volume) fields)

  pub samples_read_lem : samples_read line ≡ map sample_of f.samples
  unfolding samples_read fields_of
  samples_read_lem = (simp framed) ∙ ap (λ (g : Fields). map sample_of g.samples) fields

-- they are the first of the slice, where it has room
pub first_over : (xs ys : List Float) → length xs ≤ length ys → take (length xs) (over xs ys) ≡ xs
unfolding over
first_over [] ys h = refl
first_over (x ∷ xs) [] h = absurd (not-suc-le-zero h)
first_over (x ∷ xs) (y ∷ ys) h = ap (λ (l : List Float). x ∷ l) (first_over xs ys (le_of_suc-le-suc h))

-- ---- what an answer of `parse` tells

start_least : (t : Bool) → 14 ≤ samples_start t
start_least true = omega arith
start_least false = omega arith

short : (line : List ℕ) → is_framed line ≡ true → length line ≤ most_characters
unfolding is_framed
short line e = leb-true (length line) most_characters (both (leb (length line) most_characters) (head_is_good line) e).first

-- no line has more samples than fit
pub few_samples : (line : List ℕ) (f : Fields) → meaning line ≡ Some f → length f.samples ≤ most_samples
unfolding fields_of
few_samples line f e =
    let start = samples_start (is_dashed line) in
    omega (
      arith,
      ap (λ (g : Fields). length g.samples) (fields line f e),
      fours (sample_text line),
      length-drop start line,
      start_least (is_dashed line),
      short line (framed line f e),
    )

-- a line that was parsed, with its samples in the first places of a slice that has room for them
pub record FrameOf (line : List ℕ) (after : List Float) (frame : Frame) : Type 0 where
  pub meant : Fields
  pub means : meaning line ≡ Some meant
  pub is : frame ≡ frame_of meant
  pub samples_are : take frame.count after ≡ map sample_of meant.samples

module _ (line : List ℕ) (before after : List Float) where
  module _ (frame : Frame) (room : most_samples ≤ length before) (lent : after ≡ over (samples_read line) before) where
    frame_if : (o : Option Fields) → meaning line ≡ o → Some frame ≡ parsed_of o → FrameOf line after frame
    frame_if None m e = let z : ◌≡◌ {A = ℕ} 0 1 = cc in absurd (omega arith)
    frame_if (Some f) m e =
        let count : frame.count ≡ length f.samples = cc in
        let read = samples_read_lem line f m in
        let all : length (map sample_of f.samples) ≡ length f.samples = length-map f.samples sample_of in
        record {
          meant = f;
          means = m;
          is = cc;
          samples_are =
              (λ i. take ((count ∙ sym all) i) ((lent ∙ ap (λ (xs : List Float). over xs before) read) i))
              ∙ first_over (map sample_of f.samples) before (omega (arith, all, few_samples line f m));
        }

  pub told_frame : (r : Option Frame) (frame : Frame) → most_samples ≤ length before → ParsedAs line before after r → r ≡ Some frame → FrameOf line after frame
  told_frame r frame room p e = frame_if frame room p.lent_is (meaning line) refl (sym e ∙ p.answer_is)
