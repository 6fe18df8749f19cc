-- What `parse` answers, way by way. Assumes nothing.
use mathlib.Core.Path.{◌≡◌, sym, ap, ◌∙◌}
use mathlib.Core.Bool.{Bool, true, false, ◌&&◌}
use mathlib.Core.List.{List, map}
use Prim.Native.Nat.{ℕ, ◌*◌, ◌≤◌, ◌<◌}
use native.Mathlib.Omega.{arith}
use lib.Ieee.{Float}
use lib.ListN.{length, drop, length-drop}
use borrow.Author.Tests.{le-leb, lt-leb}
use Rattle.std.specs.Prelude.{Some, None}
use Rattle.frame_lines.specs.declared.line.Head.{Head}
use Rattle.frame_lines.specs.Digits.{are_digits}
use Rattle.frame_lines.specs.Samples.{are_samples, samples_in}
use Rattle.frame_lines.specs.Line.{part, is_blank, is_dashed, level_is_good, samples_start, sample_text, head_is_good, is_framed, is_well_formed, fields_of, meaning}
use Rattle.frame_lines.specs.Parsed.{sample_of, samples_read, over, ParsedAs}
use Rattle.frame_lines.specs.Reading.{ReadAs}
use Rattle.frame_lines.proofs.Tests.{both, and_false}
use Rattle.frame_lines.proofs.Heads.{Headed, blank_within}
use Rattle.frame_lines.proofs.SampleTexts.{not_to_end, to_end, fours}

module _ (line : List ℕ) (before : List Float) where
  unframed : is_framed line ≡ false → ParsedAs line before before None
  unfolding meaning is_well_formed samples_read over
  unframed e = record { answer_is = simp e; lent_is = simp e }

  -- "A line over 2,000 characters is malformed"
  pub over_long : 2000 < length line → ParsedAs line before before None
  unfolding is_framed
  over_long h = unframed (simp (lt-leb _ _ h))

  pub headless : head_is_good line ≡ false → ParsedAs line before before None
  unfolding is_framed
  headless e = unframed (simp (e, and_false))

-- ---- whether a line is well formed

module _ (line : List ℕ) where
  pub long_malformed : 2000 < length line → is_well_formed line ≡ false
  unfolding is_well_formed is_framed
  long_malformed h = simp (lt-leb _ _ h)

  pub headless_malformed : head_is_good line ≡ false → is_well_formed line ≡ false
  unfolding is_well_formed is_framed
  headless_malformed e = simp (e, and_false)

-- ---- the samples lie within the line

start_within : (line : List ℕ) (t : Bool) → level_is_good t line ≡ true → samples_start t ≤ length line
start_within line true e = omega (arith, blank_within line 13 e)
start_within line false e = omega (arith, blank_within line 20 (both (are_digits (part line 12 8)) (is_blank line 20) e).second)

level_good : (line : List ℕ) → head_is_good line ≡ true → level_is_good (is_dashed line) line ≡ true
unfolding head_is_good
level_good line e = (both ((are_digits (part line 0 2) && is_blank line 2) && (are_digits (part line 3 8) && is_blank line 11)) (level_is_good (is_dashed line) line) e).second

module _ (line : List ℕ) (h : Head) (f : Headed line h) where
  pub starts_within : h.start ≤ length line
  starts_within = omega (arith, start_within line (is_dashed line) (level_good line f.good), f.start_is)

  -- the samples tell whether a line that is short enough is well formed
  pub samples_tell : length line ≤ 2000 → is_well_formed line ≡ are_samples (drop h.start line)
  unfolding is_well_formed is_framed
  samples_tell k =
      let short = le-leb _ _ k in
      let good = f.good in
      let start = f.start_is in
      simp (short, good, start)

  -- ---- the two ends

  module _ (short : length line ≤ 2000) (t : List ℕ) (is : t ≡ drop h.start line) (before after : List Float) (n : ℕ) (r : ReadAs t before after n) where
    framed : is_framed line ≡ true
    unfolding is_framed
    framed = simp (le-leb _ _ short, f.good)

    text : t ≡ sample_text line
    text = is ∙ sym (ap (λ (k : ℕ). drop k line) f.start_is)

    lent : after ≡ over (samples_read line) before
    unfolding samples_read
    lent = r.lent_is ∙ ap (λ (u : List ℕ). over (map sample_of (samples_in u)) before) text ∙ sym (simp framed)

    pub room : n * 4 ≤ 2000
    room = omega (arith, r.count_is, fours t, ap length is, length-drop h.start line)

    pub cut_short : n * 4 < length t → ParsedAs line before after None
    unfolding meaning is_well_formed
    cut_short k =
        let bad : are_samples (sample_text line) ≡ false = ap are_samples (sym text) ∙ not_to_end t (omega (arith, r.count_is)) in
        record { answer_is = simp (framed, bad); lent_is = lent }

    pub complete : length t ≤ n * 4 → ParsedAs line before after (Some (record { volume = h.volume; probability = h.probability; level = h.level; count = n }))
    unfolding meaning is_well_formed fields_of
    complete k =
        let good : are_samples (sample_text line) ≡ true = ap are_samples (sym text) ∙ to_end t (omega (arith, r.count_is)) in
        let count : n ≡ length (samples_in (sample_text line)) = r.count_is ∙ ap (λ (u : List ℕ). length (samples_in u)) text in
        let volume = sym f.volume_is in
        let probability = sym f.probability_is in
        let level = sym f.level_is in
        record { answer_is = (λ i. Some (record { volume = volume i; probability = probability i; level = level i; count = count i })) ∙ sym (simp (framed, good)); lent_is = lent }
