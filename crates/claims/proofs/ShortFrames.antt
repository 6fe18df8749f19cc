-- An entry with narrower limits: what it answers follows from what the larger entry does with the same frame. Assumes nothing.
use mathlib.Core.Path.{◌≡◌, refl, sym, ap, ◌∙◌, subst}
use mathlib.Core.Bool.{Bool, true, false, not, ◌&&◌}
use mathlib.Core.List.{List}
use Prim.Native.Nat.{ℕ, ◌≤◌}
use native.Mathlib.Omega.{arith}
use lib.Dec.{leb, eqb}
use lib.IntN.{ℤ}
use lib.Ieee.{Float}
use lib.ListN.{length}
use borrow.Author.Tests.{le-leb, leb-true}
use Rattle.std.specs.Prelude.{Err}
use Rattle.numbers.specs.declared.refusal.Refusal.TheVariants.{FrameLimits}
use Rattle.numbers.proofs.Signs.{clash}
use Rattle.numbers.proofs.Truths.{both_true}
use Rattle.clipping_predictor_level_buffer.specs.Level.{max_samples_per_channel}
use Rattle.clipping_predictor.specs.Predictor.{max_channels, frame_fits}
use Rattle.input_volume_controller.specs.declared.limits.Limits.{Limits}
use Rattle.input_volume_controller.specs.declared.Analyzed.{Analyzed}
use Rattle.input_volume_controller.specs.declared.InputVolumeController.{InputVolumeController}
use Rattle.input_volume_controller.specs.Volumes.{are_numbers, numbers_of, numbers_in}
use Rattle.input_volume_controller.specs.Limits.{plain_limits, spotter_limits, is_within}
use Rattle.input_volume_controller.specs.Controller.{Controller, view_of}
use Rattle.input_volume_controller.specs.Reply.{refusal, analysis_says, Stepped}
use Rattle.input_volume_controller.specs.Frame.{tested_as, with_volumes_applied, unless_refused, analyze_input_audio}
use Rattle.input_volume_controller.specs.Calls.{frame, step, AnalyzedEachOf}
use Rattle.input_volume_controller.proofs.Says.{analysis_fixed}
use Rattle.input_volume_controller.proofs.Whole.{whole_count}
use Rattle.claims.specs.Sharp.{is_refusal}
use Rattle.claims.specs.ShortFrames.{short, is_too_much, narrowed_if, narrowed, NarrowedTo, ShortFrames}
use Rattle.claims.proofs.Causes.{over_is}
use Rattle.claims.proofs.Outcomes.{plain_within}
use Rattle.claims.proofs.Accepted.{marked_used}

-- ---- by the tests

module _ (volumes : List ℕ) (samples : ℕ) (lent : List Float) (c : Controller) where
  -- the tests before the last are the same
  abbrev heard : Bool → Bool → Bool → Bool → Stepped
  heard counted inside fits within = unless_refused (tested_as counted inside fits within) volumes samples lent c

  abbrev narrowed_by : Bool → Stepped → Stepped
  narrowed_by over wide = narrowed_if (not (is_refusal wide.reply) && over) c wide

  accepts : is_refusal (heard true true true true).reply ≡ false
  accepts = marked_used c.control.used samples lent (with_volumes_applied volumes c)

  -- `wide` is passed wherever `narrow` is
  tested : (counted inside fits narrow wide : Bool) → (fits ≡ true → narrow ≡ true → wide ≡ true) → heard counted inside fits narrow ≡ narrowed_by (not narrow) (heard counted inside fits wide)
  tested false inside fits narrow wide h = refl
  tested true false fits narrow wide h = refl
  tested true true false narrow wide h = refl
  tested true true true true true h = sym (ap (λ (r : Bool). narrowed_if (not r && false) c (heard true true true true)) accepts)
  tested true true true true false h = clash (sym (h refl refl))
  tested true true true false true h = sym (ap (λ (r : Bool). narrowed_if (not r && true) c (heard true true true true)) accepts)
  tested true true true false false h = refl

  -- the plain limits are passed in every frame that fits
  never_eighteen : (counted inside fits within : Bool) → (fits ≡ true → within ≡ true) → (heard counted inside fits within).reply ≡ refusal 18 → ⊥
  never_eighteen false inside fits within h e = let z : ◌≡◌ {A = ℕ} 20 18 = cc in omega arith
  never_eighteen true false fits within h e = let z : ◌≡◌ {A = ℕ} 8 18 = cc in omega arith
  never_eighteen true true false within h e = let z : ◌≡◌ {A = ℕ} 9 18 = cc in omega arith
  never_eighteen true true true false h e = clash (sym (h refl))
  never_eighteen true true true true h e = clash (sym (sym accepts ∙ ap is_refusal e))

-- ---- by the limits

-- limits that are passed only where the plain ones are, in a frame that fits
abbrev Inside : Limits → ℕ → ℕ → List Float → Type 0
Inside most n samples lent = frame_fits n samples lent ≡ true → is_within most n samples ≡ true → is_within plain_limits n samples ≡ true

narrows : (most : Limits) (c : Controller) (volumes : List ℤ) (samples : ℕ) (lent : List Float) → Inside most (length c.control.channels) samples lent
    → step c (frame most volumes samples lent) ≡ narrowed most samples c (step c (frame plain_limits volumes samples lent))
unfolding analyze_input_audio
narrows most c volumes samples lent h =
    let n = length c.control.channels in
    tested (numbers_in (numbers_of volumes)) samples lent c (eqb (length volumes) n) (are_numbers (numbers_of volumes)) (frame_fits n samples lent) (is_within most n samples) (is_within plain_limits n samples) h
    ∙ ap (λ (over : Bool). narrowed_by (numbers_in (numbers_of volumes)) samples lent c over (step c (frame plain_limits volumes samples lent))) (sym (over_is most n samples))

-- the spotter's are narrower
spotter_inside : (n samples : ℕ) (lent : List Float) → Inside spotter_limits n samples lent
spotter_inside n samples lent f e =
    let both = both_true (leb n 2) (leb samples 160) e in
    λ i. le-leb n max_channels (omega (arith, leb-true n 2 both.0)) i && le-leb samples max_samples_per_channel (omega (arith, leb-true samples 160 both.1)) i

spotter_narrows : (c : Controller) (volumes : List ℤ) (samples : ℕ) (lent : List Float)
    → step c (frame spotter_limits volumes samples lent) ≡ narrowed short samples c (step c (frame plain_limits volumes samples lent))
spotter_narrows c volumes samples lent = narrows spotter_limits c volumes samples lent (spotter_inside (length c.control.channels) samples lent)

-- ---- the plain entry never says 18

plain_never : (c : Controller) (volumes : List ℤ) (samples : ℕ) (lent : List Float) → length c.control.channels ≤ 8 → (step c (frame plain_limits volumes samples lent)).reply ≡ refusal 18 → ⊥
unfolding analyze_input_audio
plain_never c volumes samples lent h e =
    let n = length c.control.channels in
    never_eighteen (numbers_in (numbers_of volumes)) samples lent c (eqb (length volumes) n) (are_numbers (numbers_of volumes)) (frame_fits n samples lent) (is_within plain_limits n samples) (plain_within n samples lent h) e

-- ---- the code

module _ (self : InputVolumeController) (volumes : List ℤ) (samples : ℕ) (lent : List Float) (wide r : Analyzed) (a : AnalyzedEachOf plain_limits self volumes samples lent wide)
    (b : AnalyzedEachOf spotter_limits self volumes samples lent r) where
  narrowed_to : (t : Bool) → step (view_of self) (frame spotter_limits volumes samples lent) ≡ narrowed_if t (view_of self) (step (view_of self) (frame plain_limits volumes samples lent)) → NarrowedTo t self wide r
  narrowed_to true e = let refused = analysis_fixed r.answer (Err FrameLimits) (b.does.reply ∙ ap (λ (s : Stepped). s.reply) e) in (refused, b.same FrameLimits refused)
  narrowed_to false e = (
    analysis_fixed r.answer wide.answer (b.does.reply ∙ ap (λ (s : Stepped). s.reply) e ∙ sym a.does.reply),
    b.does.view ∙ ap (λ (s : Stepped). s.state) e ∙ sym a.does.view,
  )

  in_code : NarrowedTo (is_too_much short self.control.channels.count samples (analysis_says wide.answer)) self wide r
  in_code =
      let plain = step (view_of self) (frame plain_limits volumes samples lent) in
      subst (λ (t : Bool). NarrowedTo t self wide r) (λ i. is_too_much short (whole_count self i) samples (sym a.does.reply i))
      (narrowed_to (is_too_much short (length (view_of self).control.channels) samples plain.reply) (spotter_narrows (view_of self) volumes samples lent))

-- THE CLAIM
pub short_frames : ShortFrames
short_frames = record {
  spotter = spotter_narrows;
  any = λ most c volumes samples lent h. narrows most c volumes samples lent (λ f e. plain_within (length c.control.channels) samples lent h f);
  plain = plain_never;
  two_of_160 = refl;
  one_of_161 = refl;
  three_of_one = refl;
  in_code = in_code;
}
