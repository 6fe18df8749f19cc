-- What a line leads to, by the tests on the way, and from what the calls that it makes say. Assumes nothing.
use mathlib.Core.Path.{◌≡◌, refl, sym, ap, subst, ◌∙◌}
use mathlib.Core.Bool.{Bool, true, false, ◌&&◌}
use mathlib.Core.List.{List, map}
use Prim.Native.Nat.{ℕ, ◌*◌, ◌≤◌, ◌<◌}
use native.Mathlib.Omega.{arith}
use lib.Dec.{leb, eqb}
use borrow.Author.Tests.{eq-eqb}
use lib.IntN.{ℤ, pos}
use lib.Ieee.{Float}
use mir.Syntax.{w32}
use mir.Val.{SFits, to_z, of_z}
use mir.ValLaws.{to_z-of_z}
use lib.ListN.{length, take, replicate, length-map, length-replicate}
use Rattle.numbers.specs.declared.refusal.Refusal.{Refusal}
use Rattle.numbers.specs.declared.refusal.Refusal.TheVariants.{FrameLine, FrameSize}
use Rattle.numbers.specs.Refusal.{number_of}
use Rattle.numbers.proofs.Signs.{clash}
use Rattle.numbers.proofs.Ranges.{inside}
use Rattle.clipping_predictor_level_buffer.specs.Level.{max_samples_per_channel, is_frame_size}
use Rattle.clipping_predictor.specs.Predictor.{frame_fits}
use Rattle.mono_input_volume_controller.specs.MonoState.{max_input_volume}
use Rattle.input_volume_controller.specs.Frame.{tested_as, unless_refused, analyze_input_audio}
use Rattle.input_volume_controller.specs.declared.Analyzed.{Analyzed}
use Rattle.input_volume_controller.specs.declared.InputVolumeController.{InputVolumeController}
use Rattle.input_volume_controller.specs.Controller.{Controller, view_of, Good}
use Rattle.input_volume_controller.specs.Reply.{Reply, mark, refusal, analysis_says}
use Rattle.input_volume_controller.specs.Volumes.{equal_volumes, number_set, are_numbers, numbers_of, numbers_in}
use Rattle.input_volume_controller.specs.Limits.{plain_limits, is_within}
use Rattle.input_volume_controller.specs.Calls.{Call, frame, recommendation, step, AnalyzedOf}
use Rattle.input_volume_controller.proofs.Whole.{control_count}
use Rattle.std.specs.Prelude.{Result, Some, None, Ok, Err, Option}
use Rattle.std.specs.Prelude as Prelude
use Rattle.frame_lines.specs.declared.line.Frame.{Frame}
use Rattle.frame_lines.specs.Line.{Fields, most_samples, meaning}
use Rattle.frame_lines.specs.Parsed.{frame_of, parsed_of, sample_of, ParsedAs}
use Rattle.frame_lines.proofs.Meanings.{FrameOf, few_samples, small_volume}
use Rattle.frame_answers.specs.declared.answers.Answered.{Answered}
use Rattle.frame_answers.specs.LineStep.{frame_call, recommendation_call, LineStep, refused_line, recommended_line, after_frame, meant_step, line_step}
use Rattle.frame_answers.specs.Ready.{sized_if, ready_of}
use Rattle.frame_answers.specs.Answered.{Leads, AnsweredAs, VolumePending, RecommendedAs, Makes, FrameAnsweredAs}
use Rattle.input_volume_controller.proofs.SetNumbers.{equal_numbers}
use Rattle.frame_answers.proofs.Recommended.{frame_pending}

-- ---- the definition, by the tests on the way

module _ (c : Controller) (line : List ℕ) where
  pub line_malformed : meaning line ≡ None → line_step c line ≡ refused_line (number_of FrameLine) c
  unfolding line_step
  line_malformed e = ap (meant_step c) e

  module _ (f : Fields) (e : meaning line ≡ Some f) where
    pub line_refused : (n : ℕ) → (step c (frame_call (length c.control.channels) f)).reply ≡ refusal n → line_step c line ≡ refused_line n c
    unfolding line_step
    line_refused n r = ap (meant_step c) e ∙ ap (λ (x : Reply). after_frame f c x (step c (frame_call (length c.control.channels) f)).state) r

    pub line_marked : (near : Bool) → (step c (frame_call (length c.control.channels) f)).reply ≡ mark near → line_step c line ≡ recommended_line near (step (step c (frame_call (length c.control.channels) f)).state (recommendation_call f))
    unfolding line_step
    line_marked near r = ap (meant_step c) e ∙ ap (λ (x : Reply). after_frame f c x (step c (frame_call (length c.control.channels) f)).state) r

-- ---- a frame that no controller takes

still_false : (a b c : Bool) → (a && b) ≡ false → (a && (b && c)) ≡ false
still_false true true c e = clash e
still_false true false c e = refl
still_false false b c e = refl

misfits : (k n : ℕ) (lent : List Float) → is_frame_size n ≡ false → frame_fits k n lent ≡ false
unfolding frame_fits
misfits k n lent e = still_false (leb 1 n) (leb n max_samples_per_channel) (eqb (length lent) (k * n)) e

-- the numbers of a line's volume, for any count of channels
line_numbers : (v k : ℕ) → v < 256 → numbers_of (equal_volumes (pos v) k) ≡ number_set (replicate k v)
line_numbers v k h = equal_numbers (pos v) v k (sym (inside 0 max_input_volume v (omega arith) (omega arith)))

unfit : (c : Controller) (v n : ℕ) (lent : List Float) → v < 256 → is_frame_size n ≡ false
    → (step c (frame plain_limits (equal_volumes (pos v) (length c.control.channels)) n lent)).reply ≡ refusal (number_of FrameSize)
unfolding analyze_input_audio
unfit c v n lent h e =
    let k = length c.control.channels in
    let counted = eq-eqb (length (equal_volumes (pos v) k)) k (length-replicate k (pos v)) in
    let numbers = line_numbers v k h in
    λ i. (unless_refused (tested_as (counted i) (are_numbers (numbers i)) (misfits k n lent e i) (is_within plain_limits k n)) (numbers_in (numbers i)) n lent c).reply

-- ---- what the calls say

leads_as : (s t : LineStep) (r : Answered) → s ≡ t → Leads s r → Leads t r
leads_as s t r e h = subst (λ (x : LineStep). Leads x r) e h

-- every controller refuses a line that is malformed, or whose frame has no size that can fit
module _ (c : Controller) (line : List ℕ) (cause : Refusal) where
  sized_if_lem : (f : Fields) → meaning line ≡ Some f → (b : Bool) → is_frame_size (length f.samples) ≡ b → sized_if b (frame_of f) ≡ Err cause
      → line_step c line ≡ refused_line (number_of cause) c
  sized_if_lem f m true s e = let z : ◌≡◌ {A = ℕ} 0 1 = cc in absurd (omega arith)
  sized_if_lem f m false s e =
      let is : FrameSize ≡ cause = cc in
      line_refused c line f m (number_of FrameSize) (unfit c f.volume (length f.samples) (map sample_of f.samples) (small_volume line f m) s)
      ∙ ap (λ (x : Refusal). refused_line (number_of x) c) is

  ready_if : (o : Option Fields) → meaning line ≡ o → ready_of (parsed_of o) ≡ Err cause → line_step c line ≡ refused_line (number_of cause) c
  ready_if None m e = let is : FrameLine ≡ cause = cc in line_malformed c line m ∙ ap (λ (x : Refusal). refused_line (number_of x) c) is
  ready_if (Some f) m e = sized_if_lem f m (is_frame_size (length f.samples)) refl e

pub refused_early : (self : InputVolumeController) (line : List ℕ) (before after : List Float) (parsed : Prelude.Option Frame) (cause : Refusal) → Good self → ParsedAs line before after parsed → ready_of parsed ≡ Err cause
    → AnsweredAs self line (record { controller = self; reply = Err cause })
refused_early self line before after parsed cause good p e = record {
  leads = leads_as _ _ _ (sym (ready_if (view_of self) line cause (meaning line) refl (ap ready_of (sym p.answer_is) ∙ e)))
      (record { good = good; reply = refl; view = refl });
  same = λ other q. refl;
}

-- `parse` has found a line malformed
pub malformed_as : (self : InputVolumeController) (line : List ℕ) (before after : List Float) (parsed : Prelude.Option Frame) → Good self → ParsedAs line before after parsed → parsed ≡ None
    → AnsweredAs self line (record { controller = self; reply = Err FrameLine })
malformed_as self line before after parsed good p e = refused_early self line before after parsed FrameLine good p (ap ready_of e)

-- a frame that is ready is the one that was parsed
sized_ok : (b : Bool) (said ready : Frame) → sized_if b said ≡ Ok ready → said ≡ ready
sized_ok true said ready e = cc
sized_ok false said ready e = let z : ◌≡◌ {A = ℕ} 0 1 = cc in absurd (omega arith)

pub was_parsed : (parsed : Prelude.Option Frame) (ready : Frame) → ready_of parsed ≡ Ok ready → parsed ≡ Some ready
was_parsed None ready e = let z : ◌≡◌ {A = ℕ} 0 1 = cc in absurd (omega arith)
was_parsed (Some said) ready e = ap Some (sized_ok (is_frame_size said.count) said ready e)

-- `parse` has found a line in order: its samples have room, and these are its calls
pub few : (line : List ℕ) (after : List Float) (said : Frame) → FrameOf line after said → said.count ≤ most_samples
few line after said f = omega (arith, ap (λ (x : Frame). x.count) f.is, few_samples line f.meant f.means)

pub makes_calls : (channels : ℕ) (line : List ℕ) (after : List Float) (said : Frame) → FrameOf line after said
    → Makes channels line (frame plain_limits (equal_volumes (pos said.volume) channels) (length (take said.count after)) (take said.count after)) (recommendation said.probability said.level)
makes_calls channels line after said f =
    let count : length (take said.count after) ≡ length f.meant.samples = ap length f.samples_are ∙ length-map f.meant.samples sample_of in
    record {
      meant = f.meant;
      means = f.means;
      frame_is = λ i. frame plain_limits (equal_volumes (pos (f.is i).volume) channels) (count i) (f.samples_are i);
      recommendation_is = λ i. recommendation (f.is i).probability (f.is i).level;
    }

-- what a frame's call says, with the volume as it came
pub heard_as : (self : InputVolumeController) (v n : ℕ) (lent : List Float) (a : Analyzed) (z : ℤ) → v < 256 → z ≡ pos v → AnalyzedOf plain_limits self (to_z w32 (of_z w32 z)) n lent a
    → AnalyzedOf plain_limits self (pos v) n lent a
heard_as self v n lent a z h e d =
    let fits : SFits w32 (pos v) = record { sfits = omega arith } in
    subst (λ (x : ℤ). AnalyzedOf plain_limits self x n lent a) (ap (λ (x : ℤ). to_z w32 (of_z w32 x)) e ∙ to_z-of_z w32 (pos v) fits) d

module _ (self : InputVolumeController) (z : ℤ) (n : ℕ) (lent : List Float) (a : Analyzed) (h : AnalyzedOf plain_limits self z n lent a) (p : Float) (l : Option Float) where
  abbrev channels : ℕ
  channels = self.control.channels.count

  abbrev heard : Call
  heard = frame plain_limits (equal_volumes z channels) n lent

  module _ (line : List ℕ) (m : Makes channels line heard (recommendation p l)) where
    call_is : heard ≡ frame_call (length (view_of self).control.channels) m.meant
    unfolding view_of
    call_is = m.frame_is ∙ ap (λ (k : ℕ). frame_call k m.meant) (sym (control_count self.control))

    says : (answer : Result Bool Refusal) → a.answer ≡ answer → (step (view_of self) (frame_call (length (view_of self).control.channels) m.meant)).reply ≡ analysis_says answer
    says answer q = sym (sym (ap analysis_says q) ∙ h.does.reply ∙ ap (λ (x : Call). (step (view_of self) x).reply) call_is)

    state_is : view_of a.controller ≡ (step (view_of self) (frame_call (length (view_of self).control.channels) m.meant)).state
    state_is = h.does.view ∙ ap (λ (x : Call). (step (view_of self) x).state) call_is

  pub refused_as : (cause : Refusal) → a.answer ≡ Err cause → FrameAnsweredAs self heard (recommendation p l) (record { controller = a.controller; reply = Err cause })
  refused_as cause q line m = record {
    leads = leads_as _ _ _ (sym (line_refused (view_of self) line m.meant m.means (number_of cause) (says line m (Err cause) q)))
        (record { good = h.does.good; reply = refl; view = ap view_of (h.same cause q) });
    same = λ other r. h.same cause q;
  }

  module _ (near : Bool) (q : a.answer ≡ Ok near) where
    pub pending_after : VolumePending (view_of a.controller)
    pending_after =
        subst VolumePending (sym h.does.view)
        (frame_pending (view_of self) plain_limits (equal_volumes z self.control.channels.count) n lent near (sym h.does.reply ∙ ap analysis_says q))

    pub accepted_as : (r : Answered) → RecommendedAs a.controller near p l r → FrameAnsweredAs self heard (recommendation p l) r
    accepted_as r d line m = record {
      leads = leads_as _ _ r
          ((λ i. recommended_line near (step (state_is line m i) (m.recommendation_is i)))
          ∙ sym (line_marked (view_of self) line m.meant m.means near (says line m (Ok near) q)))
          d.leads;
      same = λ cause x. absurd (d.accepted cause x);
    }
