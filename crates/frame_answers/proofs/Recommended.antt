-- A frame is marked or refused; right after an accepted one its volume is pending, and the recommendation is a volume of 0 to 255. Assumes nothing.
use mathlib.Core.Path.{◌≡◌, refl, ap, ◌∙◌}
use mathlib.Core.Bool.{Bool, true, false, ◌||◌}
use mathlib.Core.List.{List}
use Prim.Native.Nat.{ℕ, ◌≤◌, max, zero-le}
use native.Mathlib.Omega.{arith}
use lib.Dec.{ltb}
use lib.IntN.{ℤ, pos}
use lib.Ieee.{Float, lt}
use lib.ListN.{length}
use Rattle.std.specs.Prelude.{Err, Ok, Option, Result, Some}
use Rattle.numbers.specs.declared.refusal.Refusal.{Refusal}
use Rattle.clipping_predictor.specs.Predictor.{entered_if}
use Rattle.mono_input_volume_controller.specs.MonoState.{max_input_volume}
use Rattle.input_volume_controller.specs.declared.InputVolumeController.{InputVolumeController}
use Rattle.input_volume_controller.specs.Control.{control_of}
use Rattle.input_volume_controller.specs.ControlCalls.{aggregated, with_applied_input_volumes, lower_channels, process_channels}
use Rattle.input_volume_controller.specs.Controller.{Controller, view_of}
use Rattle.input_volume_controller.specs.Reply.{Reply, mark, refusal, volume, none, done, Stepped}
use Rattle.input_volume_controller.specs.ClippedRatio.{clipped_ratio_of}
use Rattle.clipping_predictor.specs.AllRings.{predicted_by}
use Rattle.input_volume_controller.specs.Differ.{differ}
use Rattle.input_volume_controller.specs.declared.limits.Limits.{Limits}
use Rattle.input_volume_controller.specs.Volumes.{Volumes, outside_set, number_set, numbers_of, numbers_in, lowest_of}
use Rattle.input_volume_controller.specs.Frame.{asked_of, handle_if, unless_waiting, if_used, with_volumes_applied, frame_outcome, unless_refused, analyze_input_audio}
use Rattle.input_volume_controller.specs.Calls.{frame, recommendation, step, Does}
use Rattle.input_volume_controller.proofs.Answers.{recommend_off, recommend_on}
use Rattle.input_volume_controller.proofs.SetNumbers.{told_set, lowest_of_most}
use Rattle.frame_answers.specs.Answered.{VolumePending}

-- ---- a frame is marked or refused

abbrev pub is_frame_reply : Reply → Bool
is_frame_reply (mark near) = true
is_frame_reply (refusal n) = true
is_frame_reply (volume v) = false
is_frame_reply none = false
is_frame_reply done = false

-- what a step that is no refusal tells: its mark, and that the volume which was applied before it stays so
record Tells (c : Controller) (s : Stepped) : Type 0 where
  reply_is : is_frame_reply s.reply ≡ true
  applied_is : s.state.control.applied ≡ c.control.applied

handled_tells : (near t : Bool) (n : ℕ) (c : Controller) → Tells c (record { reply = mark near; state = handle_if t n c })
unfolding lower_channels aggregated
handled_tells near true n c = record { reply_is = refl; applied_is = refl }
handled_tells near false n c = record { reply_is = refl; applied_is = refl }

waiting_tells : (t clipped : Bool) (c : Controller) → Tells c (unless_waiting t clipped c)
waiting_tells true clipped c = record { reply_is = refl; applied_is = refl }
waiting_tells false clipped c =
    let e = predicted_by (asked_of c.control) c.predictor in
    handled_tells (differ clipped c.control e.low e.high) (clipped || ltb 0 e.drop) (max c.control.settings.step e.drop) c

used_tells : (t : Bool) (samples : ℕ) (lent : List Float) (c : Controller) → Tells c (if_used t samples lent c)
used_tells true samples lent c =
    let w =
    waiting_tells (ltb c.control.since c.control.settings.clipped_wait)
    (lt c.control.settings.clipped_ratio (clipped_ratio_of (length c.control.channels) samples lent))
    (record { control = c.control; predictor = entered_if true samples lent c.predictor }) in
    record { reply_is = w.reply_is; applied_is = w.applied_is }
used_tells false samples lent c = record { reply_is = refl; applied_is = refl }

refused_reply : (o : Result (Unit {0}) Refusal) (v : List ℕ) (samples : ℕ) (lent : List Float) (c : Controller) → is_frame_reply (unless_refused o v samples lent c).reply ≡ true
refused_reply (Err cause) v samples lent c = refl
refused_reply (Ok tt) v samples lent c = (used_tells c.control.used samples lent (with_volumes_applied v c)).reply_is

pub frame_reply : (c : Controller) (most : Limits) (z : List ℤ) (samples : ℕ) (lent : List Float) → is_frame_reply (step c (frame most z samples lent)).reply ≡ true
unfolding analyze_input_audio
frame_reply c most z samples lent = refused_reply (frame_outcome most (length c.control.channels) z samples lent) (numbers_in (numbers_of z)) samples lent c

-- ---- an accepted frame's volume is pending

applies : (v : List ℕ) (c : Controller) → (with_volumes_applied v c).control.applied ≡ Some (lowest_of v)
unfolding with_applied_input_volumes aggregated
applies v c = refl

-- the numbers of a set are at most 255
lowest_in : (z : List ℤ) (a : Volumes) → numbers_of z ≡ a → lowest_of (numbers_in a) ≤ max_input_volume
unfolding lowest_of
lowest_in z outside_set e = zero-le
lowest_in z (number_set v) e = lowest_of_most v (told_set z v e).most

module _ (c : Controller) (most : Limits) (z : List ℤ) (samples : ℕ) (lent : List Float) (near : Bool) where
  abbrev volumes : List ℕ
  volumes = numbers_in (numbers_of z)

  pending_if : (o : Result (Unit {0}) Refusal) → (unless_refused o volumes samples lent c).reply ≡ mark near → VolumePending (unless_refused o volumes samples lent c).state
  pending_if (Err cause) e = let x : ◌≡◌ {A = ℕ} 0 1 = cc in absurd (omega arith)
  pending_if (Ok tt) e = record {
    applied = lowest_of volumes;
    pending = (used_tells c.control.used samples lent (with_volumes_applied volumes c)).applied_is ∙ applies volumes c;
    most = lowest_in z (numbers_of z) refl;
  }

  pub frame_pending : (step c (frame most z samples lent)).reply ≡ mark near → VolumePending (step c (frame most z samples lent)).state
  unfolding analyze_input_audio
  frame_pending e = pending_if (frame_outcome most (length c.control.channels) z samples lent) e

-- ---- with a volume pending, the recommendation is a volume

pub record IsVolume (r : Reply) : Type 0 where
  pub shown : ℕ
  pub is : r ≡ volume (pos shown)

volume_if : (c : Controller) (p : Float) (l : Option Float) → VolumePending c → (used : Bool) → c.control.used ≡ used → IsVolume (step c (recommendation p l)).reply
volume_if c p l v true u = record { shown = _; is = ap (λ (s : Stepped). s.reply) (recommend_on c p l v.applied v.pending u) }
volume_if c p l v false u = record { shown = _; is = ap (λ (s : Stepped). s.reply) (recommend_off c p l v.applied v.pending u) }

-- THE CLAIM: right after an accepted frame the recommendation is a volume, never none
pub recommends_volume : (c : Controller) (most : Limits) (z : List ℤ) (samples : ℕ) (lent : List Float) (near : Bool) (p : Float) (l : Option Float)
    → (step c (frame most z samples lent)).reply ≡ mark near → IsVolume (step (step c (frame most z samples lent)).state (recommendation p l)).reply
recommends_volume c most z samples lent near p l e =
    let after = (step c (frame most z samples lent)).state in
    volume_if after p l (frame_pending c most z samples lent near e) after.control.used refl

-- what the contract says of it: at most 255
pub record AtMost (says : Reply) : Type 0 where
  pub shown : ℕ
  pub is : says ≡ volume (pos shown)
  pub most : shown ≤ max_input_volume

module _ (self r : InputVolumeController) (p : Float) (l : Option Float) (says : Reply) (does : Does self (recommendation p l) says r) (v : VolumePending (view_of self)) where
  volume_of : r.control.volume ≡ (view_of r).control.volume
  unfolding view_of control_of
  volume_of = refl

  most_if : (used : Bool) → (view_of self).control.used ≡ used → AtMost says
  most_if true u =
      let e = recommend_on (view_of self) p l v.applied v.pending u in
      let s : r.control.volume ≡ (process_channels p l (view_of self).control).volume = volume_of ∙ ap (λ (c : Controller). c.control.volume) (does.view ∙ ap (λ (s : Stepped). s.state) e) in
      record {
        shown = (process_channels p l (view_of self).control).volume;
        is = does.reply ∙ ap (λ (s : Stepped). s.reply) e;
        most = omega (arith, does.good.control.volume, s);
      }
  most_if false u =
      let e = recommend_off (view_of self) p l v.applied v.pending u in
      record { shown = v.applied; is = does.reply ∙ ap (λ (s : Stepped). s.reply) e; most = v.most }

  pub says_volume : AtMost says
  says_volume = most_if (view_of self).control.used refl

pub same_volume : (x y : ℤ) → volume x ≡ volume y → x ≡ y
same_volume x y e = cc
