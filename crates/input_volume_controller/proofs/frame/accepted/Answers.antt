-- `frame::accepted` meets its contract: with capture on the frame is in the rings, since it fits the predictor's channels too. Assumes nothing.
use mathlib.Core.Path.{◌≡◌, refl, sym, ap, ◌∙◌}
use mathlib.Core.Bool.{Bool, true, false}
use mathlib.Core.List.{List}
use Prim.Native.Nat.{ℕ}
use native.Mathlib.Omega.{arith}
use lib.Dec.{ltb}
use lib.Ieee.{Float, lt}
use Rattle.clipping_predictor.specs.Predictor.{frame_fits, entered_if}
use Rattle.clipping_predictor.specs.Predictor as PredictorOf
use Rattle.clipping_predictor.specs.AllRings.{predicted_if, hearing, is_asked, clipped_for, clipped_if}
use Rattle.clipping_predictor.proofs.Frames.{fits}
use Rattle.clipping_predictor.proofs.MostClipped.{most_few}
use Rattle.input_volume_controller.specs.declared.volume_control.VolumeControl.{VolumeControl}
use Rattle.input_volume_controller.specs.Control.{control_of}
use Rattle.input_volume_controller.specs.Controller.{Controller, together, view_of, Becomes}
use Rattle.input_volume_controller.specs.ClippedRatio.{ratio_of, clipped_ratio_of}
use Rattle.input_volume_controller.specs.Frame.{asked_of, question_if, question_of, unless_waiting, if_used}
use Rattle.input_volume_controller.proofs.Whole.{control_count, whole, entered_count, framed, framed_same}
use Rattle.input_volume_controller.proofs.frame.accepted.Goals as goal

-- the frame fits the predictor's channels too

-- the controller with the frame in its rings

-- its most clipped samples, of what is asked

pub entered-requires : goal.entered-requires
entered-requires c =
    let fitting : frame_fits c.args.predictor.channels c.args.samples c.args.frame.now ≡ true = ap (λ (n : ℕ). frame_fits n c.args.samples c.args.frame.now) c.requires.0.counts ∙ c.requires.1 in
    let heard-whole : Becomes (record { control = control_of c.args.control; predictor = entered_if true c.args.samples c.args.frame.now (PredictorOf.view_of c.args.predictor) }) (together c.args.control c.heard-heard.result.predictor) = whole (together c.args.control c.args.predictor) _ _ _ _ c.requires.0 (record { good = c.requires.0.control; is = refl }) c.heard-heard.ensures.entered.good
    (c.heard-heard.ensures.entered.view ∙ ap (λ (b : Bool). entered_if b c.args.samples c.args.frame.now (PredictorOf.view_of c.args.predictor)) (fitting))
    (record { channels = refl; rings = entered_count c.args.samples c.args.frame.now (PredictorOf.view_of c.args.predictor) }) in
    let clipped : c.heard-heard.result.clipped ≡ clipped_for (question_of (control_of c.args.control)) c.args.control.channels.count c.args.samples c.args.frame.now = c.heard-heard.ensures.clipped_is ∙ (λ i. clipped_if (fitting i) (clipped_for (c.question.ensures i) (c.requires.0.counts i) c.args.samples c.args.frame.now)) in (
      heard-whole.good,
      omega (arith, clipped, most_few (hearing (is_asked (question_of (control_of c.args.control))) c.args.control.channels.count) c.args.samples c.args.frame.now),
      (fits _ _ _ c.requires.1).most,
      c.heard-heard.ensures.answer ∙ (λ i. predicted_if (fitting i) (c.question.ensures i) (PredictorOf.view_of c.heard-heard.result.predictor)),
    )

-- within the wait nothing is asked, and the ratio is not looked at; past it the ratio is that of the frame
the-ratio : (k : VolumeControl) (samples : ℕ) (frame : List Float) (n : ℕ) (c : Controller) (waiting : Bool) → ltb k.since k.settings.clipped_wait ≡ waiting → n ≡ clipped_for (question_of (control_of k)) k.channels.count samples frame
    → unless_waiting waiting (lt k.settings.clipped_ratio (ratio_of n samples)) c ≡ unless_waiting waiting (lt k.settings.clipped_ratio (clipped_ratio_of k.channels.count samples frame)) c
unfolding control_of clipped_ratio_of
the-ratio k samples frame n c true w e = refl
the-ratio k samples frame n c false w e =
    let most = e ∙ ap (λ (b : Bool). clipped_for (question_if b (asked_of (control_of k))) k.channels.count samples frame) w in
    ap (λ (m : ℕ). unless_waiting false (lt k.settings.clipped_ratio (ratio_of m samples)) c) most

pub returns-then-control : goal.returns-then-control
unfolding view_of control_of
returns-then-control c =
    let fitting : frame_fits c.args.predictor.channels c.args.samples c.args.frame.now ≡ true = ap (λ (n : ℕ). frame_fits n c.args.samples c.args.frame.now) c.requires.0.counts ∙ c.requires.1 in
    let clipped : c.heard-heard.result.clipped ≡ clipped_for (question_of (control_of c.args.control)) c.args.control.channels.count c.args.samples c.args.frame.now = c.heard-heard.ensures.clipped_is ∙ (λ i. clipped_if (fitting i) (clipped_for (c.question.ensures i) (c.requires.0.counts i) c.args.samples c.args.frame.now)) in
    let heard-whole : Becomes (record { control = control_of c.args.control; predictor = entered_if true c.args.samples c.args.frame.now (PredictorOf.view_of c.args.predictor) }) (together c.args.control c.heard-heard.result.predictor) = whole (together c.args.control c.args.predictor) _ _ _ _ c.requires.0 (record { good = c.requires.0.control; is = refl }) c.heard-heard.ensures.entered.good
    (c.heard-heard.ensures.entered.view ∙ ap (λ (b : Bool). entered_if b c.args.samples c.args.frame.now (PredictorOf.view_of c.args.predictor)) (fitting))
    (record { channels = refl; rings = entered_count c.args.samples c.args.frame.now (PredictorOf.view_of c.args.predictor) }) in
    framed_same
    (the-ratio c.args.control c.args.samples c.args.frame.now _ _ _ refl (clipped)
    ∙ (λ i. unless_waiting (ltb c.args.control.since c.args.control.settings.clipped_wait) (lt c.args.control.settings.clipped_ratio (clipped_ratio_of (sym (control_count c.args.control) i) c.args.samples c.args.frame.now)) (heard-whole.is i))
    ∙ sym (ap (λ (b : Bool). if_used b c.args.samples c.args.frame.now (view_of (together c.args.control c.args.predictor))) c.if-control.true))
    c.entered.ensures

pub returns : goal.returns
unfolding view_of
returns c =
    framed _ _ _ _ (ap (λ (b : Bool). if_used b c.args.samples c.args.frame.now (view_of (together c.args.control c.args.predictor))) c.if-control.false) (record { good = c.requires.0; is = refl })
