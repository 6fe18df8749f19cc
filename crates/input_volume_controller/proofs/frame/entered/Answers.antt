-- `frame::entered` meets its contract: the frame counts or is tested. Assumes nothing.
use mathlib.Core.Path.{refl, sym, ap, ◌∙◌}
use mathlib.Core.Bool.{Bool}
use lib.Ieee.{lt}
use borrow.Author.Tests.{le-ltb}
use Rattle.input_volume_controller.specs.Control.{control_of}
use Rattle.input_volume_controller.specs.Controller.{together, view_of}
use Rattle.clipping_predictor.specs.AllRings.{predicted_for}
use Rattle.input_volume_controller.specs.Frame.{asked_of, question_if, handled}
use Rattle.input_volume_controller.proofs.Whole.{with_control, framed, framed_same, is_waiting, not_waiting}
use Rattle.input_volume_controller.proofs.frame.entered.Goals as goal

pub returns-then-control : goal.returns-then-control
unfolding view_of control_of
returns-then-control c =
    framed _ _ _ _ (is_waiting _ _ _ _ c.if-control.true) (with_control (together c.args.control c.args.heard.predictor) _ _ c.requires.0 c.one_frame_more.ensures refl)

pub returns : goal.returns
unfolding view_of control_of
returns c =
    let asked = c.requires.3 ∙ ap (λ (b : Bool). predicted_for (question_if b (asked_of (control_of c.args.control))) (view_of (together c.args.control c.args.heard.predictor)).predictor) (le-ltb _ _ c.if-control.false) in
    framed_same
    ((λ i. handled (lt c.args.control.settings.clipped_ratio (c.compute_clipped_ratio-ratio.ensures i)) (asked i) (view_of (together c.args.control c.args.heard.predictor))) ∙ sym (not_waiting _ _ _ _ c.if-control.false))
    c.tested.ensures
