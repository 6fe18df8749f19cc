-- `frame::tested` meets its contract. Assumes nothing.
use mathlib.Core.Path.{◌≡◌, refl, sym, ap, ◌∙◌}
use mathlib.Core.Bool.{Bool, ◌||◌}
use Prim.Native.Nat.{ℕ}
use lib.Dec.{ltb}
use borrow.Author.Rules.{rules}
use Rattle.clipping_predictor.specs.Predictor as PredictorOf
use Rattle.input_volume_controller.specs.Control.{control_of}
use Rattle.input_volume_controller.specs.ControlCalls.{lower_channels}
use Rattle.input_volume_controller.specs.Controller.{Controller, together, view_of}
use Rattle.input_volume_controller.specs.Reply.{mark, Stepped}
use Rattle.input_volume_controller.proofs.Volumes.{lower_count}
use Rattle.input_volume_controller.proofs.Whole.{whole, emptied_count, framed, not_handled, is_handled}
use Rattle.input_volume_controller.proofs.frame.tested.Goals as goal
use Rattle.input_volume_controller.proofs.frame.tested.Goals.{then-clipped, else-clipped}

-- the mark as the machine has it
as-marked : {s : Stepped} {near said : Bool} {state : Controller} → near ≡ said → s ≡ record { reply = mark said; state = state } → s ≡ record { reply = mark near; state = state }
as-marked {state = state} e f = f ∙ (λ i. record { reply = mark (sym e i); state = state })

pub returns-then-not-lowers : goal.returns-then-not-lowers
unfolding view_of control_of
returns-then-not-lowers c =
    let lowers : c.if-clipped.lowers ≡ (c.args.clipped || ltb 0 c.args.heard.estimated.drop) = elim c.if-clipped.branch [ then-clipped w ↦ search rules | else-clipped w ↦ search rules ] in
    framed _ _ _ _ (as-marked c.differ-near.ensures (not_handled c.args.clipped c.args.heard.estimated (view_of (together c.args.control c.args.heard.predictor)) (sym lowers ∙ c.if-not-lowers.true))) (record { good = c.requires; is = refl })

pub returns : goal.returns
unfolding view_of control_of
returns c =
    let lowers : c.if-clipped.lowers ≡ (c.args.clipped || ltb 0 c.args.heard.estimated.drop) = elim c.if-clipped.branch [ then-clipped w ↦ search rules | else-clipped w ↦ search rules ] in
    framed _ _ _ _ (as-marked c.differ-near.ensures (is_handled c.args.clipped c.args.heard.estimated (view_of (together c.args.control c.args.heard.predictor)) (sym lowers ∙ c.if-not-lowers.false)))
    (whole (together c.args.control c.args.heard.predictor) _ _ _ _ c.requires (record { good = c.lower_channels.ensures.good; is = c.lower_channels.ensures.is ∙ ap (λ (n : ℕ). lower_channels n (control_of c.args.control)) c.max-step.ensures }) c.reset.ensures.good c.reset.ensures.view
    (record { channels = lower_count (control_of c.args.control) _; rings = emptied_count (PredictorOf.view_of c.args.heard.predictor) }))
