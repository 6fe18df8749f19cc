-- `frame::differ` meets its contract, by its tests. Assumes nothing.
use mathlib.Core.Path.{◌≡◌, sym, ◌∙◌}
use mathlib.Core.Bool.{◌||◌}
use lib.Dec.{ltb}
use borrow.Author.Rules.{rules}
use Rattle.input_volume_controller.specs.Channels.{channels_of}
use Rattle.input_volume_controller.specs.Control.{control_of}
use Rattle.input_volume_controller.specs.Differ.{lower_differently}
use Rattle.input_volume_controller.proofs.TwoDrops.{same_drop, first_none, second_none, both_lower}
use Rattle.input_volume_controller.proofs.frame.differ.Goals as goal
use Rattle.input_volume_controller.proofs.frame.differ.Goals.{then-clipped, else-clipped, then-clipped-2, else-clipped-2}

pub returns-then-drop-other : goal.returns-then-drop-other
returns-then-drop-other c = same_drop c.args.clipped (control_of c.args.control) c.args.drop c.args.other c.if-drop-other.true

pub returns-then-not-one : goal.returns-then-not-one
returns-then-not-one c =
    let one : c.if-clipped.one ≡ (c.args.clipped || ltb 0 c.args.drop) = elim c.if-clipped.branch [ then-clipped w ↦ search rules | else-clipped w ↦ search rules ] in
    let two : c.if-clipped-2.two ≡ (c.args.clipped || ltb 0 c.args.other) = elim c.if-clipped-2.branch [ then-clipped-2 w ↦ search rules | else-clipped-2 w ↦ search rules ] in
    two ∙ first_none c.args.clipped (control_of c.args.control) c.args.drop c.args.other (sym one ∙ c.if-not-one.true)

pub returns-then-not-two : goal.returns-then-not-two
returns-then-not-two c =
    let one : c.if-clipped.one ≡ (c.args.clipped || ltb 0 c.args.drop) = elim c.if-clipped.branch [ then-clipped w ↦ search rules | else-clipped w ↦ search rules ] in
    let two : c.if-clipped-2.two ≡ (c.args.clipped || ltb 0 c.args.other) = elim c.if-clipped-2.branch [ then-clipped-2 w ↦ search rules | else-clipped-2 w ↦ search rules ] in
    second_none c.args.clipped (control_of c.args.control) c.args.drop c.args.other (sym one ∙ c.if-not-one.false) (sym two ∙ c.if-not-two.true)

pub returns : goal.returns
unfolding control_of
returns c =
    let one : c.if-clipped.one ≡ (c.args.clipped || ltb 0 c.args.drop) = elim c.if-clipped.branch [ then-clipped w ↦ search rules | else-clipped w ↦ search rules ] in
    let two : c.if-clipped-2.two ≡ (c.args.clipped || ltb 0 c.args.other) = elim c.if-clipped-2.branch [ then-clipped-2 w ↦ search rules | else-clipped-2 w ↦ search rules ] in
    c.lower_differently.ensures ∙ (λ i. lower_differently (c.max.ensures i) (c.max-2.ensures i) (channels_of c.args.control.channels))
    ∙ both_lower c.args.clipped (control_of c.args.control) c.args.drop c.args.other (sym one ∙ c.if-not-one.false) (sym two ∙ c.if-not-two.false)
