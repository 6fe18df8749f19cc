-- `recommended` meets its contract. Assumes nothing.
use mathlib.Core.Path.{subst}
use Rattle.std.specs.Prelude.{Float, Option}
use Rattle.numbers.proofs.Signs.{again}
use Rattle.input_volume_controller.specs.Reply.{recommendation_says}
use Rattle.input_volume_controller.specs.Calls.{recommendation, ControlDoes}
use Rattle.agc2.proofs.Handed.{control_in_order, answered}
use Rattle.agc2.proofs.recommended.Goals as goal

pub recommend_input_volume-recommended-requires : goal.recommend_input_volume-recommended-requires
recommend_input_volume-recommended-requires c = control_in_order c.whole_control.ensures c.requires

pub returns : goal.returns
returns c =
    answered c.recommend_input_volume-recommended.result c.whole_control.ensures (again c.from-numbers.result.volume c.struct_told-1.given.1.0.1) c.from-numbers.ensures c.plain_control.ensures
    (subst (λ (x : Option Float). ControlDoes c.whole_control.result (recommendation c.args.speech_probability x) (recommendation_says c.recommend_input_volume-recommended.result.answer) c.recommend_input_volume-recommended.result.control) c.speech_level_of-level.ensures c.recommend_input_volume-recommended.ensures)
