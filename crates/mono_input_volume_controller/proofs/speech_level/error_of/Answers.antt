-- `error_of` meets its contract. Assumes nothing.
use mathlib.Core.Path.{◌≡◌, ◌∙◌}
use Rattle.numbers.proofs.Signs.{read, again}
use Rattle.mono_input_volume_controller.specs.SpeechLevel.{error_of}
use Rattle.mono_input_volume_controller.proofs.Errors.{error_above, error_below, error_none, target_held}
use Rattle.mono_input_volume_controller.proofs.speech_level.error_of.Goals as goal
use Rattle.mono_input_volume_controller.proofs.speech_level.error_of.Goals.{Start}

-- the error for the targets as the machine reads them back
back : (c : Start) → error_of c.args.level (read c.args.min) (read c.args.max) ≡ error_of c.args.level c.args.min c.args.max
back c = λ i. error_of c.args.level (again c.args.min c.ranges.min.sfits i) (again c.args.max c.ranges.max.sfits i)

pub int_to_float-top : goal.int_to_float-top
int_to_float-top c =
    rw (again c.args.max c.ranges.max.sfits) (target_held c.args.max c.requires.max_low c.requires.max_high)

pub int_to_float-bottom : goal.int_to_float-bottom
int_to_float-bottom c =
    rw (again c.args.min c.ranges.min.sfits) (target_held c.args.min c.requires.min_low c.requires.min_high)

pub returns-then-level-top : goal.returns-then-level-top
returns-then-level-top c = again c.round.result c.round.type_inv ∙ c.round.ensures ∙ error_above _ _ _ c.if-level-top.true ∙ back c.before.before.before.before

pub returns-then-level-bottom : goal.returns-then-level-bottom
returns-then-level-bottom c = again c.round-then-level-bottom.result c.round-then-level-bottom.type_inv ∙ c.round-then-level-bottom.ensures ∙ error_below _ _ _ c.if-level-top.false c.if-level-bottom.true ∙ back c.before.before.before.before.before

pub returns : goal.returns
returns c = error_none _ _ _ c.if-level-top.false c.if-level-bottom.false ∙ back c.before.before.before.before
