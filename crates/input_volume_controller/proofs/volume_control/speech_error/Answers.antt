-- `speech_error` meets its contract: targets in good order are not refused. Assumes nothing.
use mathlib.Core.Path.{◌≡◌, sym, ◌∙◌}
use Rattle.std.specs.Prelude.{ℤ, Float, None, Option, Ok, Err, Result}
use Rattle.std.specs.Result.{result_unwrap_or}
use Rattle.numbers.proofs.Signs.{read, again}
use Rattle.numbers.proofs.Said.{said_fixed}
use Rattle.numbers.specs.declared.refusal.Refusal.{Refusal}
use Rattle.mono_input_volume_controller.specs.SpeechError.{speech_error_of}
use Rattle.mono_input_volume_controller.specs.SpeechLevel.{GoodTargets, rms_error_of}
use Rattle.mono_input_volume_controller.proofs.Errors.{is_error, not_refused}
use Rattle.input_volume_controller.proofs.volume_control.speech_error.Goals as goal

module _ (level : Option Float) (min max : ℤ) (good : GoodTargets min max) where
  found : (answer : Result (Option ℤ) Refusal) → answer ≡ speech_error_of level min max → result_unwrap_or answer None ≡ rms_error_of level min max
  found (Ok error) is = is_error _ _ _ good error (sym is)
  found (Err cause) is = absurd (not_refused _ _ _ good cause (sym is))

pub returns : goal.returns
returns c =
    -- the answer for the targets as the machine reads them back
    let answer_is = said_fixed c.get_speech_level_rms_error_db.result (speech_error_of c.args.level (read c.args.min) (read c.args.max)) c.get_speech_level_rms_error_db.ensures in
    let back : speech_error_of c.args.level (read c.args.min) (read c.args.max) ≡ speech_error_of c.args.level c.args.min c.args.max =
    λ i. speech_error_of c.args.level (again c.args.min c.ranges.min.sfits i) (again c.args.max c.ranges.max.sfits i) in
    c.unwrap_or.ensures ∙ found c.args.level c.args.min c.args.max c.requires c.get_speech_level_rms_error_db.result (answer_is ∙ back)
