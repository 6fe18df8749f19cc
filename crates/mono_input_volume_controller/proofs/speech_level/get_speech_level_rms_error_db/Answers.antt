-- `get_speech_level_rms_error_db` meets its contract: targets that pass their test are in good order. Assumes nothing.
use mathlib.Core.Path.{◌≡◌, sym, ap, ◌∙◌}
use Rattle.numbers.proofs.Signs.{read, again}
use Rattle.numbers.specs.Said.{said}
use Rattle.mono_input_volume_controller.specs.SpeechError.{speech_error_of}
use Rattle.mono_input_volume_controller.proofs.Errors.{targets_out, targets_in}
use Rattle.mono_input_volume_controller.proofs.Settings.{targets_good}
use Rattle.mono_input_volume_controller.proofs.speech_level.get_speech_level_rms_error_db.Goals as goal
use Rattle.mono_input_volume_controller.proofs.speech_level.get_speech_level_rms_error_db.Goals.{Start}

-- the answer for the targets as the machine reads them back
back : (s : Start) → speech_error_of s.args.speech_level (read s.args.target_range_min_dbfs) (read s.args.target_range_max_dbfs) ≡ speech_error_of s.args.speech_level s.args.target_range_min_dbfs s.args.target_range_max_dbfs
back s = λ i. speech_error_of s.args.speech_level (again s.args.target_range_min_dbfs s.ranges.target_range_min_dbfs.sfits i) (again s.args.target_range_max_dbfs s.ranges.target_range_max_dbfs.sfits i)

pub returns-then-not-both_in_range : goal.returns-then-not-both_in_range
returns-then-not-both_in_range c =
    ap said (targets_out _ _ _ (sym c.both_in_range.ensures ∙ c.if-not-both_in_range.true) ∙ back c.before.before)

pub rms_error-requires : goal.rms_error-requires
rms_error-requires c = targets_good _ _ (sym c.both_in_range.ensures ∙ c.if-not-both_in_range.false)

pub returns : goal.returns
returns c =
    ap said (targets_in _ _ _ (sym c.both_in_range.ensures ∙ c.if-not-both_in_range.false) _ c.rms_error.ensures ∙ back c.before.before.before)
