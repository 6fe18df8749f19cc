-- Document 01, cause 5: "a target not -90 to 30 dBFS". The speech error of any targets is refused or worked out. Definitions only.
use Rattle.std.specs.Prelude.{Bool, true, false, ℤ, Float, Err, Ok, Result, Option}
use Rattle.numbers.specs.declared.refusal.Refusal.{Refusal}
use Rattle.numbers.specs.declared.refusal.Refusal.TheVariants.{TargetRange}
use Rattle.mono_input_volume_controller.specs.SpeechLevel.{lowest_db, highest_db, rms_error_of}
use Rattle.mono_input_volume_controller.specs.Config.{both_in_range}

abbrev pub error_if_in_range : Bool → Option ℤ → Result (Option ℤ) Refusal
error_if_in_range true error = Ok error
error_if_in_range false error = Err TargetRange

unfoldable pub speech_error_of : Option Float → ℤ → ℤ → Result (Option ℤ) Refusal
speech_error_of level min max = error_if_in_range (both_in_range lowest_db highest_db max min) (rms_error_of level min max)
