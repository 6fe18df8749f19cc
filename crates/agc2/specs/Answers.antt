-- Document 01's answers in numbers: 0 or the refusal's number, with the values beside it, and 0 where there is none. Definitions only.
use Rattle.std.specs.Prelude.{ℕ, zero, suc, pos, Float, None, Some, Option}
use Rattle.std.specs.Float.{binary32}
use Rattle.std.specs.Float.Ieee.{of_bits}
use Rattle.numbers.specs.Flag.{flag_of}
use Rattle.numbers.specs.Said.{Said, accepted, refused}
use Rattle.clipping_predictor_level_buffer.specs.declared.level.Level.{Level}
use Rattle.input_volume_controller.specs.Reply.{Reply, mark, refusal, volume, none, done}
use Rattle.agc2.specs.declared.answers.Agc2Record.{Agc2Record}
use Rattle.agc2.specs.declared.answers.Agc2Metrics.{Agc2Metrics}
use Rattle.agc2.specs.declared.answers.FrameNumbers.{FrameNumbers}
use Rattle.agc2.specs.declared.answers.VolumeNumbers.{VolumeNumbers}

abbrev pub outcome_number : Said (Unit {0}) → ℕ
outcome_number (accepted values) = 0
outcome_number (refused number) = number

-- "a frame's mark or refusal number"
abbrev pub frame_numbers : Reply → FrameNumbers
frame_numbers (mark near) = record { refusal = 0; near = flag_of near }
frame_numbers (refusal n) = record { refusal = n; near = 0 }
frame_numbers (volume v) = record { refusal = 0; near = 0 }
frame_numbers none = record { refusal = 0; near = 0 }
frame_numbers done = record { refusal = 0; near = 0 }

-- "a recommendation's volume or none"
abbrev pub volume_numbers : Reply → VolumeNumbers
volume_numbers (mark near) = record { present = 0; volume = pos 0 }
volume_numbers (refusal n) = record { present = 0; volume = pos 0 }
volume_numbers (volume v) = record { present = 1; volume = v }
volume_numbers none = record { present = 0; volume = pos 0 }
volume_numbers done = record { present = 0; volume = pos 0 }

-- a stored record or none
abbrev pub record_of : Option Level → Agc2Record
record_of (Some l) = record { present = 1; average = l.average; max = l.max; clipped = l.clipped }
record_of None = record { present = 0; average = of_bits binary32 0; max = of_bits binary32 0; clipped = 0 }

-- no metrics, with a refusal's number or 0
abbrev pub no_metrics : ℕ → Agc2Metrics
no_metrics number = record { refusal = number; present = 0; average = of_bits binary32 0; max = of_bits binary32 0; clipped = 0 }

-- metrics, none, or a refusal
abbrev pub metrics_of : Said (Option Level) → Agc2Metrics
metrics_of (accepted (Some l)) = record { refusal = 0; present = 1; average = l.average; max = l.max; clipped = l.clipped }
metrics_of (accepted None) = no_metrics 0
metrics_of (refused number) = no_metrics number

-- "the speech level is either absent or a float": absent at 0
unfoldable pub speech_level_of : ℕ → Float → Option Float
speech_level_of zero dbfs = None
speech_level_of (suc n) dbfs = Some dbfs
