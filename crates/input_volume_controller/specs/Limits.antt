-- Document 02 (viii): the limits of an entry for frames, "The word spotter calls with at most 2 channels and 160 samples each .. The 8 and 480 stay for everybody else". Definitions only.
use Rattle.std.specs.Prelude.{Bool, ◌&&◌, ℕ, leb}
use Rattle.clipping_predictor_level_buffer.specs.Level.{max_samples_per_channel}
use Rattle.clipping_predictor.specs.Predictor.{max_channels}
use Rattle.input_volume_controller.specs.declared.limits.Limits.{Limits}

-- "The 8 and 480"
abbrev pub plain_limits : Limits
plain_limits = record { channels = max_channels; samples = max_samples_per_channel }

-- "at most 2 channels and 160 samples each"
abbrev pub spotter_limits : Limits
spotter_limits = record { channels = 2; samples = 160 }

-- a frame of so many channels and samples per channel within limits
abbrev pub is_within : Limits → ℕ → ℕ → Bool
is_within most channels samples = leb channels most.channels && leb samples most.samples
