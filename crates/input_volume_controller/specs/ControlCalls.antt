-- Document 01, "All channels": what a call does with the channels and the controller's volume. Initialise, the capture switch and the recommendation touch nothing else. Definitions only.
use Rattle.std.specs.Prelude.{Bool, true, List, ℕ, zero, suc, ◌+◌, max, Float, None, Option, Some}
use Rattle.input_volume_controller.specs.Channels.{Initialize, CaptureOutputUsed, Clipping, Process, each_given, aggregate_of}
use Rattle.mono_input_volume_controller.specs.SpeechLevel.{rms_error_of}
use Rattle.input_volume_controller.specs.Volumes.{lowest_of}
use Rattle.input_volume_controller.specs.Control.{Control, with_channels, with_since, with_used, with_applied, with_volume, each_channel}

-- ---- `aggregate_channel_levels`

-- "raised to min_input_volume if a volume above 0 is pending"
unfoldable pub raised_for : Option ℕ → ℕ → ℕ → ℕ
raised_for None least volume = volume
raised_for (Some zero) least volume = volume
raised_for (Some (suc n)) least volume = max volume least

-- "The controller's volume, whenever the Rust takes it, is the lowest of its channels', raised .."
unfoldable pub aggregated : Control → Control
unfolding raised_for
aggregated c = with_volume (raised_for c.applied c.settings.least (aggregate_of c.channels).volume) (aggregate_of c.channels).channel c

-- ---- `set_applied_input_volume`, `initialize`, `handle_capture_output_used_change`

-- Document 02 (xiv): the volumes of a frame enter the channels here, each its own; "The lowest is the frame's applied volume", and is pending from now on
unfoldable pub with_applied_input_volumes : List ℕ → Control → Control
unfolding aggregated each_given lowest_of
with_applied_input_volumes volumes c = aggregated (with_applied (Some (lowest_of volumes)) (with_channels (each_given volumes c.channels) c))

-- the volume is taken with the applied one still pending; the count of frames since clipping stays
unfoldable pub initialize : Control → Control
unfolding aggregated
initialize c = with_applied None (aggregated (with_used true (each_channel Initialize c)))

abbrev pub switch_capture : Bool → Control → Control
switch_capture on c = with_used on (each_channel (CaptureOutputUsed on) c)

-- ---- clipping

-- "lowers every channel .. and restarts the wait"
unfoldable pub lower_channels : ℕ → Control → Control
unfolding aggregated
lower_channels step c = aggregated (with_since 0 (each_channel (Clipping step) c))

-- "one within the wait then only counts"
abbrev pub one_frame_more : Control → Control
one_frame_more c = with_since (c.since + 1) c

-- ---- `recommend_input_volume`, with a volume pending and capture on

unfoldable pub process_channels : Float → Option Float → Control → Control
unfolding aggregated
process_channels probability level c = aggregated (each_channel (Process (rms_error_of level c.settings.min_target c.settings.max_target) probability) c)
