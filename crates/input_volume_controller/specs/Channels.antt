-- Document 01, "All channels": what is done with every channel's controller, and the lowest of their volumes. A controller's channels stand for the list of their states. Definitions only.
use Rattle.std.specs.Prelude.{◌≡◌, Bool, true, false, List, [], ◌∷◌, map, ℕ, ◌+◌, ◌≤◌, ◌<◌, ltb, length, get_or, Float, ℤ, Option}
use Rattle.std.specs.Float.{nan}
use Rattle.numbers.specs.Listed.{listed}
use Rattle.clipping_predictor.specs.Predictor.{max_channels}
use Rattle.mono_input_volume_controller.specs.declared.mono.MonoInputVolumeController.{MonoInputVolumeController}
use Rattle.input_volume_controller.specs.declared.channels.Channels.{Channels}
use Rattle.input_volume_controller.specs.declared.channels.Aggregate.{Aggregate}
use Rattle.mono_input_volume_controller.specs.Mono.{initialized, handled_capture_output_used_change, with_stream_analog_level, handled_clipping}
use Rattle.mono_input_volume_controller.specs.MonoProcess.{processed}
use Rattle.mono_input_volume_controller.specs.MonoState as Mono

-- ---- the list of the channels

-- what an array of channels has past its end: no channel lies there
abbrev pub no_channel : MonoInputVolumeController
no_channel = record {
  least = 0;
  floor = 0;
  ceiling = 0;
  last = 0;
  used = false;
  check = false;
  startup = false;
  volume = 0;
  wait = 0;
  frames = 0;
  speech = 0;
  first = false;
  probability = nan;
  ratio = nan;
}

abbrev pub channel_at : Channels → ℕ → MonoInputVolumeController
channel_at c channel = get_or c.items channel no_channel

unfoldable pub channels_of : Channels → List MonoInputVolumeController
channels_of c = listed (channel_at c) c.count

-- good order: 1 to 8 channels, each in good order; `places` is true of every value of the type
pub record Good (c : Channels) : Type 0 where
  pub low : 1 ≤ c.count
  pub high : c.count ≤ max_channels
  pub places : length c.items ≡ max_channels
  pub each : (channel : ℕ) → channel < c.count → Mono.Good (channel_at c channel)

-- what a call hands back: the channels that the definition says, in good order
pub record Becomes (said : List MonoInputVolumeController) (r : Channels) : Type 0 where
  pub good : Good r
  pub is : channels_of r ≡ said

-- ---- one call of every channel

-- what a function that is called with each channel and its place needs: a channel in good order
abbrev pub MayCall : (ℕ → MonoInputVolumeController → Type 0) → Type 0
MayCall pre = (channel : ℕ) (m : MonoInputVolumeController) → channel < max_channels → Mono.Good m → pre channel m

-- what it leaves: a channel in good order
abbrev pub KeepsGood : (ℕ → MonoInputVolumeController → MonoInputVolumeController → Type 0) → Type 0
KeepsGood post = (channel : ℕ) (m r : MonoInputVolumeController) → channel < max_channels → Mono.Good m → post channel m r → Mono.Good r

-- it has been called with each channel, and its result stands in the channel's place
pub record EachCalled (post : ℕ → MonoInputVolumeController → MonoInputVolumeController → Type 0) (c r : Channels) : Type 0 where
  pub good : Good r
  pub count : r.count ≡ c.count
  pub each : (channel : ℕ) → channel < c.count → post channel (channel_at c channel) (channel_at r channel)

-- the calls that every channel gets
pub data ChannelCall : Type 0 where
  Initialize : ChannelCall
  CaptureOutputUsed : Bool → ChannelCall
  StreamAnalogLevel : ℕ → ChannelCall
  Clipping : ℕ → ChannelCall
  Process : Option ℤ → Float → ChannelCall

unfoldable pub called : ChannelCall → MonoInputVolumeController → MonoInputVolumeController
unfolding handled_capture_output_used_change handled_clipping processed
called Initialize m = initialized m
called (CaptureOutputUsed on) m = handled_capture_output_used_change on m
called (StreamAnalogLevel volume) m = with_stream_analog_level volume m
called (Clipping step) m = handled_clipping step m
called (Process error probability) m = processed error probability m

abbrev pub each_called : ChannelCall → List MonoInputVolumeController → List MonoInputVolumeController
each_called call channels = map (called call) channels

-- each channel with its own volume of a set, by place; a set that is accepted is as long as the channels
unfoldable pub each_given : List ℕ → List MonoInputVolumeController → List MonoInputVolumeController
unfolding called
each_given volumes [] = []
each_given [] (m ∷ ms) = m ∷ ms
each_given (volume ∷ volumes) (m ∷ ms) = called (StreamAnalogLevel volume) m ∷ each_given volumes ms

-- ---- `aggregate_channel_levels`

-- a channel with a lower volume than those before it takes their place
abbrev pub lower_if : Bool → ℕ → ℕ → Aggregate → Aggregate
lower_if true volume channel a = record { volume = volume; channel = channel }
lower_if false volume channel a = a

unfoldable pub lower_of : Aggregate → ℕ → ℕ → Aggregate
lower_of a volume channel = lower_if (ltb volume a.volume) volume channel a

-- "the lowest of its channels'", and the first channel that has it: the channels from one on
unfoldable pub aggregate_from : Aggregate → ℕ → List MonoInputVolumeController → Aggregate
unfolding lower_of
aggregate_from a channel [] = a
aggregate_from a channel (m ∷ ms) = aggregate_from (lower_of a m.volume channel) (channel + 1) ms

-- no controller is without channels
unfoldable pub aggregate_of : List MonoInputVolumeController → Aggregate
unfolding aggregate_from
aggregate_of [] = record { volume = 0; channel = 0 }
aggregate_of (m ∷ ms) = aggregate_from (record { volume = m.volume; channel = 0 }) 1 ms
