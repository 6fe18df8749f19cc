-- All of the controller but its predictor: the settings, the channels, the count of frames since clipping, the capture switch, the applied volume and the controller's volume; its good order,
-- and the changes that its calls are made of. Definitions only.
use Rattle.std.specs.Prelude.{◌≡◌, Bool, List, ℕ, ◌≤◌, Option}
use Rattle.mono_input_volume_controller.specs.declared.config.Settings.{Settings}
use Rattle.mono_input_volume_controller.specs.declared.mono.MonoInputVolumeController.{MonoInputVolumeController}
use Rattle.input_volume_controller.specs.Channels.{ChannelCall, channels_of, each_called}
use Rattle.input_volume_controller.specs.declared.volume_control.VolumeControl.{VolumeControl}
use Rattle.mono_input_volume_controller.specs.MonoState.{max_input_volume}
use Rattle.mono_input_volume_controller.specs.Config as Config
use Rattle.input_volume_controller.specs.Channels as Channels

-- frames_since_clipped is `since`, capture_output_used `used`, applied_input_volume `applied`, recommended_input_volume `volume`, channel_controlling_gain `controlling`
pub record Control : Type 0 where
  pub settings : Settings
  pub channels : List MonoInputVolumeController
  pub since : ℕ
  pub used : Bool
  pub applied : Option ℕ
  pub volume : ℕ
  pub controlling : ℕ

unfoldable pub control_of : VolumeControl → Control
unfolding channels_of
control_of c = record {
  settings = c.settings;
  channels = channels_of c.channels;
  since = c.since;
  used = c.used;
  applied = c.applied;
  volume = c.volume;
  controlling = c.controlling;
}

-- good order; `volume` is true of every value of the type
pub record Good (c : VolumeControl) : Type 0 where
  pub settings : Config.Good c.settings
  pub channels : Channels.Good c.channels
  pub volume : c.volume ≤ max_input_volume

-- what a call hands back: the value that the definition says, in good order
pub record Becomes (said : Control) (r : VolumeControl) : Type 0 where
  pub good : Good r
  pub is : control_of r ≡ said

-- ---- one change each

abbrev pub with_channels : List MonoInputVolumeController → Control → Control
with_channels channels c = record {
  settings = c.settings;
  channels = channels;
  since = c.since;
  used = c.used;
  applied = c.applied;
  volume = c.volume;
  controlling = c.controlling;
}

abbrev pub with_since : ℕ → Control → Control
with_since since c = record {
  settings = c.settings;
  channels = c.channels;
  since = since;
  used = c.used;
  applied = c.applied;
  volume = c.volume;
  controlling = c.controlling;
}

abbrev pub with_used : Bool → Control → Control
with_used used c = record {
  settings = c.settings;
  channels = c.channels;
  since = c.since;
  used = used;
  applied = c.applied;
  volume = c.volume;
  controlling = c.controlling;
}

abbrev pub with_applied : Option ℕ → Control → Control
with_applied applied c = record {
  settings = c.settings;
  channels = c.channels;
  since = c.since;
  used = c.used;
  applied = applied;
  volume = c.volume;
  controlling = c.controlling;
}

abbrev pub with_volume : ℕ → ℕ → Control → Control
with_volume volume controlling c = record {
  settings = c.settings;
  channels = c.channels;
  since = c.since;
  used = c.used;
  applied = c.applied;
  volume = volume;
  controlling = controlling;
}

abbrev pub each_channel : ChannelCall → Control → Control
each_channel call c = with_channels (each_called call c.channels) c
