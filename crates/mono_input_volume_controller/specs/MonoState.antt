-- The state of one channel: its good order, and the changes that its calls are made of. WebRTC's `MonoInputVolumeController`. Definitions only.
use Rattle.std.specs.Prelude.{◌≡◌, Bool, ℕ, ◌≤◌, ◌<◌}
use Rattle.mono_input_volume_controller.specs.declared.mono.MonoInputVolumeController.{MonoInputVolumeController}

-- MAX_INPUT_VOLUME
abbrev pub max_input_volume : ℕ
max_input_volume = 255

-- the longest wait of the settings
abbrev pub max_wait : ℕ
max_wait = 65535

-- ---- the good order of a channel's state

pub record Good (m : MonoInputVolumeController) : Type 0 where
  pub least_le : m.least ≤ max_input_volume
  pub floor_le : m.floor ≤ max_input_volume
  pub ceiling_le : m.ceiling ≤ max_input_volume
  pub last_le : m.last ≤ max_input_volume
  pub volume_le : m.volume ≤ max_input_volume
  pub wait_pos : 1 ≤ m.wait
  pub wait_le : m.wait ≤ max_wait
  pub frames_lt : m.frames < m.wait
  pub speech_le : m.speech ≤ m.frames

-- what a call hands back: the state that the definition says, in good order
pub record Becomes (said r : MonoInputVolumeController) : Type 0 where
  pub is : r ≡ said
  pub good : Good r

-- ---- one change each

-- the ceiling, the last volume and the recommended one
abbrev pub volumes : ℕ → ℕ → ℕ → MonoInputVolumeController → MonoInputVolumeController
volumes ceiling last volume m = record {
  least = m.least;
  floor = m.floor;
  ceiling = ceiling;
  last = last;
  used = m.used;
  check = m.check;
  startup = m.startup;
  volume = volume;
  wait = m.wait;
  frames = m.frames;
  speech = m.speech;
  first = m.first;
  probability = m.probability;
  ratio = m.ratio;
}

-- whether the output is used, whether a check is asked for, and whether it is the startup
abbrev pub flags : Bool → Bool → Bool → MonoInputVolumeController → MonoInputVolumeController
flags used check startup m = record {
  least = m.least;
  floor = m.floor;
  ceiling = m.ceiling;
  last = m.last;
  used = used;
  check = check;
  startup = startup;
  volume = m.volume;
  wait = m.wait;
  frames = m.frames;
  speech = m.speech;
  first = m.first;
  probability = m.probability;
  ratio = m.ratio;
}

-- the counts, and whether the next frame is a first one
abbrev pub counts : ℕ → ℕ → Bool → MonoInputVolumeController → MonoInputVolumeController
counts frames speech first m = record {
  least = m.least;
  floor = m.floor;
  ceiling = m.ceiling;
  last = m.last;
  used = m.used;
  check = m.check;
  startup = m.startup;
  volume = m.volume;
  wait = m.wait;
  frames = frames;
  speech = speech;
  first = first;
  probability = m.probability;
  ratio = m.ratio;
}
