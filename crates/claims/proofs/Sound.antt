-- What every call keeps of a controller that was made: its settings, each of its channels in good order, and volumes of at most 255. Assumes nothing.
use mathlib.Core.Path.{◌≡◌, refl, ap}
use mathlib.Core.Bool.{Bool}
use mathlib.Core.List.{List, [], ◌∷◌}
use Prim.Native.Nat.{ℕ, zero, suc, ◌≤◌, zero-le}
use native.Mathlib.Nat.{le_trans}
use native.Mathlib.Omega.{arith}
use lib.Ieee.{Float}
use Rattle.std.specs.Prelude.{ℤ, None, Option, Some}
use Rattle.clipping_predictor.specs.declared.settings.Settings as Predictor
use Rattle.mono_input_volume_controller.specs.declared.config.Settings.{Settings}
use Rattle.mono_input_volume_controller.specs.declared.mono.MonoInputVolumeController.{MonoInputVolumeController}
use Rattle.mono_input_volume_controller.specs.SpeechLevel.{rms_error_of}
use Rattle.input_volume_controller.specs.Channels.{ChannelCall, Initialize, CaptureOutputUsed, StreamAnalogLevel, Clipping, Process, called, each_called, each_given, aggregate_of}
use Rattle.mono_input_volume_controller.specs.MonoState.{max_input_volume, max_wait, Good}
use Rattle.mono_input_volume_controller.specs.Mono.{created}
use Rattle.input_volume_controller.specs.Control.{Control}
use Rattle.input_volume_controller.specs.Volumes.{lowest_of}
use Rattle.input_volume_controller.specs.ControlCalls.{raised_for, aggregated, with_applied_input_volumes, initialize, lower_channels, process_channels}
use Rattle.input_volume_controller.specs.Controller.{fresh_with}
use Rattle.mono_input_volume_controller.proofs.Kept.{good_switched, good_clipped, good_processed}
use Rattle.claims.specs.Every.{Every}
use Rattle.claims.proofs.Every.{every_map, every_replicate}
use Rattle.claims.proofs.Lowest.{lowest_of_lem}
use Rattle.claims.proofs.Sets.{every_given, AtMost, every_most}
use Rattle.claims.proofs.Walk.{Any, Keeps}
use Rattle.input_volume_controller.proofs.SetNumbers.{AllMost, lowest_of_most}

-- ---- one channel

pub good_initialized : (m : MonoInputVolumeController) → Good m → Good (called Initialize m)
unfolding called
good_initialized m g = omega arith

pub good_given : (volume : ℕ) (m : MonoInputVolumeController) → volume ≤ max_input_volume → Good m → Good (called (StreamAnalogLevel volume) m)
unfolding called
good_given volume m h g = omega arith

pub good_switch : (on : Bool) (m : MonoInputVolumeController) → Good m → Good (called (CaptureOutputUsed on) m)
unfolding called
good_switch on m g = good_switched on m g

pub good_lowered : (by : ℕ) (m : MonoInputVolumeController) → Good m → Good (called (Clipping by) m)
unfolding called
good_lowered by m g = good_clipped by m g

pub good_process : (error : Option ℤ) (probability : Float) (m : MonoInputVolumeController) → Good m → Good (called (Process error probability) m)
unfolding called
good_process error probability m g = good_processed error probability m g

-- ---- all channels

abbrev pub AllGood : List MonoInputVolumeController → Type 0
AllGood ms = Every Good ms

pub all_called : (call : ChannelCall) → ((m : MonoInputVolumeController) → Good m → Good (called call m)) → (ms : List MonoInputVolumeController) → AllGood ms → AllGood (each_called call ms)
all_called call f ms g = every_map Good Good (called call) ms f g

-- each with its own volume
pub all_given : (volumes : List ℕ) (ms : List MonoInputVolumeController) → AllMost volumes → AllGood ms → AllGood (each_given volumes ms)
all_given volumes ms h g = every_given AtMost Good good_given volumes ms (every_most volumes h) g

-- ---- the lowest of their volumes

pub lowest_most : (ms : List MonoInputVolumeController) → AllGood ms → (aggregate_of ms).volume ≤ 255
unfolding aggregate_of
lowest_most [] g = zero-le
lowest_most (m ∷ ms) g = le_trans ((lowest_of_lem (m ∷ ms) (omega arith)).least 0 (omega arith)) g.0.volume_le

pub raised_most : (a : Option ℕ) (least x : ℕ) → least ≤ 255 → x ≤ 255 → raised_for a least x ≤ 255
unfolding raised_for
raised_most None least x h k = k
raised_most (Some zero) least x h k = k
raised_most (Some (suc n)) least x h k = omega arith

abbrev pub AppliedMost : Option ℕ → Type 0
AppliedMost None = Unit {0}
AppliedMost (Some v) = v ≤ 255

-- what every call keeps: the settings, the channels in good order, and the volumes
pub record Sound (s : Settings) (c : Control) : Type 0 where
  pub settings : c.settings ≡ s
  pub channels : AllGood c.channels
  pub volume : c.volume ≤ 255
  pub applied : AppliedMost c.applied

module _ (s : Settings) (low : s.least ≤ 255) where
  -- the volume that is taken from such channels
  taken : (a : Option ℕ) (c : Control) (channels : List MonoInputVolumeController) → c.settings ≡ s → AllGood channels → raised_for a c.settings.least (aggregate_of channels).volume ≤ 255
  taken a c channels e g = raised_most a c.settings.least (aggregate_of channels).volume (omega (arith, ap (λ (t : Settings). t.least) e)) (lowest_most channels g)

  pub sound_kept : Keeps Any (Sound s)
  unfolding aggregated with_applied_input_volumes lower_channels process_channels initialize
  sound_kept = record {
    runs = record {
      hears = record {
        lowers = λ by c h. let g = all_called (Clipping by) (good_lowered by) c.channels h.channels in record { settings = h.settings; channels = g; volume = taken c.applied c _ h.settings g; applied = h.applied };
        counts = λ c h. record { settings = h.settings; channels = h.channels; volume = h.volume; applied = h.applied };
      };
      applies = λ volumes c e m t h.
          let g = all_given volumes c.channels m h.channels in
          record { settings = h.settings; channels = g; volume = taken (Some (lowest_of volumes)) c _ h.settings g; applied = lowest_of_most volumes m };
      processes = λ p l c h.
          let error = rms_error_of l c.settings.min_target c.settings.max_target in
          let g = all_called (Process error p) (good_process error p) c.channels h.channels in
          record { settings = h.settings; channels = g; volume = taken c.applied c _ h.settings g; applied = tt };
      repeats = λ c h. record { settings = h.settings; channels = h.channels; volume = taken c.applied c _ h.settings h.channels; applied = h.applied };
    };
    initialises = λ c h. let g = all_called Initialize good_initialized c.channels h.channels in record { settings = h.settings; channels = g; volume = taken c.applied c _ h.settings g; applied = tt };
    switches = λ on c h. record { settings = h.settings; channels = all_called (CaptureOutputUsed on) (good_switch on) c.channels h.channels; volume = h.volume; applied = h.applied };
  }

-- a fresh controller is so
pub sound_fresh : (p : Predictor.Settings) (s : Settings) (n : ℕ) → s.least ≤ 255 → s.floor ≤ 255 → 1 ≤ s.update_wait → s.update_wait ≤ max_wait → Sound s (fresh_with p s n).control
sound_fresh p s n a b c d = record {
  settings = refl;
  channels = every_replicate Good n (created s) (omega arith);
  volume = omega arith;
  applied = tt;
}
