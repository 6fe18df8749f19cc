-- The controller's capture switch is that of each of its channels, whether they are equal or not. Assumes nothing.
use mathlib.Core.Path.{◌≡◌, refl, ap, ◌∙◌}
use mathlib.Core.Bool.{Bool, true}
use mathlib.Core.List.{List}
use Prim.Native.Nat.{ℕ}
use Rattle.clipping_predictor.specs.declared.settings.Settings as Predictor
use Rattle.mono_input_volume_controller.specs.declared.config.Settings.{Settings}
use Rattle.mono_input_volume_controller.specs.declared.mono.MonoInputVolumeController.{MonoInputVolumeController}
use Rattle.mono_input_volume_controller.specs.Mono.{created, handled_capture_output_used_change}
use Rattle.mono_input_volume_controller.specs.SpeechLevel.{rms_error_of}
use Rattle.input_volume_controller.specs.Channels.{ChannelCall, Initialize, CaptureOutputUsed, Clipping, Process, called, each_called}
use Rattle.input_volume_controller.specs.Control.{Control}
use Rattle.input_volume_controller.specs.ControlCalls.{aggregated, with_applied_input_volumes, initialize, lower_channels, process_channels}
use Rattle.input_volume_controller.specs.Controller.{fresh_with}
use Rattle.input_volume_controller.specs.Calls.{Call, after}
use Rattle.claims.specs.Every.{Every}
use Rattle.claims.proofs.Every.{every_any, every_map, every_replicate}
use Rattle.claims.proofs.Cores.{lasting_clipped, lasting_processed}
use Rattle.claims.proofs.Sets.{every_given}
use Rattle.claims.proofs.Walk.{Any, Keeps, after_keeps}

abbrev pub IsUsed : Bool → MonoInputVolumeController → Type 0
IsUsed on m = m.used ≡ on

-- each channel's output is used where the switch says so
abbrev pub Follows : Control → Type 0
Follows c = Every (IsUsed c.used) c.channels

-- a call after which the switch stands at `new`
all_called : (call : ChannelCall) (on new : Bool) (ms : List MonoInputVolumeController) → ((m : MonoInputVolumeController) → IsUsed on m → IsUsed new (called call m)) → Every (IsUsed on) ms
    → Every (IsUsed new) (each_called call ms)
all_called call on new ms h e = every_map (IsUsed on) (IsUsed new) (called call) ms h e

used : {m k : MonoInputVolumeController} → m ≡ k → m.used ≡ k.used
used e = ap (λ (m : MonoInputVolumeController). m.used) e

follows_kept : Keeps Any Follows
unfolding aggregated with_applied_input_volumes lower_channels process_channels initialize called handled_capture_output_used_change
follows_kept = record {
  runs = record {
    hears = record {
      lowers = λ by c h. all_called (Clipping by) c.used c.used c.channels (λ m e. used (lasting_clipped by m) ∙ e) h;
      counts = λ c h. h;
    };
    applies = λ volumes c e m t h. every_given (λ v. Unit {0}) (IsUsed c.used) (λ v m k u. u) volumes c.channels (every_any (λ (v : ℕ). Unit {0}) (λ v. tt) volumes) h;
    processes = λ p l c h.
        let error = rms_error_of l c.settings.min_target c.settings.max_target in
        all_called (Process error p) c.used c.used c.channels (λ m e. used (lasting_processed error p m) ∙ e) h;
    repeats = λ c h. h;
  };
  initialises = λ c h. all_called Initialize c.used true c.channels (λ m e. refl) h;
  switches = λ on c h. all_called (CaptureOutputUsed on) c.used on c.channels (λ m e. refl) h;
}

pub follows_after : (p : Predictor.Settings) (s : Settings) (count : ℕ) (calls : List Call) → Follows (after (fresh_with p s count) calls).control
follows_after p s count calls = after_keeps Follows follows_kept calls (fresh_with p s count) (every_replicate (IsUsed true) count (created s) refl)
