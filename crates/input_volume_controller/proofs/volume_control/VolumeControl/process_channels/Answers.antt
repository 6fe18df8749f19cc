-- `VolumeControl::process_channels` meets its contract. Assumes nothing.
use mathlib.Core.Path.{◌≡◌, ap, ◌∙◌}
use mathlib.Core.List.{List}
use Rattle.numbers.proofs.Signs.{read, again}
use Rattle.mono_input_volume_controller.specs.declared.mono.MonoInputVolumeController.{MonoInputVolumeController}
use Rattle.input_volume_controller.specs.Channels.{Process, called}
use Rattle.mono_input_volume_controller.specs.SpeechLevel.{rms_error_of}
use Rattle.input_volume_controller.specs.Control.{control_of, each_channel, with_channels, with_applied}
use Rattle.input_volume_controller.specs.ControlCalls.{process_channels, aggregated}
use Rattle.input_volume_controller.proofs.ChannelLists.{all_called}
use Rattle.input_volume_controller.proofs.Volumes.{target_small}
use borrow.Author.Rules.{rules}
use Rattle.std.specs.Prelude.{ℤ, None, Option}
use Rattle.input_volume_controller.proofs.volume_control.VolumeControl.process_channels.Goals as goal

-- the targets as the machine reads them back

pub speech_error-error-requires : goal.speech_error-error-requires
speech_error-error-requires c =
    let low : read c.args.self.settings.min_target ≡ c.args.self.settings.min_target = again _ (target_small _ c.requires.settings.targets.min_low c.requires.settings.targets.min_high) in
    let high : read c.args.self.settings.max_target ≡ c.args.self.settings.max_target = again _ (target_small _ c.requires.settings.targets.max_low c.requires.settings.targets.max_high) in
    rw (low, high) c.requires.settings.targets

pub with_channels-requires : goal.with_channels-requires
with_channels-requires c = (search rules, c.each.ensures.good)

pub returns : goal.returns
unfolding process_channels aggregated control_of called
returns c =
    let each = all_called c.args.self.channels c.each.result c.requires.channels c.each.ensures (Process c.speech_error-error.result c.args.speech_probability) (λ i m n h good post. search rules) in
    let low : read c.args.self.settings.min_target ≡ c.args.self.settings.min_target = again _ (target_small _ c.requires.settings.targets.min_low c.requires.settings.targets.min_high) in
    let high : read c.args.self.settings.max_target ≡ c.args.self.settings.max_target = again _ (target_small _ c.requires.settings.targets.max_low c.requires.settings.targets.max_high) in
    let error = c.speech_error-error.ensures ∙ (λ i. rms_error_of c.args.speech_level (low i) (high i)) in
    record {
      good = c.with_channels.ensures.good;
      is =
          c.with_channels.ensures.is ∙ ap (λ (l : List MonoInputVolumeController). with_applied None (aggregated (with_channels l (control_of c.args.self)))) each.is
          ∙ ap (λ (x : Option ℤ). with_applied None (aggregated (each_channel (Process x c.args.speech_probability) (control_of c.args.self)))) error;
    }
