-- `VolumeControl::handle_capture_output_used_change` meets its contract. Assumes nothing.
use mathlib.Core.Path.{refl}
use borrow.Author.Rules.{rules}
use Rattle.input_volume_controller.specs.Channels.{CaptureOutputUsed, called}
use Rattle.input_volume_controller.specs.Control.{control_of, with_used}
use Rattle.input_volume_controller.proofs.Volumes.{then, each_channel_lem, with_used_lem, switch_count}
use Rattle.input_volume_controller.proofs.Whole.{same_count, beside}
use Rattle.input_volume_controller.proofs.volume_control.VolumeControl.handle_capture_output_used_change.Goals as goal

pub returns : goal.returns
unfolding called
returns c =
    let each = each_channel_lem c.args.self c.requires c.each-c.result c.each-c.ensures (CaptureOutputUsed c.args.capture_output_used) (λ i m n h good post. search rules) in
    let b = then (with_used c.args.capture_output_used) each (with_used_lem _ each.good c.args.capture_output_used) in
    record { good = b.good; count = same_count c.args.self _ b (switch_count (control_of c.args.self) c.args.capture_output_used); does = λ p. beside p refl b }
