-- `MonoInputVolumeController::process` meets its contract. Assumes nothing.
use Rattle.mono_input_volume_controller.proofs.Paths.{process_is}
use Rattle.mono_input_volume_controller.proofs.Kept.{becomes, speech_most, good_processed}
use Rattle.mono_input_volume_controller.proofs.mono.MonoInputVolumeController.process.Goals as goal

pub count_frame-n-requires : goal.count_frame-n-requires
count_frame-n-requires c =
    (c.settle-m.ensures.good, rw c.speech_frames-speech.ensures (speech_most _ _ c.settle-m.ensures.good))

pub returns : goal.returns
returns c =
    becomes (process_is _ _ _ _ _ _ c.settle-m.ensures.is c.speech_frames-speech.ensures c.count_frame-n.ensures.is) (good_processed _ _ _ c.requires)
