-- `MonoInputVolumeController::speech_frames` meets its contract. Assumes nothing.
use Rattle.mono_input_volume_controller.proofs.Paths.{speech_more, speech_same}
use Rattle.mono_input_volume_controller.proofs.mono.MonoInputVolumeController.speech_frames.Goals as goal

pub returns-then-self-speech_probability : goal.returns-then-self-speech_probability
returns-then-self-speech_probability c = speech_more _ _ c.if-self-speech_probability.true

pub returns : goal.returns
returns c = speech_same _ _ c.if-self-speech_probability.false
