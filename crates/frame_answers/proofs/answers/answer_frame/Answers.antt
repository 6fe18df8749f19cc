-- `frame_answers::answers::answer_frame` meets its contract: a frame that is refused, and one that is accepted. Assumes nothing.
use native.Mathlib.Omega.{arith}
use lib.IntN.{pos}
use lib.ListN.{length}
use Rattle.input_volume_controller.specs.Limits.{plain_limits}
use Rattle.input_volume_controller.specs.Calls.{AnalyzedOf}
use Rattle.frame_answers.proofs.Lines.{heard_as, refused_as, pending_after, accepted_as}
use Rattle.frame_answers.proofs.answers.answer_frame.Goals as goal

pub analyze_input_audio-heard-requires : goal.analyze_input_audio-heard-requires
analyze_input_audio-heard-requires c = c.requires

pub recommended-requires : goal.recommended-requires
recommended-requires c =
    let heard : AnalyzedOf plain_limits c.args.controller.now (pos c.args.parsed.volume) (length c.args.samples.now) c.args.samples.now c.analyze_input_audio-heard.result = heard_as _ _ _ _ _ _ (omega arith) c.from.ensures c.analyze_input_audio-heard.ensures in
    (heard.does.good, pending_after _ _ _ _ _ heard c.args.parsed.probability c.args.parsed.level _ c.in-Ok.is)

pub returns-in-Err : goal.returns-in-Err
returns-in-Err c = refused_as _ _ _ _ _ (heard_as _ _ _ _ _ _ (omega arith) c.from.ensures c.analyze_input_audio-heard.ensures) _ _ _ c.in-Err.is

pub returns-in-Ok : goal.returns-in-Ok
returns-in-Ok c =
    accepted_as _ _ _ _ _ (heard_as _ _ _ _ _ _ (omega arith) c.from.ensures c.analyze_input_audio-heard.ensures) _ _ _ c.in-Ok.is _ c.recommended.ensures
