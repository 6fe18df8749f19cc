-- How the claims reach the code. A run of the Rattle functions gives each call the controller that the last one handed back, and the contracts say of each call that it `Does` what the definition
-- does (`input_volume_controller/specs/Calls.antt`; the contracts stand in `input_volume_controller/src/lib.rt`, at `analyze_input_audio`, `analyze_input_audio_each`, `spotter_analyze_input_audio`,
-- `spotter_analyze_input_audio_each`, `recommend_input_volume`, `initialize` and `handle_capture_output_used_change`). So a run of the functions is a run of the definition: from the same start it ends where `after`
-- ends, and answers what `answers` says. Definitions only.
use Rattle.std.specs.Prelude.{◌≡◌, List, [], ◌∷◌}
use Rattle.input_volume_controller.specs.declared.InputVolumeController.{InputVolumeController}
use Rattle.input_volume_controller.specs.Controller.{view_of, Good}
use Rattle.input_volume_controller.specs.Reply.{Reply}
use Rattle.input_volume_controller.specs.Calls.{Call, Answer, after, answers, Does}

-- what is heard of a call: its reply, and of the controller that it hands back the volume and each ring's stored records, with their counts. Metrics are worked out from these alone
-- (`channel_metrics`), so what is heard alike has the same metrics, totals and all
abbrev pub heard : Reply → InputVolumeController → Answer
heard says c = record { reply = says; volume = c.control.volume; stored = (view_of c).predictor.rings }

-- a run from one controller to another, by a list of calls, with what is heard of each
pub data Run : InputVolumeController → List Call → List Answer → InputVolumeController → Type 0 where
  none : {c : InputVolumeController} → Run c [] [] c
  next : {c d e : InputVolumeController} {call : Call} {calls : List Call} {says : Reply} {rest : List Answer} → Does c call says d → Run d calls rest e → Run c (call ∷ calls) (heard says d ∷ rest) e

-- what is true of a run
pub record RunIsAfter (c : InputVolumeController) (calls : List Call) (all : List Answer) (e : InputVolumeController) : Type 0 where
  pub good : Good e
  pub view : view_of e ≡ after (view_of c) calls
  pub answered : all ≡ answers (view_of c) calls

-- THE CLAIM
abbrev pub RunsAreRuns : Type 0
RunsAreRuns = (c : InputVolumeController) (calls : List Call) (all : List Answer) (e : InputVolumeController) → Good c → Run c calls all e → RunIsAfter c calls all e

-- what is heard of two controllers of the code in the same calls is the same
abbrev pub SoundAlike : InputVolumeController → InputVolumeController → Type 0
SoundAlike a b = (calls : List Call) (one other : List Answer) (c d : InputVolumeController) → Run a calls one c → Run b calls other d → one ≡ other
