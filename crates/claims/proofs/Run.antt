-- A run of the functions is a run of the definition. Assumes nothing.
use mathlib.Core.Path.{◌≡◌, refl, ap, ◌∙◌}
use mathlib.Core.List.{List, ◌∷◌}
use Rattle.input_volume_controller.specs.declared.InputVolumeController.{InputVolumeController}
use Rattle.input_volume_controller.specs.Control.{control_of}
use Rattle.input_volume_controller.specs.Controller.{Controller, view_of, Good}
use Rattle.input_volume_controller.specs.Reply.{Reply}
use Rattle.input_volume_controller.specs.Calls.{Call, Answer, step, after, answer_of, answers, Does}
use Rattle.claims.specs.Run.{heard, Run, none, next, RunIsAfter, RunsAreRuns}

heard_is : (c d : InputVolumeController) (call : Call) (says : Reply) → Does c call says d → heard says d ≡ answer_of (step (view_of c) call)
unfolding view_of control_of
heard_is c d call says h = λ i. record { reply = h.reply i; volume = (h.view i).control.volume; stored = (h.view i).predictor.rings }

run : {c : InputVolumeController} {calls : List Call} {all : List Answer} {e : InputVolumeController} → Good c → Run c calls all e → RunIsAfter c calls all e
unfolding after answers
run g none = record { good = g; view = refl; answered = refl }
run g (next {c = c} {d = d} {call = call} {calls = calls} {says = says} {rest = rest} h r) =
    let ih = run h.good r in
    record {
      good = ih.good;
      view = ih.view ∙ ap (λ (v : Controller). after v calls) h.view;
      answered = λ i. heard_is c d call says h i ∷ (ih.answered ∙ ap (λ (v : Controller). answers v calls) h.view) i;
    }

pub runs_are_runs : RunsAreRuns
runs_are_runs c calls all e g r = run g r
