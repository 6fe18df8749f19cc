-- A sequence of the static library's calls is a run of the controller. Assumes nothing.
use mathlib.Core.Path.{◌≡◌, refl, sym, ◌∙◌}
use mathlib.Core.List.{List, [], ◌∷◌}
use native.Mathlib.Omega.{arith}
use lib.IntN.{ℤ}
use Rattle.std.specs.Prelude.{Err, Ok, Result}
use Rattle.numbers.specs.declared.refusal.Refusal.{Refusal}
use Rattle.numbers.proofs.Said.{numbered}
use Rattle.numbers.specs.Said.{said}
use Rattle.clipping_predictor.specs.declared.settings.ClippingPredictorConfig.{ClippingPredictorConfig}
use Rattle.mono_input_volume_controller.specs.declared.config.Config.{Config}
use Rattle.mono_input_volume_controller.specs.declared.profile.Profile.{Profile}
use Rattle.input_volume_controller.specs.Controller.{view_of, Good}
use Rattle.input_volume_controller.specs.Profile.{making_in}
use Rattle.input_volume_controller.specs.Reply.{Reply, done}
use Rattle.input_volume_controller.specs.Calls.{Call, frame, recommendation, initialise, capture_switch, step, Does}
use Rattle.input_volume_controller.proofs.Whole.{does_whole}
use Rattle.agc2.specs.declared.answers.Agc2Controller.{Agc2Controller}
use Rattle.agc2.specs.Answers.{outcome_number}
use Rattle.agc2.specs.Whole.{whole_of}
use Rattle.agc2.specs.Calls.{CreatedIn}
use Rattle.claims.specs.Run as Runs
use Rattle.claims.specs.RunsExist.{HasMaking}
use Rattle.claims.specs.Library.{Numbers, of_frame, of_recommendation, in_numbers, LibraryCall, framed, recommended, initialised, switched, Heard, heard_of, LibraryRun, none, next, all_in_numbers, RunsAs, MadeAs, LibraryRunsAreRuns}

-- ---- one call

record DoesAs (c : Agc2Controller) (call : Call) (says : Numbers) (d : Agc2Controller) : Type 0 where
  reply : Reply
  does : Does (whole_of c) call reply (whole_of d)
  numbers : says ≡ in_numbers call reply

does_as : {c d : Agc2Controller} {call : Call} {says : Numbers} → Good (whole_of c) → LibraryCall c call says d → DoesAs c call says d
does_as good (framed {c = c} {most = most} {volumes = volumes} {samples = samples} {lent = lent} h) = record {
  reply = (step (view_of (whole_of c)) (frame most volumes samples lent)).reply;
  does = record { good = h.becomes.good; typed = h.typed; reply = refl; view = h.becomes.is };
  numbers = λ i. of_frame (record { refusal = h.refusal i; near = h.near i });
}
does_as good (recommended {c = c} {probability = probability} {level = level} h) = record {
  reply = h.says;
  does = does_whole (whole_of c) (recommendation probability level) h.says _ good tt h.does;
  numbers = λ i. of_recommendation (record { present = h.present i; volume = h.volume i });
}
does_as good (initialised {c = c} h) = record { reply = done; does = does_whole (whole_of c) initialise done _ good tt h; numbers = refl }
does_as good (switched {c = c} {on = on} h) = record { reply = done; does = does_whole (whole_of c) (capture_switch on) done _ good tt h; numbers = refl }

-- ---- lists of calls

pub runs_as : {c : Agc2Controller} {calls : List Call} {all : List Heard} {e : Agc2Controller} → Good (whole_of c) → LibraryRun c calls all e → RunsAs c calls all e
unfolding all_in_numbers
runs_as good none = record { heard = []; run = Runs.none; numbers = refl }
runs_as good (next {d = d} one rest) =
    let a = does_as good one in
    let r = runs_as a.does.good rest in
    record {
      heard = Runs.heard a.reply (whole_of d) ∷ r.heard;
      run = Runs.next a.does r.run;
      numbers = λ i. heard_of (a.numbers i) d ∷ r.numbers i;
    }

-- ---- the making

-- no refusal has the number 0
refused_not_zero : (cause : Refusal) → outcome_number (said (Err cause)) ≡ 0 → ⊥
refused_not_zero cause e = omega (arith, (numbered cause).least, e)

accepted_at_zero : (answer : Result (Unit {0}) Refusal) → outcome_number (said answer) ≡ 0 → answer ≡ Ok tt
accepted_at_zero (Ok tt) e = refl
accepted_at_zero (Err cause) e = absurd (refused_not_zero cause e)

-- what the library's making hands back is what the controller's would
abbrev pub made_created : (profile : Profile) (channels : ℤ) (config : Config) (predictor : ClippingPredictorConfig) (c : Agc2Controller) → CreatedIn profile channels config predictor c
    → HasMaking profile channels config predictor
made_created profile channels config predictor c made = record {
  made = record { answer = (making_in profile channels config predictor).answer; controller = whole_of c };
  created = record { good = made.becomes.good; answer = refl; view = made.becomes.is };
}

made_as : (profile : Profile) (channels : ℤ) (config : Config) (predictor : ClippingPredictorConfig) (c : Agc2Controller) (calls : List Call) (all : List Heard) (e : Agc2Controller) → CreatedIn profile channels config predictor c
    → c.refusal ≡ 0 → LibraryRun c calls all e → MadeAs profile channels config predictor calls all e
made_as profile channels config predictor c calls all e made zero run =
    let m = made_created profile channels config predictor c made in
    let r = runs_as made.becomes.good run in
    record {
      heard = r.heard;
      had = record {
        made = m.made;
        created = m.created;
        accepted = accepted_at_zero (making_in profile channels config predictor).answer (sym made.refusal ∙ zero);
        run = r.run;
      };
      numbers = r.numbers;
    }

-- THE CLAIM
pub library_runs_are_runs : LibraryRunsAreRuns
library_runs_are_runs = record { runs = λ c calls all e good run. runs_as good run; made = made_as }
