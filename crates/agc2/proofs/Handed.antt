-- A call on what the numbers stand for, and the numbers of what it hands back. Assumes nothing.
use mathlib.Core.Path.{◌≡◌, refl, sym, ap, subst, ◌∙◌}
use mathlib.Core.List.{List}
use Prim.Native.Nat.{ℕ, ◌^◌, ◌<◌}
use native.Mathlib.Omega.{arith}
use lib.IntN.{ℤ}
use lib.Signed.{mag}
use lib.Ieee.{Float}
use Rattle.std.specs.Prelude.{Bool, Err, Ok, Result}
use Rattle.numbers.proofs.Signs.{read}
use Rattle.clipping_predictor.specs.declared.settings.ClippingPredictorConfig.{ClippingPredictorConfig}
use Rattle.mono_input_volume_controller.specs.declared.config.Config.{Config}
use Rattle.mono_input_volume_controller.specs.declared.profile.Profile.{Profile}
use Rattle.numbers.specs.declared.refusal.Refusal.{Refusal}
use Rattle.numbers.specs.Said.{said}
use Rattle.input_volume_controller.specs.declared.limits.Limits.{Limits}
use Rattle.input_volume_controller.specs.declared.Analyzed.{Analyzed}
use Rattle.input_volume_controller.specs.declared.Created.{Created}
use Rattle.input_volume_controller.specs.declared.volume_control.VolumeControl.{VolumeControl}
use Rattle.input_volume_controller.specs.declared.volume_control.ControlRecommended.{ControlRecommended}
use Rattle.input_volume_controller.specs.declared.plain.PlainControl.{PlainControl}
use Rattle.input_volume_controller.specs.declared.InputVolumeController.{InputVolumeController}
use Rattle.input_volume_controller.specs.Control.{Good as GoodControl}
use Rattle.input_volume_controller.specs.Controller.{together, view_of, Good, Becomes, base_predictor}
use Rattle.input_volume_controller.specs.Controller as Making
use Rattle.input_volume_controller.specs.Profile.{making_in, CreatedIn}
use Rattle.input_volume_controller.proofs.Profiles.{made_at}
use Rattle.input_volume_controller.specs.Reply.{Reply, refusal, analysis_says, recommendation_says}
use Rattle.input_volume_controller.specs.Calls.{Call, ControlDoes}
use Rattle.input_volume_controller.specs.Calls as Calls
use Rattle.input_volume_controller.specs.Plain.{whole_control, plain_control, mode_of}
use Rattle.input_volume_controller.proofs.Numbered.{control_again, predictor_again}
use Rattle.agc2.specs.declared.answers.FrameNumbers.{FrameNumbers}
use Rattle.agc2.specs.declared.answers.VolumeNumbers.{VolumeNumbers}
use Rattle.agc2.specs.declared.answers.Agc2Controller.{Agc2Controller}
use Rattle.agc2.specs.Settings.{predictor_config_of, predictor_in_numbers}
use Rattle.agc2.specs.Whole.{whole_of, beside_of}
use Rattle.agc2.specs.Answers.{outcome_number, frame_numbers, volume_numbers}
use Rattle.agc2.specs.Calls.{CreatedAs, AnalyzedEachOf, RecommendedAs}

pub back : (n m : ℕ) (d : InputVolumeController) → whole_of (beside_of n m d) ≡ d
back n m d = λ i. together (control_again d.control i) (predictor_again d.predictor i)

pub in_order : {s c : InputVolumeController} → c ≡ s → Good s → Good c
in_order e good = subst Good (sym e) good

becomes : (n m : ℕ) (d : InputVolumeController) {said : Making.Controller} → Good d → view_of d ≡ said → Becomes said (whole_of (beside_of n m d))
becomes n m d good view = record { good = subst Good (sym (back n m d)) good; is = ap view_of (back n m d) ∙ view }

-- ---- a call of the control alone

pub control_back : {q : PlainControl} (d : VolumeControl) → q ≡ plain_control d → whole_control q ≡ d
control_back d e = ap whole_control e ∙ control_again d

pub control_in_order : {s c : VolumeControl} → c ≡ s → GoodControl s → GoodControl c
control_in_order e good = subst GoodControl (sym e) good

pub does : {q : PlainControl} {s c : VolumeControl} (d : VolumeControl) {call : Call} {says : Reply} → c ≡ s → q ≡ plain_control d → ControlDoes c call says d → ControlDoes s call says (whole_control q)
does {q} {s} {c} d {call} {says} w e h =
    subst (λ (x : VolumeControl). ControlDoes x call says (whole_control q)) w (subst (λ (x : VolumeControl). ControlDoes c call says x) (sym (control_back d e)) h)

-- ---- a making

-- the base's predictor in numbers stands for the base's predictor
pub base_back : predictor_config_of (predictor_in_numbers base_predictor) ≡ base_predictor
unfolding predictor_config_of mode_of
base_back = refl

created : {making : Making.Making} (m : Created) {n : ℕ} {r : Agc2Controller} → n ≡ outcome_number (said m.answer) → r ≡ beside_of n 0 m.controller → Making.CreatedAs making m → CreatedAs making r
created {making} m {n} f e h =
    subst (λ (x : Agc2Controller). CreatedAs making x) (sym e)
    (record { refusal = f ∙ ap outcome_number h.answer; near = refl; unanswered = record { present = refl; volume = refl }; becomes = becomes n 0 m.controller h.good h.view })

-- within any profile, with the arguments as the machine reads them back
pub created_in : {profile told : Profile} (channels : ℤ) {c d : Config} {p q : ClippingPredictorConfig} (m : Created) {n : ℕ} {r : Agc2Controller} → mag channels < 2 ^ 31 → told ≡ profile → c ≡ d → p ≡ q
    → CreatedIn told (read channels) c p m → n ≡ outcome_number (said m.answer) → r ≡ beside_of n 0 m.controller → CreatedAs (making_in profile channels d q) r
created_in {told = told} channels {d = d} {q = q} m {r = r} fits same e f h number is =
    subst (λ (x : Profile). CreatedAs (making_in x channels d q) r) same (created m number is (made_at (λ (x : Making.Making). Making.CreatedAs x m) told channels fits e f h))

-- ---- a frame

not_accepted : {near : _} {n : ℕ} {X : Type 0} → analysis_says (Ok near) ≡ refusal n → X
not_accepted e = absurd (let z : ◌≡◌ {A = ℕ} 0 1 = cc in omega arith)

refused_same : (a : Result Bool Refusal) {n : ℕ} {X : Type 0} → analysis_says a ≡ refusal n → ((cause : Refusal) → a ≡ Err cause → X) → X
refused_same (Ok near) e f = not_accepted e
refused_same (Err cause) e f = f cause refl

pub framed : {r : Agc2Controller} {most : Limits} {s c : InputVolumeController} {volumes : List ℤ} {samples : ℕ} {lent : List Float} (a : Analyzed) {n : FrameNumbers} → c ≡ s → n ≡ frame_numbers (analysis_says a.answer) → r ≡ beside_of n.refusal n.near a.controller
    → Calls.AnalyzedEachOf most c volumes samples lent a → AnalyzedEachOf most s volumes samples lent r
framed {r} {most} {s} {c} {volumes} {samples} {lent} a {n} w f e h =
    subst (λ (x : InputVolumeController). AnalyzedEachOf most x volumes samples lent r) w
    (subst (λ (x : Agc2Controller). AnalyzedEachOf most c volumes samples lent x) (sym e)
    (record {
      typed = h.does.typed;
      refusal = ap (λ (x : FrameNumbers). x.refusal) (f ∙ ap frame_numbers h.does.reply);
      near = ap (λ (x : FrameNumbers). x.near) (f ∙ ap frame_numbers h.does.reply);
      unanswered = record { present = refl; volume = refl };
      becomes = becomes n.refusal n.near a.controller h.does.good h.does.view;
      same = λ k t. back n.refusal n.near a.controller ∙ refused_same a.answer (h.does.reply ∙ t) h.same;
    }))

-- ---- a recommendation

pub answered : {q : PlainControl} {s c : VolumeControl} {call : Call} (a : ControlRecommended) {n : VolumeNumbers} {v : ℤ} → c ≡ s → v ≡ n.volume → n ≡ volume_numbers (recommendation_says a.answer) → q ≡ plain_control a.control
    → ControlDoes c call (recommendation_says a.answer) a.control → RecommendedAs s call (record { present = n.present; volume = v; control = q })
answered a w m f e h = record {
  says = recommendation_says a.answer;
  does = does a.control w e h;
  present = ap (λ (x : VolumeNumbers). x.present) f;
  volume = m ∙ ap (λ (x : VolumeNumbers). x.volume) f;
}
