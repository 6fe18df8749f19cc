-- A run in which no frame is marked near is the run that exact logarithms lead to. Assumes nothing.
use mathlib.Core.Path.{◌≡◌, refl, sym, ap, ◌∙◌, subst}
use mathlib.Core.Bool.{Bool, true, false}
use mathlib.Core.List.{List, [], ◌∷◌}
use Prim.Native.Nat.{ℕ}
use lib.Dec.{T}
use lib.IntN.{ℤ}
use lib.Ieee.{Float, nan, binary32, fits}
use Rattle.std.specs.Prelude.{None, Option, Some}
use Rattle.clipping_predictor.specs.Predictor.{Predictor}
use Rattle.clipping_predictor.specs.declared.settings.ClippingPredictorConfig.{ClippingPredictorConfig}
use Rattle.mono_input_volume_controller.specs.declared.config.Config.{Config}
use Rattle.mono_input_volume_controller.specs.declared.profile.Profile.{Profile}
use Rattle.input_volume_controller.specs.declared.InputVolumeController.{InputVolumeController}
use Rattle.input_volume_controller.specs.Controller.{Controller}
use Rattle.input_volume_controller.specs.Profile.{making_in}
use Rattle.input_volume_controller.specs.Reply.{Stepped}
use Rattle.input_volume_controller.specs.Recommendation.{recommend_if, unless_none, recommend_input_volume}
use Rattle.input_volume_controller.specs.Calls.{Call, frame, recommendation, initialise, capture_switch, step, after, Answer, answer_of, answers, Typed}
use Rattle.claims.specs.Run.{Run, none, next}
use Rattle.claims.specs.Made.{MadeAndHad}
use Rattle.claims.specs.Every.{Every}
use Rattle.claims.specs.Unmarked.{PeakFits}
use Rattle.claims.specs.ExactRun.{exact_step, exact_after, exact_answers, Unmarked, SameAsExact, HeardAsExact, UnmarkedRunIsExact}
use Rattle.claims.proofs.Every.{every_from, every_replicate}
use Rattle.claims.proofs.Fresh.{making_fresh}
use Rattle.claims.proofs.Had.{had_run, had_stands}
use Rattle.claims.proofs.UnmarkedFrame.{Exactly, frame_exact}

-- ---- one call

recommend_rings : (used : Bool) (applied : ℕ) (probability : Float) (level : Option Float) (c : Controller) → (recommend_if used applied probability level c).state.predictor ≡ c.predictor
recommend_rings true applied probability level c = refl
recommend_rings false applied probability level c = refl

none_rings : (applied : Option ℕ) (probability : Float) (level : Option Float) (c : Controller) → (unless_none applied probability level c).state.predictor ≡ c.predictor
none_rings None probability level c = refl
none_rings (Some n) probability level c = recommend_rings c.control.used n probability level c

recommendation_rings : (probability : Float) (level : Option Float) (c : Controller) → (recommend_input_volume probability level c).state.predictor ≡ c.predictor
unfolding recommend_input_volume
recommendation_rings probability level c = none_rings c.control.applied probability level c

step_exact : (call : Call) (c : Controller) → Typed call → Every (Every PeakFits) c.predictor.rings → Exactly (step c call) (exact_step c call)
step_exact (frame most volumes samples lent) c f g = frame_exact most volumes samples lent c (every_from (λ (x : Float). T (fits binary32 x)) lent nan f) g
step_exact (recommendation probability level) c f g = record { fit = subst (λ (p : Predictor). Every (Every PeakFits) p.rings) (sym (recommendation_rings probability level c)) g; same = λ m. refl }
step_exact initialise c f g = record { fit = g; same = λ m. refl }
step_exact (capture_switch on) c f g = record { fit = g; same = λ m. refl }

-- ---- runs

from : (c : Controller) (calls : List Call) → Every (Every PeakFits) c.predictor.rings → Every Typed calls → Every Unmarked (answers c calls) → SameAsExact c calls
unfolding answers exact_answers after exact_after
from c [] f g m = record { answers_are = refl; state_is = refl }
from c (call ∷ calls) f g m =
    let one = step_exact call c g.0 f in
    let e : step c call ≡ exact_step c call = one.same m.0 in
    let rest = from (step c call).state calls one.fit g.1 m.1 in
    record {
      answers_are = ap (λ (l : List Answer). answer_of (step c call) ∷ l) rest.answers_are ∙ ap (λ (s : Stepped). answer_of s ∷ exact_answers s.state calls) e;
      state_is = rest.state_is ∙ ap (λ (s : Stepped). exact_after s.state calls) e;
    }

making_fits : (profile : Profile) (channels : ℤ) (config : Config) (predictor : ClippingPredictorConfig) → Every (Every PeakFits) (making_in profile channels config predictor).controller.predictor.rings
making_fits profile channels config predictor =
    let f = making_fresh profile channels config predictor in
    subst (λ (c : Controller). Every (Every PeakFits) c.predictor.rings) (sym f.is) (every_replicate (Every PeakFits) f.count [] tt)

-- ---- the code

typed : {c : InputVolumeController} {calls : List Call} {heard : List Answer} {e : InputVolumeController} → Run c calls heard e → Every Typed calls
typed none = tt
typed (next h r) = (h.typed, typed r)

in_code : (profile : Profile) (channels : ℤ) (config : Config) (predictor : ClippingPredictorConfig) (calls : List Call) (heard : List Answer) (c : InputVolumeController) → MadeAndHad profile channels config predictor calls heard c
    → Every Unmarked heard → HeardAsExact (making_in profile channels config predictor).controller calls heard c
in_code profile channels config predictor calls heard c h m =
    let new : Controller = (making_in profile channels config predictor).controller in
    let said : heard ≡ answers new calls = (had_run profile channels config predictor calls heard c h).answered ∙ ap (λ (x : Controller). answers x calls) h.created.view in
    let e = from new calls (making_fits profile channels config predictor) (typed h.run) (subst (Every Unmarked) said m) in
    record { heard_is = said ∙ e.answers_are; view_is = had_stands profile channels config predictor calls heard c h ∙ e.state_is }

-- THE CLAIM
pub unmarked_run_is_exact : UnmarkedRunIsExact
unmarked_run_is_exact = record {
  from = from;
  made = λ profile channels config predictor calls f m. from (making_in profile channels config predictor).controller calls (making_fits profile channels config predictor) f m;
  in_code = in_code;
}
