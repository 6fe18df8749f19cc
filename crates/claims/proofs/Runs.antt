-- Runs: lists one after the other; refused frames change nothing; accepted frames and recommendations by what they lead to. Assumes nothing.
use mathlib.Core.Path.{◌≡◌, refl, sym, ap, ◌∙◌, subst}
use mathlib.Core.List.{List, [], ◌∷◌, ◌++◌, map}
use mathlib.Core.Bool.{Bool, true, not}
use Prim.Native.Nat.{ℕ}
use lib.Dec.{T}
use lib.IntN.{ℤ, pos, nat_abs}
use lib.Ieee.{Float}
use lib.ListN.{length}
use Rattle.std.specs.Prelude.{Err, Ok, Option, Result, Some}
use Rattle.numbers.specs.declared.refusal.Refusal.{Refusal}
use Rattle.input_volume_controller.specs.Controller.{Controller}
use Rattle.input_volume_controller.specs.declared.limits.Limits.{Limits}
use Rattle.input_volume_controller.specs.Volumes.{numbers_of, numbers_in}
use Rattle.input_volume_controller.specs.Frame.{frame_outcome, unless_refused, analyze_input_audio}
use Rattle.input_volume_controller.specs.Recommendation.{recommend_if, unless_none, recommend_input_volume}
use Rattle.input_volume_controller.specs.Calls.{Call, frame, recommendation, initialise, capture_switch, step, after}
use Rattle.claims.specs.Past.{is_accepted}
use Rattle.claims.specs.LeadIn.{all, is_refused}
use Rattle.claims.proofs.Lists.{and_l, and_r}
use Rattle.claims.proofs.Outcomes.{is_taken, accepted_is, outcome_is, accepted_as}
use Rattle.input_volume_controller.proofs.SetNumbers.{numbers_back}

pub after_append : (a b : List Call) (c : Controller) → after c (a ++ b) ≡ after (after c a) b
unfolding after
after_append [] b c = refl
after_append (call ∷ calls) b c = after_append calls b (step c call).state

-- refused frames change nothing
refused_same : (o : Result (Unit {0}) Refusal) (volumes : List ℕ) (samples : ℕ) (lent : List Float) (c : Controller) → T (not (is_taken o)) → (unless_refused o volumes samples lent c).state ≡ c
refused_same (Err cause) volumes samples lent c t = refl
refused_same (Ok tt) volumes samples lent c t = absurd t

pub step_refused : (n : ℕ) (call : Call) (c : Controller) → length c.control.channels ≡ n → T (is_refused n call) → (step c call).state ≡ c
unfolding is_refused analyze_input_audio
step_refused n (frame most volumes samples lent) c e t =
    refused_same (frame_outcome most (length c.control.channels) volumes samples lent) (numbers_in (numbers_of volumes)) samples lent c
    (subst (λ (accepted : Bool). T (not accepted)) (sym (accepted_is most volumes samples lent e)) t)
step_refused n (recommendation probability level) c e t = absurd t
step_refused n initialise c e t = absurd t
step_refused n (capture_switch on) c e t = absurd t

pub after_refused : (n : ℕ) (calls : List Call) (c : Controller) → length c.control.channels ≡ n → T (all (is_refused n) calls) → after c calls ≡ c
unfolding after all
after_refused n [] c e t = refl
after_refused n (call ∷ calls) c e t =
    ap (λ (x : Controller). after x calls) (step_refused n call c e (and_l (is_refused n call) _ t)) ∙ after_refused n calls c e (and_r (is_refused n call) _ t)

pub skip : (n : ℕ) (calls rest : List Call) (c : Controller) → length c.control.channels ≡ n → T (all (is_refused n) calls) → after c (calls ++ rest) ≡ after c rest
skip n calls rest c e t = after_append calls rest c ∙ ap (λ (x : Controller). after x rest) (after_refused n calls c e t)

-- ---- accepted frames and recommendations

pub step_accepted : (n : ℕ) (most : Limits) (volumes : List ℤ) (samples : ℕ) (lent : List Float) (c : Controller) → length c.control.channels ≡ n → T (is_accepted most n volumes samples lent)
    → step c (frame most volumes samples lent) ≡ unless_refused (Ok tt) (map nat_abs volumes) samples lent c
unfolding analyze_input_audio
step_accepted n most volumes samples lent c e t =
    let a = accepted_as most volumes samples lent n t in
    λ i. unless_refused (outcome_is most volumes samples lent e t i) (numbers_in (a.numbers i)) samples lent c

-- the same of volumes that were numbers
pub step_numbers : (n : ℕ) (most : Limits) (numbers : List ℕ) (samples : ℕ) (lent : List Float) (c : Controller) → length c.control.channels ≡ n → T (is_accepted most n (map pos numbers) samples lent)
    → step c (frame most (map pos numbers) samples lent) ≡ unless_refused (Ok tt) numbers samples lent c
step_numbers n most numbers samples lent c e t =
    step_accepted n most (map pos numbers) samples lent c e t ∙ ap (λ (ns : List ℕ). unless_refused (Ok tt) ns samples lent c) (numbers_back numbers)

pub step_recommended : (probability : Float) (level : Option Float) (v : ℕ) (c : Controller) → c.control.applied ≡ Some v → c.control.used ≡ true
    → (step c (recommendation probability level)).state ≡ (recommend_if true v probability level c).state
unfolding recommend_input_volume
step_recommended probability level v c e u =
    ap (λ (x : Option ℕ). (unless_none x probability level c).state) e ∙ ap (λ (x : Bool). (recommend_if x v probability level c).state) u
