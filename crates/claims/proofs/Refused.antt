-- A refused call changes nothing, and its number is that of the first cause that holds. Assumes nothing.
use mathlib.Core.Path.{◌≡◌, refl, sym, ap, ◌∙◌}
use mathlib.Core.Bool.{Bool, true, false, not}
use mathlib.Core.List.{List}
use Prim.Native.Nat.{ℕ}
use native.Mathlib.Omega.{arith}
use lib.Dec.{ltb, eqb}
use lib.Ieee.{Float, lt}
use lib.ListN.{length}
use Rattle.std.specs.Prelude.{Err, None, Ok, Result, Some, Option}
use Rattle.numbers.specs.declared.refusal.Refusal.{Refusal}
use Rattle.numbers.specs.Refusal.{number_of}
use Rattle.clipping_predictor.specs.Predictor.{frame_fits, entered_if}
use Rattle.input_volume_controller.specs.ClippedRatio.{clipped_ratio_of}
use Rattle.input_volume_controller.specs.Controller.{Controller}
use Rattle.input_volume_controller.specs.Reply.{Reply, refusal, done}
use Rattle.input_volume_controller.specs.Volumes.{are_numbers, numbers_of, numbers_in}
use Rattle.input_volume_controller.specs.Limits.{is_within}
use Rattle.input_volume_controller.specs.Frame.{with_volumes_applied, tested_as, frame_outcome, unless_waiting, if_used, unless_refused, analyze_input_audio}
use Rattle.input_volume_controller.specs.Recommendation.{recommend_if, unless_none, recommend_input_volume}
use Rattle.input_volume_controller.specs.Calls.{Call, frame, recommendation, initialise, capture_switch, step}
use Rattle.claims.specs.Causes.{first_of, call_causes}
use Rattle.claims.specs.Refused.{refused_by, RefusedCalls}
use Rattle.claims.proofs.Causes.{frame_causes_by, frame_causes_lem}
use Rattle.claims.proofs.Making.{making_first, making_first_by_default, making_beside}

-- a reply that refuses with nothing is no refusal
never : (r : Reply) (number : ℕ) → refused_by r ≡ None → r ≡ refusal number → ⊥
never r number e f = let k : None ≡ Some number = sym e ∙ ap refused_by f in let z : ◌≡◌ {A = ℕ} 0 1 = cc in omega arith

-- ---- frames

waiting_accepts : (waits clipped : Bool) (c : Controller) → refused_by (unless_waiting waits clipped c).reply ≡ None
waiting_accepts true clipped c = refl
waiting_accepts false clipped c = refl

used_accepts : (used : Bool) (samples : ℕ) (lent : List Float) (c : Controller) → refused_by (if_used used samples lent c).reply ≡ None
used_accepts true samples lent c =
    waiting_accepts (ltb c.control.since c.control.settings.clipped_wait) (lt c.control.settings.clipped_ratio (clipped_ratio_of (length c.control.channels) samples lent))
    (record { control = c.control; predictor = entered_if true samples lent c.predictor })
used_accepts false samples lent c = refl

-- the number of an outcome
abbrev said_by : Result (Unit {0}) Refusal → Option ℕ
said_by (Err cause) = Some (number_of cause)
said_by (Ok tt) = None

-- the first test that fails says it
first_fails : (counted inside fits within : Bool) → said_by (tested_as counted inside fits within) ≡ first_of (frame_causes_by (not counted) (not inside) (not fits) (not within))
first_fails false inside fits within = refl
first_fails true false fits within = refl
first_fails true true false within = refl
first_fails true true true false = refl
first_fails true true true true = refl

frame_says : (o : Result (Unit {0}) Refusal) (volumes : List ℕ) (samples : ℕ) (lent : List Float) (c : Controller) → refused_by (unless_refused o volumes samples lent c).reply ≡ said_by o
frame_says (Err cause) volumes samples lent c = refl
frame_says (Ok tt) volumes samples lent c = used_accepts c.control.used samples lent (with_volumes_applied volumes c)

frame_same : (o : Result (Unit {0}) Refusal) (volumes : List ℕ) (samples : ℕ) (lent : List Float) (c : Controller) (number : ℕ) → (unless_refused o volumes samples lent c).reply ≡ refusal number
    → (unless_refused o volumes samples lent c).state ≡ c
frame_same (Err cause) volumes samples lent c number e = refl
frame_same (Ok tt) volumes samples lent c number e = absurd (never _ number (used_accepts c.control.used samples lent (with_volumes_applied volumes c)) e)

-- ---- recommendations are never refused

recommends : (used : Bool) (applied : ℕ) (probability : Float) (level : Option Float) (c : Controller) → refused_by (recommend_if used applied probability level c).reply ≡ None
recommends true applied probability level c = refl
recommends false applied probability level c = refl

answers_or_none : (a : Option ℕ) (probability : Float) (level : Option Float) (c : Controller) → refused_by (unless_none a probability level c).reply ≡ None
answers_or_none None probability level c = refl
answers_or_none (Some applied) probability level c = recommends c.control.used applied probability level c

-- ---- the two rules of a call

first_holds : (c : Controller) (call : Call) → refused_by (step c call).reply ≡ first_of (call_causes (length c.control.channels) call)
unfolding analyze_input_audio recommend_input_volume
first_holds c (frame most v samples lent) =
    let n = length c.control.channels in
    frame_says (frame_outcome most n v samples lent) (numbers_in (numbers_of v)) samples lent c
    ∙ first_fails (eqb (length v) n) (are_numbers (numbers_of v)) (frame_fits n samples lent) (is_within most n samples)
    ∙ ap first_of (sym (frame_causes_lem most n v samples lent))
first_holds c (recommendation probability level) = answers_or_none c.control.applied probability level c
first_holds c initialise = refl
first_holds c (capture_switch on) = refl

same_state : (c : Controller) (call : Call) (number : ℕ) → (step c call).reply ≡ refusal number → (step c call).state ≡ c
unfolding analyze_input_audio recommend_input_volume
same_state c (frame most v samples lent) number e = frame_same (frame_outcome most (length c.control.channels) v samples lent) (numbers_in (numbers_of v)) samples lent c number e
same_state c (recommendation probability level) number e = absurd (never _ number (answers_or_none c.control.applied probability level c) e)
same_state c initialise number e = absurd (never done number refl e)
same_state c (capture_switch on) number e = absurd (never done number refl e)

pub refused_calls : RefusedCalls
refused_calls = record { unchanged = same_state; first = first_holds; making = making_first; making_by_default = making_first_by_default; unmade = making_beside }
