-- The recommendation is none exactly if no frame was accepted since the latest of the making, an initialise and a recommendation with capture on. Assumes nothing.
use mathlib.Core.Path.{◌≡◌, refl, sym, ap, subst, ◌∙◌}
use mathlib.Core.Bool.{Bool, true, false, not, ◌&&◌, ◌||◌}
use mathlib.Core.Logic.{◌↔◌}
use mathlib.Core.List.{List, ◌∷◌, reverse}
use Prim.Native.Nat.{ℕ}
use native.Mathlib.Omega.{arith}
use lib.Ieee.{Float}
use lib.ListN.{length, length-replicate}
use Rattle.std.specs.Prelude.{Err, None, Ok, Option, Result, Some}
use Rattle.numbers.specs.declared.refusal.Refusal.{Refusal}
use Rattle.numbers.proofs.Truths.{and_false}
use Rattle.numbers.proofs.Signs.{clash}
use Rattle.clipping_predictor.specs.declared.settings.Settings as Predictor
use Rattle.mono_input_volume_controller.specs.declared.config.Settings.{Settings}
use Rattle.mono_input_volume_controller.specs.Mono.{created}
use Rattle.input_volume_controller.specs.Control.{Control}
use Rattle.input_volume_controller.specs.Plain.{is_pending}
use Rattle.input_volume_controller.specs.ControlCalls.{aggregated, with_applied_input_volumes, initialize, lower_channels}
use Rattle.input_volume_controller.specs.Controller.{Controller, fresh_with}
use Rattle.input_volume_controller.specs.Reply.{none}
use Rattle.input_volume_controller.specs.Volumes.{numbers_of, numbers_in}
use Rattle.input_volume_controller.specs.Frame.{with_volumes_applied, frame_outcome, unless_refused, analyze_input_audio}
use Rattle.input_volume_controller.specs.Recommendation.{recommend_if, unless_none, recommend_input_volume}
use Rattle.input_volume_controller.specs.Calls.{Call, frame, recommendation, initialise, capture_switch, step, after}
use Rattle.claims.specs.Past.{capture_on}
use Rattle.claims.specs.None.{frame_since, NoneExactly}
use Rattle.claims.proofs.Outcomes.{is_taken, accepted_is}
use Rattle.claims.proofs.Walk.{Hears, if_used_lem}
use Rattle.claims.proofs.Capture.{Open, open_next}
use Rattle.claims.proofs.Newest.{from_newest}

abbrev Pending : Bool → Control → Type 0
Pending waiting c = is_pending c.applied ≡ waiting

-- ---- a frame

waits_on : Hears (Pending true)
unfolding lower_channels aggregated
waits_on = record { lowers = λ by c h. h; counts = λ c h. h }

applied_waits : (v : List ℕ) (c : Control) → Pending true (with_applied_input_volumes v c)
unfolding with_applied_input_volumes aggregated
applied_waits v c = refl

frame_waits : (o : Result (Unit {0}) Refusal) (volumes : List ℕ) (waiting : Bool) (samples : ℕ) (lent : List Float) (c : Controller) → Pending waiting c.control
    → Pending (is_taken o || waiting) (unless_refused o volumes samples lent c).state.control
frame_waits (Err cause) volumes waiting samples lent c h = h
frame_waits (Ok tt) volumes waiting samples lent c h = if_used_lem (Pending true) waits_on c.control.used samples lent (with_volumes_applied volumes c) (applied_waits volumes c.control)

-- ---- a recommendation

recommends : (used waiting : Bool) (applied : ℕ) (probability : Float) (level : Option Float) (c : Controller) → Pending waiting c.control
    → Pending (not used && waiting) (recommend_if used applied probability level c).state.control
unfolding aggregated
recommends true waiting applied probability level c h = refl
recommends false waiting applied probability level c h = h

recommendation_waits : (a : Option ℕ) (waiting : Bool) (probability : Float) (level : Option Float) (c : Controller) → c.control.applied ≡ a → Pending waiting c.control
    → Pending (not c.control.used && waiting) (unless_none a probability level c).state.control
recommendation_waits None waiting probability level c e h =
    let idle : waiting ≡ false = sym h ∙ ap is_pending e in
    ap is_pending e ∙ sym (ap (λ (w : Bool). not c.control.used && w) idle ∙ and_false (not c.control.used))
recommendation_waits (Some v) waiting probability level c e h = recommends c.control.used waiting v probability level c h

-- ---- every call

-- a volume is pending exactly if a frame was accepted since
record Told (count : ℕ) (past : List Call) (c : Controller) : Type 0 where
  capture : Open (capture_on true past) count c.control
  pending : Pending (frame_since count past) c.control

waits_next : (count : ℕ) (call : Call) (past : List Call) (c : Controller) → Told count past c → Pending (frame_since count (call ∷ past)) (step c call).state.control
unfolding frame_since analyze_input_audio recommend_input_volume initialize aggregated
waits_next count (frame most v samples lent) past c h =
    subst (λ (accepted : Bool). Pending (accepted || frame_since count past) (step c (frame most v samples lent)).state.control) (accepted_is most v samples lent h.capture.channels)
    (frame_waits (frame_outcome most (length c.control.channels) v samples lent) (numbers_in (numbers_of v)) (frame_since count past) samples lent c h.pending)
waits_next count (recommendation probability level) past c h =
    subst (λ (t : Bool). Pending (not t && frame_since count past) (step c (recommendation probability level)).state.control) h.capture.used
    (recommendation_waits c.control.applied (frame_since count past) probability level c refl h.pending)
waits_next count initialise past c h = refl
waits_next count (capture_switch on) past c h = h.pending

told_next : (count : ℕ) (call : Call) (past : List Call) (c : Controller) → Told count past c → Told count (call ∷ past) (step c call).state
told_next count call past c h = record { capture = open_next count true call past c h.capture; pending = waits_next count call past c h }

-- ---- the reply

a_volume : (used : Bool) (applied : ℕ) (probability : Float) (level : Option Float) (c : Controller) → (recommend_if used applied probability level c).reply ≡ none → ⊥
a_volume true applied probability level c e = let z : ◌≡◌ {A = ℕ} 0 1 = cc in omega arith
a_volume false applied probability level c e = let z : ◌≡◌ {A = ℕ} 0 1 = cc in omega arith

none_if : (a : Option ℕ) (probability : Float) (level : Option Float) (c : Controller) → ((unless_none a probability level c).reply ≡ none) ↔ (is_pending a ≡ false)
none_if None probability level c = (λ e. refl, λ e. refl)
none_if (Some v) probability level c = (λ e. absurd (a_volume c.control.used v probability level c e), λ e. clash e)

told_after : (predictor : Predictor.Settings) (s : Settings) (count : ℕ) (calls : List Call) → Told count (reverse calls) (after (fresh_with predictor s count) calls)
unfolding capture_on frame_since
told_after predictor s count calls =
    from_newest (Told count) (told_next count) calls (fresh_with predictor s count) (record { capture = record { used = refl; channels = length-replicate count (created s) }; pending = refl })

pub none_exactly : NoneExactly
unfolding recommend_input_volume
none_exactly predictor s count calls probability level =
    let c = after (fresh_with predictor s count) calls in
    let told = (told_after predictor s count calls).pending in
    let n = none_if c.control.applied probability level c in
    (λ e. sym told ∙ n.0 e, λ e. n.1 (told ∙ e))
