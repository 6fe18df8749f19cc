-- After delay + reference frames that were accepted with capture on, every ring stores records of those frames alone, from whatever state. Assumes nothing.
use mathlib.Core.Path.{◌≡◌, refl, sym, subst}
use mathlib.Core.Bool.{Bool, true, false, ◌&&◌, ◌||◌}
use mathlib.Core.List.{List, ◌∷◌, reverse}
use Prim.Native.Nat.{ℕ, max}
use lib.Dec.{ltb}
use lib.Ieee.{Float, lt}
use lib.ListN.{length}
use Rattle.std.specs.Prelude.{Err, None, Ok, Option, Result, Some}
use Rattle.numbers.specs.declared.refusal.Refusal.{Refusal}
use Rattle.clipping_predictor.specs.Predictor.{Predictor, entered_if}
use Rattle.input_volume_controller.specs.ClippedRatio.{clipped_ratio_of}
use Rattle.input_volume_controller.specs.Controller.{Controller}
use Rattle.clipping_predictor.specs.AllRings.{predicted_by}
use Rattle.input_volume_controller.specs.Volumes.{numbers_of, numbers_in}
use Rattle.input_volume_controller.specs.Frame.{asked_of, handle_if, with_volumes_applied, frame_outcome, unless_waiting, if_used, unless_refused, analyze_input_audio}
use Rattle.input_volume_controller.specs.Recommendation.{recommend_if, unless_none, recommend_input_volume}
use Rattle.input_volume_controller.specs.Calls.{Call, frame, recommendation, initialise, capture_switch, step, after}
use Rattle.claims.specs.Past.{capture_on}
use Rattle.claims.specs.Broken.{Frame, with_if, accepted_frames, BrokenLeaves}
use Rattle.claims.proofs.Outcomes.{is_taken, accepted_is}
use Rattle.claims.proofs.Capture.{Open, open_next}
use Rattle.claims.proofs.Newest.{from_newest}
use Rattle.claims.proofs.Stored.{Stored, stored_first, stored_emptied, stored_entered, stored_alone}

-- ---- a frame

module _ (start : Predictor) (frames : List Frame) where
  handle_if_lem : (t : Bool) (by : ℕ) (c : Controller) → Stored start frames c.predictor → Stored start frames (handle_if t by c).predictor
  handle_if_lem true by c h = stored_emptied start frames c.predictor h
  handle_if_lem false by c h = h

  unless_waiting_lem : (waits clipped : Bool) (c : Controller) → Stored start frames c.predictor → Stored start frames (unless_waiting waits clipped c).state.predictor
  unless_waiting_lem true clipped c h = h
  unless_waiting_lem false clipped c h =
      let e = predicted_by (asked_of c.control) c.predictor in
      handle_if_lem (clipped || ltb 0 e.drop) (max c.control.settings.step e.drop) c h

module _ (start : Predictor) (frames : List Frame) (samples : ℕ) (lent : List Float) where
  if_used_lem : (used : Bool) (c : Controller) → Stored start frames c.predictor → Stored start (with_if used (record { samples = samples; lent = lent }) frames) (if_used used samples lent c).state.predictor
  if_used_lem true c h =
      unless_waiting_lem start (record { samples = samples; lent = lent } ∷ frames) (ltb c.control.since c.control.settings.clipped_wait)
      (lt c.control.settings.clipped_ratio (clipped_ratio_of (length c.control.channels) samples lent))
      (record { control = c.control; predictor = entered_if true samples lent c.predictor }) (stored_entered start frames c.predictor samples lent h)
  if_used_lem false c h = h

  unless_refused_lem : (o : Result (Unit {0}) Refusal) (volumes : List ℕ) (c : Controller) → Stored start frames c.predictor
      → Stored start (with_if (is_taken o && c.control.used) (record { samples = samples; lent = lent }) frames) (unless_refused o volumes samples lent c).state.predictor
  unless_refused_lem (Err cause) volumes c h = h
  unless_refused_lem (Ok tt) volumes c h = if_used_lem c.control.used (with_volumes_applied volumes c) h

-- ---- a recommendation leaves the rings alone

recommends : (used : Bool) (applied : ℕ) (probability : Float) (level : Option Float) (c : Controller) → (recommend_if used applied probability level c).state.predictor ≡ c.predictor
recommends true applied probability level c = refl
recommends false applied probability level c = refl

recommendation_same : (a : Option ℕ) (probability : Float) (level : Option Float) (c : Controller) → (unless_none a probability level c).state.predictor ≡ c.predictor
recommendation_same None probability level c = refl
recommendation_same (Some v) probability level c = recommends c.control.used v probability level c

-- ---- every call

-- what the calls since the controller `start` say of its capture and its rings
record Since (start : Controller) (past : List Call) (c : Controller) : Type 0 where
  capture : Open (capture_on start.control.used past) (length start.control.channels) c.control
  stored : Stored start.predictor (accepted_frames (length start.control.channels) start.control.used past) c.predictor

module _ (start : Controller) where
  stored_next : (call : Call) (past : List Call) (c : Controller) → Since start past c → Stored start.predictor (accepted_frames (length start.control.channels) start.control.used (call ∷ past)) (step c call).state.predictor
  unfolding accepted_frames analyze_input_audio recommend_input_volume
  stored_next (frame most v samples lent) past c h =
      let frames = accepted_frames (length start.control.channels) start.control.used past in
      subst (λ (t : Bool). Stored start.predictor (with_if t (record { samples = samples; lent = lent }) frames) (step c (frame most v samples lent)).state.predictor)
      (λ i. accepted_is most v samples lent h.capture.channels i && h.capture.used i)
      (unless_refused_lem start.predictor frames samples lent (frame_outcome most (length c.control.channels) v samples lent) (numbers_in (numbers_of v)) c h.stored)
  stored_next (recommendation probability level) past c h = subst (Stored start.predictor _) (sym (recommendation_same c.control.applied probability level c)) h.stored
  stored_next initialise past c h = h.stored
  stored_next (capture_switch on) past c h = h.stored

  since_next : (call : Call) (past : List Call) (c : Controller) → Since start past c → Since start (call ∷ past) (step c call).state
  since_next call past c h = record { capture = open_next (length start.control.channels) start.control.used call past c h.capture; stored = stored_next call past c h }

  since_after : (calls : List Call) → Since start (reverse calls) (after start calls)
  unfolding capture_on accepted_frames
  since_after calls = from_newest (Since start) since_next calls start (record { capture = record { used = refl; channels = refl }; stored = stored_first start.predictor })

pub broken_leaves : BrokenLeaves
broken_leaves c calls one all channel k = stored_alone c.predictor _ (after c calls).predictor one all (since_after c calls).stored channel k
