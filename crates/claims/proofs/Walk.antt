-- What the parts of every call keep of the controller, any calls keep. Assumes nothing.
use mathlib.Core.Path.{◌≡◌, refl, ◌∙◌}
use mathlib.Core.Bool.{Bool, true, false, ◌||◌}
use mathlib.Core.List.{List, [], ◌∷◌}
use Prim.Native.Nat.{ℕ, max}
use lib.Dec.{T, ltb}
use lib.IntN.{ℤ}
use lib.Ieee.{Float, lt}
use lib.ListN.{length}
use Rattle.std.specs.Prelude.{Err, None, Ok, Option, Result, Some}
use Rattle.numbers.specs.declared.refusal.Refusal.{Refusal}
use Rattle.clipping_predictor.specs.Predictor.{entered_if}
use Rattle.input_volume_controller.specs.ClippedRatio.{clipped_ratio_of}
use Rattle.input_volume_controller.specs.Control.{Control, with_applied}
use Rattle.input_volume_controller.specs.ControlCalls.{aggregated, with_applied_input_volumes, initialize, switch_capture, lower_channels, one_frame_more, process_channels}
use Rattle.input_volume_controller.specs.Controller.{Controller}
use Rattle.clipping_predictor.specs.AllRings.{predicted_by}
use Rattle.input_volume_controller.specs.declared.limits.Limits.{Limits}
use Rattle.input_volume_controller.specs.Volumes.{number_set, numbers_of, numbers_in}
use Rattle.input_volume_controller.specs.Frame.{asked_of, handle_if, with_volumes_applied, frame_outcome, unless_waiting, if_used, unless_refused, analyze_input_audio}
use Rattle.input_volume_controller.specs.Recommendation.{recommend_if, unless_none, recommend_input_volume}
use Rattle.input_volume_controller.specs.Calls.{Call, frame, recommendation, initialise, capture_switch, step, after}
use Rattle.input_volume_controller.proofs.SetNumbers.{AllMost, told_set, length_told}
use Rattle.claims.specs.Past.{is_accepted}
use Rattle.claims.proofs.Outcomes.{told_accepted, accepted_as, set_of}

-- the parts of the calls, each with what it does to the controller without its predictor: what may follow in a frame once its volume is set; the parts of frames and recommendations; all parts
pub record Hears (P : Control → Type 0) : Type 0 where
  pub lowers : (by : ℕ) (c : Control) → P c → P (lower_channels by c)
  pub counts : (c : Control) → P c → P (one_frame_more c)

-- of the sets that are accepted it may be known that `Takes` holds
pub record Runs (Takes : List ℕ → Type 0) (P : Control → Type 0) : Type 0 where
  pub hears : Hears P
  pub applies : (volumes : List ℕ) (c : Control) → length volumes ≡ length c.channels → AllMost volumes → Takes volumes → P c → P (with_applied_input_volumes volumes c)
  pub processes : (probability : Float) (level : Option Float) (c : Control) → P c → P (with_applied None (process_channels probability level c))
  pub repeats : (c : Control) → P c → P (aggregated c)

pub record Keeps (Takes : List ℕ → Type 0) (P : Control → Type 0) : Type 0 where
  pub runs : Runs Takes P
  pub initialises : (c : Control) → P c → P (initialize c)
  pub switches : (on : Bool) (c : Control) → P c → P (switch_capture on c)

module _ (P : Control → Type 0) (k : Hears P) where
  handle_if_lem : (t : Bool) (by : ℕ) (c : Controller) → P c.control → P (handle_if t by c).control
  handle_if_lem true by c h = k.lowers by c.control h
  handle_if_lem false by c h = h

  unless_waiting_lem : (waits clipped : Bool) (c : Controller) → P c.control → P (unless_waiting waits clipped c).state.control
  unless_waiting_lem true clipped c h = k.counts c.control h
  unless_waiting_lem false clipped c h =
      let e = predicted_by (asked_of c.control) c.predictor in
      handle_if_lem (clipped || ltb 0 e.drop) (max c.control.settings.step e.drop) c h

  pub if_used_lem : (used : Bool) (samples : ℕ) (lent : List Float) (c : Controller) → P c.control → P (if_used used samples lent c).state.control
  if_used_lem true samples lent c h =
      unless_waiting_lem (ltb c.control.since c.control.settings.clipped_wait) (lt c.control.settings.clipped_ratio (clipped_ratio_of (length c.control.channels) samples lent))
      (record { control = c.control; predictor = entered_if true samples lent c.predictor }) h
  if_used_lem false samples lent c h = h

-- what is known of the set of a frame, if it is accepted
abbrev pub Given : (List ℕ → Type 0) → Limits → List ℤ → ℕ → List Float → Controller → Type 0
Given Takes most volumes samples lent c = (numbers : List ℕ) → numbers_of volumes ≡ number_set numbers → T (is_accepted most (length c.control.channels) volumes samples lent) → Takes numbers

-- any set
abbrev pub Any : List ℕ → Type 0
Any numbers = Unit {0}

pub any_given : (most : Limits) (volumes : List ℤ) (samples : ℕ) (lent : List Float) (c : Controller) → Given Any most volumes samples lent c
any_given most volumes samples lent c = λ numbers e t. tt

module _ (Takes : List ℕ → Type 0) (P : Control → Type 0) (k : Runs Takes P) where
  unless_refused_lem : (o : Result (Unit {0}) Refusal) (most : Limits) (volumes : List ℤ) (samples : ℕ) (lent : List Float) (c : Controller) → frame_outcome most (length c.control.channels) volumes samples lent ≡ o
      → Given Takes most volumes samples lent c → P c.control → P (unless_refused o (numbers_in (numbers_of volumes)) samples lent c).state.control
  unless_refused_lem (Err cause) most volumes samples lent c e g h = h
  unless_refused_lem (Ok tt) most volumes samples lent c e g h =
      let n = length c.control.channels in
      let numbers = numbers_in (numbers_of volumes) in
      let t : T (is_accepted most n volumes samples lent) = told_accepted most volumes samples lent n e in
      let a = accepted_as most volumes samples lent n t in
      let set : numbers_of volumes ≡ number_set numbers = set_of a in
      if_used_lem P k.hears c.control.used samples lent (with_volumes_applied numbers c)
      (k.applies numbers c.control (length_told volumes numbers set ∙ a.count) (told_set volumes numbers set).most (g numbers set t) h)

  recommend_if_lem : (used : Bool) (applied : ℕ) (probability : Float) (level : Option Float) (c : Controller) → P c.control → P (recommend_if used applied probability level c).state.control
  recommend_if_lem true applied probability level c h = k.processes probability level c.control h
  recommend_if_lem false applied probability level c h = k.repeats c.control h

  unless_none_lem : (a : Option ℕ) (probability : Float) (level : Option Float) (c : Controller) → P c.control → P (unless_none a probability level c).state.control
  unless_none_lem None probability level c h = h
  unless_none_lem (Some applied) probability level c h = recommend_if_lem c.control.used applied probability level c h

  pub frame_keeps : (most : Limits) (volumes : List ℤ) (samples : ℕ) (lent : List Float) (c : Controller) → Given Takes most volumes samples lent c → P c.control
      → P (analyze_input_audio most volumes samples lent c).state.control
  unfolding analyze_input_audio
  frame_keeps most volumes samples lent c g h = unless_refused_lem (frame_outcome most (length c.control.channels) volumes samples lent) most volumes samples lent c refl g h

  pub recommendation_keeps : (probability : Float) (level : Option Float) (c : Controller) → P c.control → P (recommend_input_volume probability level c).state.control
  unfolding recommend_input_volume
  recommendation_keeps probability level c h = unless_none_lem c.control.applied probability level c h

abbrev pub GivenBy : (List ℕ → Type 0) → Call → Controller → Type 0
GivenBy Takes (frame most volumes samples lent) c = Given Takes most volumes samples lent c
GivenBy Takes (recommendation probability level) c = Unit {0}
GivenBy Takes initialise c = Unit {0}
GivenBy Takes (capture_switch on) c = Unit {0}

module _ (Takes : List ℕ → Type 0) (P : Control → Type 0) (k : Keeps Takes P) where
  pub step_keeps : (call : Call) (c : Controller) → GivenBy Takes call c → P c.control → P (step c call).state.control
  step_keeps (frame most volumes samples lent) c g h = frame_keeps Takes P k.runs most volumes samples lent c g h
  step_keeps (recommendation probability level) c g h = recommendation_keeps Takes P k.runs probability level c h
  step_keeps initialise c g h = k.initialises c.control h
  step_keeps (capture_switch on) c g h = k.switches on c.control h

pub any_by : (call : Call) (c : Controller) → GivenBy Any call c
any_by (frame most volumes samples lent) c = any_given most volumes samples lent c
any_by (recommendation probability level) c = tt
any_by initialise c = tt
any_by (capture_switch on) c = tt

-- with any sets
module _ (P : Control → Type 0) (k : Keeps Any P) where
  pub after_keeps : (calls : List Call) (c : Controller) → P c.control → P (after c calls).control
  unfolding after
  after_keeps [] c h = h
  after_keeps (call ∷ calls) c h = after_keeps calls (step c call).state (step_keeps Any P k call c (any_by call c) h)
