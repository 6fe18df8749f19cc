-- Document 01: the four calls on a controller, one step, and a run over a list of calls. Definitions only.
use Rattle.std.specs.Prelude.{◌≡◌, Bool, List, [], ◌∷◌, ℕ, T, eqb, ℤ, Float, length, get_or, Result, Ok, Err, Option}
use Rattle.std.specs.Float.{nan, binary32}
use Rattle.std.specs.Float.Ieee.{fits}
use Rattle.numbers.specs.declared.refusal.Refusal.{Refusal}
use Rattle.clipping_predictor_level_buffer.specs.declared.level.Level.{Level}
use Rattle.clipping_predictor.specs.Predictor.{Predictor, frame_fits}
use Rattle.input_volume_controller.specs.declared.limits.Limits.{Limits}
use Rattle.input_volume_controller.specs.declared.volume_set.VolumeSet.{VolumeSet}
use Rattle.input_volume_controller.specs.declared.Analyzed.{Analyzed}
use Rattle.input_volume_controller.specs.declared.volume_control.VolumeControl.{VolumeControl}
use Rattle.input_volume_controller.specs.declared.InputVolumeController.{InputVolumeController}
use Rattle.input_volume_controller.specs.Volumes.{equal_volumes}
use Rattle.input_volume_controller.specs.VolumeSet.{levels_of, bytes_in, is_inside}
use Rattle.input_volume_controller.specs.Limits.{is_within}
use Rattle.input_volume_controller.specs.Control.{control_of}
use Rattle.input_volume_controller.specs.Control as ControlOf
use Rattle.input_volume_controller.specs.ControlCalls.{initialize, switch_capture}
use Rattle.input_volume_controller.specs.Controller.{Controller, view_of, Good}
use Rattle.input_volume_controller.specs.Reply.{Reply, done, analysis_says, Stepped}
use Rattle.input_volume_controller.specs.Frame.{tested_as, unless_refused, analyze_input_audio}
use Rattle.input_volume_controller.specs.Recommendation.{recommend_input_volume}

pub data Call : Type 0 where
  -- the limits of the entry, the volumes of all channels, the samples per channel, and the lent samples: `analyze_input_audio` and `analyze_input_audio_each`, plain and the spotter's
  frame : Limits → List ℤ → ℕ → List Float → Call
  -- the speech probability and level: `recommend_input_volume`
  recommendation : Float → Option Float → Call
  -- `initialize`
  initialise : Call
  -- `handle_capture_output_used_change`
  capture_switch : Bool → Call

abbrev pub step : Controller → Call → Stepped
step c (frame most volumes samples lent) = analyze_input_audio most volumes samples lent c
step c (recommendation probability level) = recommend_input_volume probability level c
step c initialise = record { reply = done; state = record { control = initialize c.control; predictor = c.predictor } }
step c (capture_switch on) = record { reply = done; state = record { control = switch_capture on c.control; predictor = c.predictor } }

-- "In a list each call gets the state the last one handed back"
unfoldable pub after : Controller → List Call → Controller
after c [] = c
after c (call ∷ calls) = after (step c call).state calls

-- "An answer in demand 3 is a frame's mark or refusal number, a recommendation's volume or none, and after every call the controller's volume and each ring's stored records in order"
pub record Answer : Type 0 where
  pub reply : Reply
  pub volume : ℕ
  pub stored : List (List Level)

abbrev pub answer_of : Stepped → Answer
answer_of s = record { reply = s.reply; volume = s.state.control.volume; stored = s.state.predictor.rings }

unfoldable pub answers : Controller → List Call → List Answer
answers c [] = []
answers c (call ∷ calls) = answer_of (step c call) ∷ answers (step c call).state calls

-- ---- what the contracts of the calls say

-- what the language's types say of a call's inputs, and a claim may need: lent samples are 32-bit floats
abbrev pub Typed : Call → Type 0
Typed (frame most volumes samples lent) = (i : ℕ) → T (fits binary32 (get_or lent i nan))
Typed (recommendation probability level) = Unit {0}
Typed initialise = Unit {0}
Typed (capture_switch on) = Unit {0}

-- r is what the call hands back, and it says what the definition says. Left free are the channels and the rings past the count, and of each ring its tail and its unused places. They are there:
-- `good` has 8 channels, 8 rings, and 64 places in each. No answer of any later call depends on them: the claim `FreeIsUnheard` (claims, specs/Free.antt).
pub record Does (self : InputVolumeController) (call : Call) (says : Reply) (r : InputVolumeController) : Type 0 where
  pub good : Good r
  pub typed : Typed call
  pub reply : says ≡ (step (view_of self) call).reply
  pub view : view_of r ≡ (step (view_of self) call).state

-- a call that leaves the predictor alone, made of the control alone: r is what it hands back, whatever predictor stands beside it
pub record ControlDoes (self : VolumeControl) (call : Call) (says : Reply) (r : VolumeControl) : Type 0 where
  pub good : ControlOf.Good r
  pub count : r.channels.count ≡ self.channels.count
  pub does : (p : Predictor) → step (record { control = control_of self; predictor = p }) call ≡ record { reply = says; state = record { control = control_of r; predictor = p } }

-- what the private functions say of an accepted frame
pub record Framed (s : Stepped) (r : Analyzed) : Type 0 where
  pub good : Good r.controller
  pub reply : analysis_says r.answer ≡ s.reply
  pub view : view_of r.controller ≡ s.state
  pub accepted : (cause : Refusal) → r.answer ≡ Err cause → ⊥

-- a frame whose volumes are taken apart: its tests, and what it does
abbrev pub set_outcome : Limits → ℕ → VolumeSet → ℕ → List Float → Result (Unit {0}) Refusal
set_outcome most channels set samples lent = tested_as (eqb set.count channels) (is_inside set.levels) (frame_fits channels samples lent) (is_within most channels samples)

-- its volumes as bytes, or why it is refused
abbrev pub bytes_if : Result (Unit {0}) Refusal → List ℕ → Result (List ℕ) Refusal
bytes_if (Ok tt) levels = Ok levels
bytes_if (Err cause) levels = Err cause

-- the volumes that a frame applies: those of its set, where no cause refuses the frame
abbrev pub accepted_volumes : Limits → ℕ → VolumeSet → ℕ → List Float → Result (List ℕ) Refusal
accepted_volumes most channels set samples lent = bytes_if (set_outcome most channels set samples lent) (bytes_in set.levels)

abbrev pub analyze_set : Limits → VolumeSet → ℕ → List Float → Controller → Stepped
analyze_set most set samples lent c =
    let channels = length c.control.channels in
    unless_refused (set_outcome most channels set samples lent) (levels_of (bytes_in set.levels) channels) samples lent c

pub record AnalyzedSetOf (most : Limits) (self : InputVolumeController) (set : VolumeSet) (samples : ℕ) (lent : List Float) (r : Analyzed) : Type 0 where
  pub good : Good r.controller
  pub typed : (i : ℕ) → T (fits binary32 (get_or lent i nan))
  pub reply : analysis_says r.answer ≡ (analyze_set most set samples lent (view_of self)).reply
  pub view : view_of r.controller ≡ (analyze_set most set samples lent (view_of self)).state
  pub same : (cause : Refusal) → r.answer ≡ Err cause → r.controller ≡ self

-- a frame through an entry with these limits; a refused one hands the very controller back
pub record AnalyzedEachOf (most : Limits) (self : InputVolumeController) (volumes : List ℤ) (samples : ℕ) (lent : List Float) (r : Analyzed) : Type 0 where
  pub does : Does self (frame most volumes samples lent) (analysis_says r.answer) r.controller
  pub same : (cause : Refusal) → r.answer ≡ Err cause → r.controller ≡ self

-- with one volume for all channels. That it is what document 01 says of such a frame is the claim `OneVolume` (claims, specs/OneVolume.antt).
abbrev pub AnalyzedOf : Limits → InputVolumeController → ℤ → ℕ → List Float → Analyzed → Type 0
AnalyzedOf most self volume samples lent r = AnalyzedEachOf most self (equal_volumes volume self.control.channels.count) samples lent r
