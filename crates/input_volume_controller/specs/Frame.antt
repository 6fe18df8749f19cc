-- Document 01, "All channels", and document 02 (xiv) and (viii): a frame with a volume for each channel, through an entry with limits, by the source's `analyze_input_audio`; causes 20, 8, 9 and 18.
-- Definitions only.
use Rattle.std.specs.Prelude.{Bool, true, false, ◌||◌, List, ℕ, max, ltb, eqb, ℤ, Float, length, Err, None, Ok, Option, Result, Some}
use Rattle.std.specs.Float.Ieee.{lt}
use Rattle.numbers.specs.declared.refusal.Refusal.{Refusal}
use Rattle.numbers.specs.declared.refusal.Refusal.TheVariants.{InputVolume, FrameSize, FrameLimits, VolumeCount}
use Rattle.numbers.specs.Refusal.{number_of}
use Rattle.clipping_predictor.specs.declared.modes.Asked.{Asked}
use Rattle.clipping_predictor.specs.declared.modes.Estimated.{Estimated}
use Rattle.clipping_predictor.specs.Predictor.{Predictor, frame_fits, entered_if, emptied}
use Rattle.clipping_predictor.specs.AllRings.{predicted_by}
use Rattle.input_volume_controller.specs.ClippedRatio.{clipped_ratio_of}
use Rattle.mono_input_volume_controller.specs.MonoState.{max_input_volume}
use Rattle.input_volume_controller.specs.declared.limits.Limits.{Limits}
use Rattle.input_volume_controller.specs.Volumes.{numbers_of, are_numbers, numbers_in}
use Rattle.input_volume_controller.specs.Limits.{is_within}
use Rattle.input_volume_controller.specs.Control.{Control}
use Rattle.input_volume_controller.specs.ControlCalls.{with_applied_input_volumes, lower_channels, one_frame_more}
use Rattle.input_volume_controller.specs.Controller.{Controller}
use Rattle.input_volume_controller.specs.Differ.{differ}
use Rattle.input_volume_controller.specs.Reply.{mark, refusal, Stepped}

-- "each channel's estimate is asked with the controller's volume as level, clipped_level_step as default step, clipped_level_min as min and 255 as max"
abbrev pub asked_of : Control → Asked
asked_of c = record { level = c.volume; step = c.settings.step; least = c.settings.floor; most = max_input_volume }

-- what the rings are asked: within the wait nothing
abbrev pub question_if : Bool → Asked → Option Asked
question_if true a = None
question_if false a = Some a

abbrev pub question_of : Control → Option Asked
question_of c = question_if (ltb c.since c.settings.clipped_wait) (asked_of c)

-- "ratio above threshold or a prediction lowers every channel, empties the rings and restarts the wait. The step is clipped_level_step, or the largest predicted step if larger."
abbrev pub handle_if : Bool → ℕ → Controller → Controller
handle_if true step c = record { control = lower_channels step c.control; predictor = emptied c.predictor }
handle_if false step c = c

-- what a joined drop returns, 0 for none
abbrev pub returned_by : Bool → ℕ → Controller → Controller
returned_by clipped drop c = handle_if (clipped || ltb 0 drop) (max c.control.settings.step drop) c

-- Document 02 (iii): "a frame is marked exactly if putting a near comparison or ceiling on its other side .. would change the frame's returned state". As the code has it: if the least and the largest
-- drop that such turns can lead to return different states, since between two drops that return the same state every drop does. That it comes to the words is the claim `MarkedExactly`.
abbrev pub handled : Bool → Estimated → Controller → Stepped
handled clipped e c = record { reply = mark (differ clipped c.control e.low e.high); state = returned_by clipped e.drop c }

-- its volumes are applied
abbrev pub with_volumes_applied : List ℕ → Controller → Controller
with_volumes_applied volumes c = record { control = with_applied_input_volumes volumes c.control; predictor = c.predictor }

-- The tests of a frame. Document 02 (xiv): "It refuses with 20 a set whose length isn't the channel count, then with 8 a set with any volume outside 0 to 255, then as before", with 9; and (viii): "It
-- refuses with 18 a frame .. with more channels or samples per channel than its own limits, after all refusals of the larger entry".
abbrev pub tested_as : Bool → Bool → Bool → Bool → Result (Unit {0}) Refusal
tested_as false inside fits within = Err VolumeCount
tested_as true false fits within = Err InputVolume
tested_as true true false within = Err FrameSize
tested_as true true true false = Err FrameLimits
tested_as true true true true = Ok tt

-- of a frame with this set, to a controller of so many channels
abbrev pub frame_outcome : Limits → ℕ → List ℤ → ℕ → List Float → Result (Unit {0}) Refusal
frame_outcome most channels volumes samples lent = tested_as (eqb (length volumes) channels) (are_numbers (numbers_of volumes)) (frame_fits channels samples lent) (is_within most channels samples)

-- a refusal hands the state back
abbrev pub refused_with : Refusal → Controller → Stepped
refused_with cause c = record { reply = refusal (number_of cause); state = c }

-- The rest takes the estimates of all rings as a parameter: `predicted_by` is what the code answers, and what exact logarithms would say has the same place (`claims`, specs/ExactRun.antt).
module _ (predicted : Asked → Predictor → Estimated) where
  -- "one within the wait then only counts"
  abbrev pub unless_waiting_by : Bool → Bool → Controller → Stepped
  unless_waiting_by true clipped c = record { reply = mark false; state = record { control = one_frame_more c.control; predictor = c.predictor } }
  unless_waiting_by false clipped c = handled clipped (predicted (asked_of c.control) c.predictor) c

  -- "With capture on every frame first enters the rings"; "With capture off, frames only set the volume"
  abbrev pub if_used_by : Bool → ℕ → List Float → Controller → Stepped
  if_used_by true samples lent c =
      unless_waiting_by (ltb c.control.since c.control.settings.clipped_wait)
      (lt c.control.settings.clipped_ratio (clipped_ratio_of (length c.control.channels) samples lent))
      (record { control = c.control; predictor = entered_if true samples lent c.predictor })
  if_used_by false samples lent c = record { reply = mark false; state = c }

  -- a frame that is refused hands the state back; one that is taken applies its volumes first
  abbrev pub unless_refused_by : Result (Unit {0}) Refusal → List ℕ → ℕ → List Float → Controller → Stepped
  unless_refused_by (Err cause) volumes samples lent c = refused_with cause c
  unless_refused_by (Ok tt) volumes samples lent c = if_used_by c.control.used samples lent (with_volumes_applied volumes c)

  abbrev pub frame_by : Limits → List ℤ → ℕ → List Float → Controller → Stepped
  frame_by most volumes samples lent c = unless_refused_by (frame_outcome most (length c.control.channels) volumes samples lent) (numbers_in (numbers_of volumes)) samples lent c

-- with the estimates of the rings
abbrev pub unless_waiting : Bool → Bool → Controller → Stepped
unless_waiting = unless_waiting_by predicted_by

abbrev pub if_used : Bool → ℕ → List Float → Controller → Stepped
if_used = if_used_by predicted_by

abbrev pub unless_refused : Result (Unit {0}) Refusal → List ℕ → ℕ → List Float → Controller → Stepped
unless_refused = unless_refused_by predicted_by

unfoldable pub analyze_input_audio : Limits → List ℤ → ℕ → List Float → Controller → Stepped
unfolding predicted_by numbers_of
analyze_input_audio = frame_by predicted_by
