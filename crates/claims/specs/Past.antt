-- What a list of calls says by itself, read from its newest call back: whether capture is on, and which frames were accepted. These definitions speak of the calls alone, not of a
-- controller's state. Definitions only.
use Rattle.std.specs.Prelude.{Bool, true, ◌&&◌, List, [], ◌∷◌, ℕ, eqb, ℤ, Float, length}
use Rattle.clipping_predictor.specs.Predictor.{frame_fits}
use Rattle.input_volume_controller.specs.declared.limits.Limits.{Limits}
use Rattle.input_volume_controller.specs.Volumes.{are_numbers, numbers_of}
use Rattle.input_volume_controller.specs.Limits.{is_within}
use Rattle.input_volume_controller.specs.Calls.{Call, frame, recommendation, initialise, capture_switch}

-- capture is on or off at the start; a switch sets it, and initialise switches it on
unfoldable pub capture_on : Bool → List Call → Bool
capture_on start [] = start
capture_on start (frame most volumes samples lent ∷ before) = capture_on start before
capture_on start (recommendation probability level ∷ before) = capture_on start before
capture_on start (initialise ∷ before) = true
capture_on start (capture_switch on ∷ before) = on

-- "accepted is not refused": none of the causes 20, 8, 9 and 18 holds. `AcceptedIsNotRefused` (Sharp.antt) says that it is what the calls answer.
unfoldable pub is_accepted : Limits → ℕ → List ℤ → ℕ → List Float → Bool
is_accepted most channels volumes samples lent = eqb (length volumes) channels && (are_numbers (numbers_of volumes) && (frame_fits channels samples lent && is_within most channels samples))
