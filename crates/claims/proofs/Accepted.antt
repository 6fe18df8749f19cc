-- A frame's reply is a refusal exactly where the frame is not accepted. Assumes nothing.
use mathlib.Core.Path.{◌≡◌, refl, ap, ◌∙◌}
use mathlib.Core.Bool.{Bool, true, false, not}
use mathlib.Core.List.{List}
use Prim.Native.Nat.{ℕ}
use lib.Dec.{ltb}
use lib.Ieee.{Float, lt}
use lib.ListN.{length}
use Rattle.std.specs.Prelude.{Err, Ok, Result}
use Rattle.numbers.specs.declared.refusal.Refusal.{Refusal}
use Rattle.clipping_predictor.specs.Predictor.{entered_if}
use Rattle.input_volume_controller.specs.ClippedRatio.{clipped_ratio_of}
use Rattle.input_volume_controller.specs.Controller.{Controller}
use Rattle.input_volume_controller.specs.Volumes.{numbers_of, numbers_in}
use Rattle.input_volume_controller.specs.Frame.{with_volumes_applied, frame_outcome, unless_waiting, if_used, unless_refused, analyze_input_audio}
use Rattle.claims.specs.Sharp.{is_refusal, AcceptedIsNotRefused}
use Rattle.claims.proofs.Outcomes.{is_taken, accepted_is}

marked_waiting : (t clipped : Bool) (c : Controller) → is_refusal (unless_waiting t clipped c).reply ≡ false
marked_waiting true clipped c = refl
marked_waiting false clipped c = refl

pub marked_used : (t : Bool) (samples : ℕ) (lent : List Float) (c : Controller) → is_refusal (if_used t samples lent c).reply ≡ false
marked_used true samples lent c =
    marked_waiting (ltb c.control.since c.control.settings.clipped_wait)
    (lt c.control.settings.clipped_ratio (clipped_ratio_of (length c.control.channels) samples lent))
    (record { control = c.control; predictor = entered_if true samples lent c.predictor })
marked_used false samples lent c = refl

refused_if : (o : Result (Unit {0}) Refusal) (volumes : List ℕ) (samples : ℕ) (lent : List Float) (c : Controller) → is_refusal (unless_refused o volumes samples lent c).reply ≡ not (is_taken o)
refused_if (Err cause) volumes samples lent c = refl
refused_if (Ok tt) volumes samples lent c = marked_used c.control.used samples lent (with_volumes_applied volumes c)

-- THE CLAIM
pub accepted_is_not_refused : AcceptedIsNotRefused
unfolding analyze_input_audio
accepted_is_not_refused c most volumes samples lent =
    let n = length c.control.channels in
    refused_if (frame_outcome most n volumes samples lent) (numbers_in (numbers_of volumes)) samples lent c ∙ ap not (accepted_is most volumes samples lent {n = n} refl)
