-- A frame with exact logarithms. What is exact are the logarithms: means and peaks are the rounded floats that the definition asks for, and a value at 1 or below counts as 1. Definitions only.
use Rattle.std.specs.Prelude.{List, map, ℕ, ℤ, Float}
use Rattle.clipping_predictor_level_buffer.specs.declared.level.Level.{Level}
use Rattle.clipping_predictor.specs.declared.modes.Asked.{Asked}
use Rattle.clipping_predictor.specs.declared.modes.Estimated.{Estimated}
use Rattle.clipping_predictor.specs.Predictor.{Predictor}
use Rattle.input_volume_controller.specs.declared.limits.Limits.{Limits}
use Rattle.input_volume_controller.specs.Controller.{Controller}
use Rattle.input_volume_controller.specs.Reply.{Stepped}
use Rattle.input_volume_controller.specs.Frame.{frame_by}
use Rattle.claims.specs.Exact.{exact_drop}
use Rattle.claims.specs.Marked.{predicted_as}

-- each channel's exact drop; nothing is near, so no other can be reached
unfoldable pub exact_predicted : Asked → Predictor → Estimated
exact_predicted a p = predicted_as (map (λ (records : List Level). exact_drop p.settings records a) p.rings) a p

-- the frame's own definition, with these estimates
unfoldable pub exact_frame : Limits → List ℤ → ℕ → List Float → Controller → Stepped
exact_frame = frame_by exact_predicted
