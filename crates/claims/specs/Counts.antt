-- Document 02 (xi): the counts of clipped samples in the records. "Step, near mark and recommendation stay the same for every frame": controllers that are equal but for the counts answer every list of calls
-- alike, marks, volumes, refusals and all. And how large a count and a total can be. Definitions only.
use Rattle.std.specs.Prelude.{◌≡◌, List, map, ◌≤◌, ℤ, Float, length, Ok, Some}
use Rattle.clipping_predictor_level_buffer.specs.declared.level.Level.{Level}
use Rattle.clipping_predictor_level_buffer.specs.declared.ClippingPredictorLevelBuffer.{ClippingPredictorLevelBuffer}
use Rattle.clipping_predictor_level_buffer.specs.Level.{frame_record}
use Rattle.clipping_predictor_level_buffer.specs.Ring.{stored}
use Rattle.clipping_predictor_level_buffer.specs.Ring as Ring
use Rattle.clipping_predictor_level_buffer.specs.Metrics.{compute_partial_metrics}
use Rattle.input_volume_controller.specs.declared.InputVolumeController.{InputVolumeController}
use Rattle.input_volume_controller.specs.Controller.{Controller, view_of, Good}
use Rattle.input_volume_controller.specs.Calls.{Call, Answer, answers}
use Rattle.claims.specs.Run.{Run}

-- ---- without the counts

-- a record, and rings of them, with the counts left out
abbrev pub uncounted : Level → Level
uncounted l = record { average = l.average; max = l.max; clipped = 0 }

abbrev pub uncounted_rings : List (List Level) → List (List Level)
uncounted_rings rings = map (map uncounted) rings

-- a controller likewise
abbrev pub uncounted_in : Controller → Controller
uncounted_in c = record { control = c.control; predictor = record { settings = c.predictor.settings; rings = uncounted_rings c.predictor.rings } }

-- and what is heard of a call: its reply and the volume as they are, the stored records without their counts
abbrev pub heard_uncounted : Answer → Answer
heard_uncounted a = record { reply = a.reply; volume = a.volume; stored = uncounted_rings a.stored }

abbrev pub AlikeUncounted : List Answer → List Answer → Type 0
AlikeUncounted one other = map heard_uncounted one ≡ map heard_uncounted other

-- THE CLAIM, of the definition and of the code
pub record CountsAreUnread : Type 0 where
  pub definition : (a b : Controller) (calls : List Call) → uncounted_in a ≡ uncounted_in b → AlikeUncounted (answers a calls) (answers b calls)
  pub code : (a b : InputVolumeController) → Good a → Good b → uncounted_in (view_of a) ≡ uncounted_in (view_of b)
      → (calls : List Call) (one other : List Answer) (c d : InputVolumeController) → Run a calls one c → Run b calls other d → AlikeUncounted one other

-- ---- how large they are

-- THE CLAIM: a frame's count is at most its samples, so at most 480, and a total at most 64 times as much
pub record CountsWithin : Type 0 where
  pub frames : (samples : List Float) → (frame_record samples).clipped ≤ length samples
  pub totals : (r : ClippingPredictorLevelBuffer) (delay items : ℤ) (metrics : Level) → Ring.Good r → compute_partial_metrics r.capacity (stored r) delay items ≡ Ok (Some metrics) → metrics.clipped ≤ 30720
