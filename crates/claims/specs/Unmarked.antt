-- Unmarked means exact. `estimate_tree` of the clipping predictor is what the code does (the contracts of `ClippingPredictor::estimate_clipped_level_step` and `InputVolumeController::{analyze_input_audio,
-- analyze_input_audio_each, spotter_analyze_input_audio, spotter_analyze_input_audio_each}` rest on it): its tests compare rounded levels. `exactDrop` and `exactFrame` compare exact ones. Demand 2 lets a marked
-- call alone depart, and document 02 (iii) narrows that: a frame whose state no turn of near comparisons could change is unmarked, and its state is the exact one. Definitions only.
use Rattle.std.specs.Prelude.{◌≡◌, false, List, ℕ, T, ℤ, Float}
use Rattle.std.specs.Float.{binary32}
use Rattle.std.specs.Float.Ieee.{fits}
use Rattle.clipping_predictor_level_buffer.specs.declared.level.Level.{Level}
use Rattle.clipping_predictor.specs.declared.settings.Settings.{Settings}
use Rattle.clipping_predictor.specs.declared.modes.Asked.{Asked}
use Rattle.clipping_predictor.specs.Turned.{estimated, is_near}
use Rattle.clipping_predictor.specs.Estimate.{estimate_tree}
use Rattle.input_volume_controller.specs.declared.limits.Limits.{Limits}
use Rattle.input_volume_controller.specs.Controller.{Controller}
use Rattle.input_volume_controller.specs.Reply.{mark}
use Rattle.input_volume_controller.specs.Calls.{frame, step, Typed}
use Rattle.claims.specs.Every.{Every}
use Rattle.claims.specs.Exact.{exact_drop}
use Rattle.claims.specs.ExactFrame.{exact_frame}
use Rattle.claims.specs.Marked.{MayEstimate}

-- A record's peak is a 32-bit float, as all that the code holds is. Its mean need not be asked: what is compared is a quotient of 32-bit floats.
abbrev pub PeakFits : Level → Type 0
PeakFits l = T (fits binary32 l.max)

-- THE CLAIM, of every mode, all records and all frames
pub record UnmarkedIsExact : Type 0 where
  -- the exact drop is one that the estimate may have: it differs by turns of near comparisons and ceilings alone
  pub may : (s : Settings) (records : List Level) (a : Asked) → Every PeakFits records → MayEstimate s records a (exact_drop s records a)
  -- so an unmarked estimate has the exact drop
  pub estimate : (s : Settings) (records : List Level) (a : Asked) → Every PeakFits records → is_near (estimated (estimate_tree s records a)) ≡ false
      → (estimated (estimate_tree s records a)).drop ≡ exact_drop s records a
  -- and an unmarked frame returns the exact state, whatever its estimates are
  pub frames : (c : Controller) (most : Limits) (volumes : List ℤ) (samples : ℕ) (lent : List Float) → Every (Every PeakFits) c.predictor.rings → Typed (frame most volumes samples lent)
      → (step c (frame most volumes samples lent)).reply ≡ mark false → (step c (frame most volumes samples lent)).state ≡ (exact_frame most volumes samples lent c).state
