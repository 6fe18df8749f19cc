-- A broken sample leaves. From any state, after any calls in which at least delay + reference frames were accepted with capture on, every ring stores records of those frames alone, in
-- their order: what stood before, a not-a-number or not, is gone. Document 01: "holding delay + reference records (its capacity); a push into a full one replaces the oldest"; "With capture on
-- every frame first enters the rings"; a lowering of the channels "empties the rings".
-- It reaches the code by the contracts of `InputVolumeController::{analyze_input_audio, analyze_input_audio_each, spotter_analyze_input_audio, spotter_analyze_input_audio_each, recommend_input_volume, initialize,
-- handle_capture_output_used_change}`: each hands back one step of the definition (`Does`), so a run of the functions is a run of `after` (Run.antt), from whatever controller in good order it starts. Definitions
-- only.
use Rattle.std.specs.Prelude.{◌≡◌, Bool, true, false, ◌&&◌, List, [], ◌∷◌, map, reverse, ℕ, ◌+◌, ◌≤◌, ◌<◌, Float, length, get_or, take}
use Rattle.clipping_predictor_level_buffer.specs.declared.level.Level.{Level}
use Rattle.clipping_predictor_level_buffer.specs.Level.{frame_record}
use Rattle.clipping_predictor.specs.Predictor.{part_of}
use Rattle.input_volume_controller.specs.Controller.{Controller}
use Rattle.input_volume_controller.specs.Calls.{Call, frame, recommendation, initialise, capture_switch, after}
use Rattle.claims.specs.Past.{capture_on, is_accepted}

-- a frame: its samples per channel, and all that were lent
pub record Frame : Type 0 where
  pub samples : ℕ
  pub lent : List Float

-- the record that a frame yields for a channel
abbrev pub record_of : ℕ → Frame → Level
record_of channel f = frame_record (part_of f.samples f.lent channel)

abbrev pub with_if : Bool → Frame → List Frame → List Frame
with_if true f frames = f ∷ frames
with_if false f frames = frames

-- the frames of a list of calls that were accepted with capture on, newest first; the calls stand newest first too
unfoldable pub accepted_frames : ℕ → Bool → List Call → List Frame
accepted_frames channels start [] = []
accepted_frames channels start (frame most volumes samples lent ∷ before) =
    with_if (is_accepted most channels volumes samples lent && capture_on start before) (record { samples = samples; lent = lent }) (accepted_frames channels start before)
accepted_frames channels start (recommendation probability level ∷ before) = accepted_frames channels start before
accepted_frames channels start (initialise ∷ before) = accepted_frames channels start before
accepted_frames channels start (capture_switch on ∷ before) = accepted_frames channels start before

-- those of calls on the controller c
abbrev pub frames_of : Controller → List Call → List Frame
frames_of c calls = accepted_frames (length c.control.channels) c.control.used (reverse calls)

-- a ring stores the newest few of some records, newest first, and nothing else
pub record NewestOf (records ring : List Level) : Type 0 where
  pub count : ℕ
  pub is : ring ≡ take count records

-- THE CLAIM, from any state whose reference length is at least 1, as cause 7 asks; its rings may hold anything
abbrev pub BrokenLeaves : Type 0
BrokenLeaves = (c : Controller) (calls : List Call) → 1 ≤ c.predictor.settings.reference
    → c.predictor.settings.delay + c.predictor.settings.reference ≤ length (frames_of c calls)
    → (channel : ℕ) → channel < length (after c calls).predictor.rings → NewestOf (map (record_of channel) (frames_of c calls)) (get_or (after c calls).predictor.rings channel [])
