-- A speech caller with short frames. Document 02 (viii): "The word spotter calls with at most 2 channels and 160 samples each, and must not be able to pass more by accident. The 8 and 480 stay for everybody else, and
-- one statement covers both pairs of limits. It refuses with 18 a frame through the spotter's entry with more channels or samples per channel than its own limits, after all refusals of the larger entry, and otherwise
-- answers as that entry does." Here of every frame from any state, and of the code, by the contracts of `InputVolumeController::{analyze_input_audio_each, spotter_analyze_input_audio_each}`; with one volume for all
-- channels an entry is that with equal ones (`AnalyzedOf`), and the static library's say the reply and the state of the same `step` (agc2/specs/Calls.antt). Definitions only.
use Rattle.std.specs.Prelude.{◌≡◌, Bool, true, false, not, ◌&&◌, List, ℕ, ◌≤◌, ℤ, Float, length, Err}
use Rattle.numbers.specs.declared.refusal.Refusal.TheVariants.{FrameLimits}
use Rattle.input_volume_controller.specs.declared.limits.Limits.{Limits}
use Rattle.input_volume_controller.specs.declared.Analyzed.{Analyzed}
use Rattle.input_volume_controller.specs.declared.InputVolumeController.{InputVolumeController}
use Rattle.input_volume_controller.specs.Limits.{plain_limits, spotter_limits}
use Rattle.input_volume_controller.specs.Controller.{Controller, view_of}
use Rattle.input_volume_controller.specs.Reply.{Reply, refusal, analysis_says, Stepped}
use Rattle.input_volume_controller.specs.Calls.{frame, step, AnalyzedEachOf}
use Rattle.claims.specs.Causes.{is_over}
use Rattle.claims.specs.Sharp.{is_refusal}

-- "at most 2 channels and 160 samples each"
abbrev pub short : Limits
short = record { channels = 2; samples = 160 }

-- "after all refusals of the larger entry": that one accepts, and the frame has "more channels or samples per channel than its own limits"
abbrev pub is_too_much : Limits → ℕ → ℕ → Reply → Bool
is_too_much most channels samples wide = not (is_refusal wide) && is_over most channels samples

-- ---- from any state

-- "It refuses with 18", the state as before, "and otherwise answers as that entry does"
abbrev pub narrowed_if : Bool → Controller → Stepped → Stepped
narrowed_if true c wide = record { reply = refusal 18; state = c }
narrowed_if false c wide = wide

-- what an entry with these limits makes of what the larger entry does with the same frame
abbrev pub narrowed : Limits → ℕ → Controller → Stepped → Stepped
narrowed most samples c wide = narrowed_if (is_too_much most (length c.control.channels) samples wide.reply) c wide

-- ---- in the code

-- the same of what the two functions hand back; what is left free in it is heard in no later answer (`FreeIsUnheard`)
abbrev pub NarrowedTo : Bool → InputVolumeController → Analyzed → Analyzed → Type 0
NarrowedTo true self wide r = (r.answer ≡ Err FrameLimits) × (r.controller ≡ self)
NarrowedTo false self wide r = (r.answer ≡ wide.answer) × (view_of r.controller ≡ view_of wide.controller)

-- THE CLAIM
pub record ShortFrames : Type 0 where
  -- the spotter's entry, of every controller, however many channels it has
  pub spotter : (c : Controller) (volumes : List ℤ) (samples : ℕ) (lent : List Float)
      → step c (frame spotter_limits volumes samples lent) ≡ narrowed short samples c (step c (frame plain_limits volumes samples lent))
  -- "one statement covers both pairs of limits": any limits, of every controller with up to 8 channels; none that is made has more
  pub any : (most : Limits) (c : Controller) (volumes : List ℤ) (samples : ℕ) (lent : List Float) → length c.control.channels ≤ 8
      → step c (frame most volumes samples lent) ≡ narrowed most samples c (step c (frame plain_limits volumes samples lent))
  -- "The 8 and 480 stay for everybody else": through the plain entry 18 is never said, so causes 20, 8 and 9 are all that there are (`RefusedCalls`)
  pub plain : (c : Controller) (volumes : List ℤ) (samples : ℕ) (lent : List Float) → length c.control.channels ≤ 8 → (step c (frame plain_limits volumes samples lent)).reply ≡ refusal 18 → ⊥
  -- 2 channels of 160 samples are not too much; 161 samples are, and 3 channels
  pub two_of_160 : is_over short 2 160 ≡ false
  pub one_of_161 : is_over short 1 161 ≡ true
  pub three_of_one : is_over short 3 1 ≡ true
  -- the code: what the two entries hand back, of one controller and one frame
  pub in_code : (self : InputVolumeController) (volumes : List ℤ) (samples : ℕ) (lent : List Float) (wide r : Analyzed) → AnalyzedEachOf plain_limits self volumes samples lent wide
      → AnalyzedEachOf spotter_limits self volumes samples lent r → NarrowedTo (is_too_much short self.control.channels.count samples (analysis_says wide.answer)) self wide r
