-- Document 01, "Ring and predictors": a predictor as its settings and, for each channel, the list of its stored records, newest first; and its calls. Definitions only.
use Rattle.std.specs.Prelude.{◌≡◌, ℕ, ◌*◌, ◌≤◌, ◌<◌, Bool, true, false, ◌&&◌, List, [], ◌∷◌, map, leb, eqb, ℤ, pos, Float, length, take, drop, get_or, replicate, Err, None, Ok, Option, Result, Some}
use Rattle.numbers.specs.Listed.{listed}
use Rattle.numbers.specs.declared.refusal.Refusal.{Refusal}
use Rattle.numbers.specs.declared.refusal.Refusal.TheVariants.{ChannelCount, FrameSize}
use Rattle.numbers.specs.Natural.{within_of}
use Rattle.numbers.specs.Said.{said}
use Rattle.clipping_predictor_level_buffer.specs.declared.level.Level.{Level}
use Rattle.clipping_predictor_level_buffer.specs.declared.ClippingPredictorLevelBuffer.{ClippingPredictorLevelBuffer}
use Rattle.clipping_predictor_level_buffer.specs.Level.{max_samples_per_channel, frame_record}
use Rattle.clipping_predictor_level_buffer.specs.Ring.{no_level, stored, push}
use Rattle.clipping_predictor.specs.declared.settings.ClippingPredictorMode.TheVariants.{AdaptiveStepClippingPeakPrediction}
use Rattle.clipping_predictor.specs.declared.settings.ClippingPredictorConfig.{ClippingPredictorConfig}
use Rattle.clipping_predictor.specs.declared.settings.Settings.{Settings}
use Rattle.clipping_predictor.specs.declared.ClippingPredictor.{ClippingPredictor}
use Rattle.clipping_predictor.specs.declared.Created.{Created}
use Rattle.clipping_predictor.specs.declared.making.Decided.{Decided}
use Rattle.clipping_predictor.specs.declared.Analyzed.{Analyzed}
use Rattle.clipping_predictor.specs.Settings.{settings_of}
use Rattle.clipping_predictor.specs.Settings as Settings
use Rattle.clipping_predictor.specs.Estimate.{capacity_of}
use Rattle.clipping_predictor.specs.GoodFor.{GoodFor}

-- "channel count not 1 to 8" is refused
abbrev pub max_channels : ℕ
max_channels = 8

-- a predictor as a value: rings stand in it as the lists that they store
pub record Predictor : Type 0 where
  pub settings : Settings
  pub rings : List (List Level)

-- what an array of rings has past its end: no channel's ring lies there
abbrev pub no_ring : ClippingPredictorLevelBuffer
no_ring = record { «data» = []; tail = 0; size = 0; capacity = 0 }

abbrev pub ring_at : ClippingPredictor → ℕ → ClippingPredictorLevelBuffer
ring_at p channel = get_or p.rings channel no_ring

unfoldable pub view_of : ClippingPredictor → Predictor
view_of p = record { settings = p.settings; rings = listed (λ c. stored (ring_at p c)) p.channels }

-- good order: what the making establishes and every call hands back
pub record Good (p : ClippingPredictor) : Type 0 where
  pub settings : Settings.Good p.settings
  pub channels_low : 1 ≤ p.channels
  pub channels_high : p.channels ≤ max_channels
  pub places : length p.rings ≡ max_channels
  pub each : (channel : ℕ) → channel < p.channels → GoodFor p.settings (ring_at p channel)

-- ---- making: cause 1, and then 7, 14 and 15

-- what stands beside a refusal: a predictor of one channel that is off
abbrev pub unmade_settings : Settings
unmade_settings = record { enabled = false; mode = AdaptiveStepClippingPeakPrediction; window = 5; reference = 5; delay = 5; threshold = pos 0; margin = pos 0 }

abbrev pub empty_predictor : Settings → ℕ → Predictor
empty_predictor s channels = record { settings = s; rings = replicate channels [] }

pub record Making : Type 0 where
  pub answer : Result (Unit {0}) Refusal
  pub predictor : Predictor

abbrev pub unmade : Refusal → Making
unmade cause = record { answer = Err cause; predictor = empty_predictor unmade_settings 1 }

unfoldable pub made_of : Option ℕ → Result Settings Refusal → Making
made_of None settings = unmade ChannelCount
made_of (Some channels) (Err cause) = unmade cause
made_of (Some channels) (Ok s) = record { answer = Ok tt; predictor = empty_predictor s channels }

unfoldable pub making_of : ℤ → ClippingPredictorConfig → Making
making_of channels config = made_of (within_of 1 max_channels channels) (settings_of config)

pub record CreatedOf (channels : ℤ) (config : ClippingPredictorConfig) (r : Created) : Type 0 where
  pub good : Good r.predictor
  pub answer : said r.answer ≡ said (making_of channels config).answer
  pub view : view_of r.predictor ≡ (making_of channels config).predictor

-- ---- what the private functions of the making say

pub record Fresh (channels : ℕ) (s : Settings) (r : ClippingPredictor) : Type 0 where
  pub good : Good r
  pub view : view_of r ≡ empty_predictor s channels

-- d is tested, and that predictor is built of it
pub record BuildsAs (made : Predictor) (d : Decided) : Type 0 where
  pub low : 1 ≤ d.channels
  pub high : d.channels ≤ max_channels
  pub settings : Settings.Good d.settings
  pub is : empty_predictor d.settings d.channels ≡ made

-- and what is decided is what to build, or why that making is refused
abbrev pub DecidedAs : Making → Result Decided Refusal → Type 0
DecidedAs making (Ok d) = (making.answer ≡ Ok tt) × BuildsAs making.predictor d
DecidedAs making (Err cause) = making ≡ unmade cause

-- and this is answered, with d built beside it
abbrev pub AnsweredAs : Making → Result (Unit {0}) Refusal → Decided → Type 0
AnsweredAs making answer d = (answer ≡ making.answer) × BuildsAs making.predictor d

-- ---- frames

-- What the contracts of the calls leave free is, of each ring, what the ring's own leave free, and all of the rings past the channel count. They are there: `good` has 8 rings. No answer of any later
-- call depends on them, since each contract speaks of `view_of` alone.

-- "the part that starts at channel × samples"
abbrev pub part_of : ℕ → List Float → ℕ → List Float
part_of samples frame channel = take samples (drop (channel * samples) frame)

abbrev pub levels_of : ℕ → ℕ → List Float → List Level
levels_of channels samples frame = listed (λ c. frame_record (part_of samples frame c)) channels

-- each channel's level enters its ring
unfoldable pub push_each : ℕ → List Level → List (List Level) → List (List Level)
push_each capacity levels [] = []
push_each capacity [] (r ∷ rings) = r ∷ rings
push_each capacity (l ∷ levels) (r ∷ rings) = push capacity l r ∷ push_each capacity levels rings

-- cause 9: "samples per channel not 1 to 480, or lent samples not channels × that"
unfoldable pub frame_fits : ℕ → ℕ → List Float → Bool
frame_fits channels samples frame = leb 1 samples && (leb samples max_samples_per_channel && eqb (length frame) (channels * samples))

abbrev pub outcome_if : Bool → Result (Unit {0}) Refusal
outcome_if true = Ok tt
outcome_if false = Err FrameSize

abbrev pub with_levels : List Level → Predictor → Predictor
with_levels levels p = record { settings = p.settings; rings = push_each (capacity_of p.settings) levels p.rings }

abbrev pub entered_if : Bool → ℕ → List Float → Predictor → Predictor
entered_if true samples frame p = with_levels (levels_of (length p.rings) samples frame) p
entered_if false samples frame p = p

-- the levels in the channels' places of an array
abbrev pub levels_in : List Level → ℕ → List Level
levels_in items channels = listed (λ c. get_or items c no_level) channels

-- a frame that does not fit hands the very predictor back
pub record WithFrame (p : ClippingPredictor) (samples : ℕ) (frame : List Float) (r : ClippingPredictor) : Type 0 where
  pub good : Good r
  pub view : view_of r ≡ entered_if (frame_fits p.channels samples frame) samples frame (view_of p)
  pub same : frame_fits p.channels samples frame ≡ false → r ≡ p

pub record AnalyzedOf (p : ClippingPredictor) (samples : ℕ) (frame : List Float) (r : Analyzed) : Type 0 where
  pub answer : said r.answer ≡ said (outcome_if (frame_fits p.channels samples frame))
  pub entered : WithFrame p samples frame r.predictor

-- "Reset empties it."
abbrev pub emptied : Predictor → Predictor
emptied p = record { settings = p.settings; rings = map (λ r. []) p.rings }

pub record ResetOf (p r : ClippingPredictor) : Type 0 where
  pub good : Good r
  pub view : view_of r ≡ emptied (view_of p)
