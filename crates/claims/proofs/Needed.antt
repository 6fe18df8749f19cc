-- Parts of the lead-in that are needed: for each a past that can be told from no past at all. Assumes nothing.
use mathlib.Core.Path.{◌≡◌, refl, ap}
use mathlib.Core.List.{List, [], ◌∷◌, ◌++◌}
use Prim.Native.Nat.{ℕ, ◌≤◌}
use native.Mathlib.Omega.{arith}
use lib.Dec.{lit≤}
use lib.IntN.{pos}
use lib.Ieee.{add, mul, div, lt, le, eq, of_int, of_bits}
use lib.ListN.{length, replicate}
use Rattle.std.specs.Prelude.{None, Ok}
use Rattle.numbers.specs.Listed.{listed}
use Rattle.numbers.specs.Natural.{within_of}
use Rattle.levels.specs.Decibels.{minus, less, at_most, within}
use Rattle.levels.specs.FloatParts.{magnitude_of}
use Rattle.levels.specs.Level as Decibel
use Rattle.levels.specs.Level.{dbfs}
use Rattle.gain_map.specs.GainMap.{gain}
use Rattle.gain_map.specs.VolumeUpdate.{walk}
use Rattle.clipping_predictor_level_buffer.specs.declared.level.Level.{Level}
use Rattle.clipping_predictor_level_buffer.specs.Level.{frame_record}
use Rattle.clipping_predictor_level_buffer.specs.Metrics.{metrics_over, partial_metrics}
use Rattle.clipping_predictor_level_buffer.specs.Statistics.{plus_zero, sum, mean, largest}
use Rattle.clipping_predictor.specs.Turned.{estimated}
use Rattle.clipping_predictor.specs.Estimate.{drop_by, adaptive_drop, estimate_tree}
use Rattle.clipping_predictor.specs.Predictor.{push_each, frame_fits}
use Rattle.mono_input_volume_controller.specs.declared.config.Settings.{Settings}
use Rattle.clipping_predictor_level_buffer.specs.Clipped.{count_of, clipped_in, total}
use Rattle.clipping_predictor.specs.MostClipped.{most_clipped}
use Rattle.input_volume_controller.specs.ClippedRatio.{clipped_ratio_of}
use Rattle.mono_input_volume_controller.specs.SpeechLevel.{rms_error_of}
use Rattle.mono_input_volume_controller.specs.Mono.{is_users}
use Rattle.mono_input_volume_controller.specs.Config.{defaults, settings_from, settings_of}
use Rattle.input_volume_controller.specs.Channels.{called, each_given, aggregate_of}
use Rattle.input_volume_controller.specs.Volumes.{numbers_of, lowest_of}
use Rattle.input_volume_controller.specs.Limits.{plain_limits}
use Rattle.input_volume_controller.specs.ControlCalls.{with_applied_input_volumes, initialize, lower_channels}
use Rattle.input_volume_controller.specs.Controller.{fresh}
use Rattle.input_volume_controller.specs.Frame.{analyze_input_audio}
use Rattle.input_volume_controller.specs.Recommendation.{recommend_input_volume}
use Rattle.input_volume_controller.specs.Calls.{Call, frame, recommendation, initialise, Answer, after, answers}
use Rattle.claims.specs.Past.{is_accepted}
use Rattle.claims.specs.LeadIn.{all, accepted_by, accepted_in, is_quiet, quiet, is_calm, LeadIn, calls_of}
use Rattle.claims.specs.TwoPasts.{enough, RatioFromZero}
use Rattle.claims.specs.Sharp.{waiting}
use Rattle.claims.specs.Needed.{without_initialise, with_volume_zero, with_one_zero, with_capture_off, below_zero, PartsAreNeeded}
use Rattle.claims.proofs.OneSample.{still, clipped}

abbrev settings : Settings
settings = settings_from (waiting 0)

in_order : settings_of (waiting 0) ≡ Ok settings
unfolding defaults settings_of of_int of_bits le
in_order = refl

wordless : Settings
wordless = settings_from below_zero

wordless_in_order : settings_of below_zero ≡ Ok wordless
unfolding wordless defaults settings_of of_int of_bits le
wordless_in_order = refl

from_zero : RatioFromZero settings
unfolding defaults settings_from of_bits le
from_zero = tt

-- settings that 14 frames are enough for
lead_of : (s : Settings) → enough s ≤ 14 → LeadIn 1 quiet (enough s)
unfolding within_of numbers_of frame_fits all is_accepted accepted_by accepted_in is_quiet quiet is_calm of_int le eq
lead_of s fourteen = record {
  body = replicate 14 (still 50);
  after_initialise = [];
  after_frame = [];
  after_recommendation = [];
  most = plain_limits;
  volumes = 255 ∷ [];
  samples = 1;
  lent = plus_zero ∷ [];
  probability = plus_zero;
  level = None;
  calm = tt;
  long = fourteen;
  accepted = tt;
  still = tt;
  positive = tt;
  refused = tt;
}

lead : LeadIn 1 quiet (enough settings)
unfolding settings_from
lead = lead_of settings (lit≤ tt)

wordless_lead : LeadIn 1 quiet (enough wordless)
unfolding wordless settings_from
wordless_lead = lead_of wordless (lit≤ tt)

-- the same of two channels
still_two : ℕ → Call
still_two volume = frame plain_limits (pos volume ∷ pos volume ∷ []) 1 (plus_zero ∷ plus_zero ∷ [])

pair : LeadIn 2 quiet (enough settings)
unfolding still_two settings_from within_of numbers_of frame_fits all is_accepted accepted_by accepted_in is_quiet quiet is_calm of_int le eq
pair = record {
  body = replicate 14 (still_two 50);
  after_initialise = [];
  after_frame = [];
  after_recommendation = [];
  most = plain_limits;
  volumes = 255 ∷ 255 ∷ [];
  samples = 1;
  lent = plus_zero ∷ plus_zero ∷ [];
  probability = plus_zero;
  level = None;
  calm = tt;
  long = lit≤ tt;
  accepted = tt;
  still = tt;
  positive = tt;
  refused = tt;
}

-- what an answer shows: the controller's volume, and how many records the ring stores
volume_in : List Answer → ℕ
volume_in [] = 0
volume_in (a ∷ rest) = a.volume

length_of : List (List Level) → ℕ
length_of [] = 0
length_of (r ∷ rings) = length r

stored_in : List Answer → ℕ
stored_in [] = 0
stored_in (a ∷ rest) = length_of a.stored

after_calls : List Call → List Call → List Answer
after_calls calls more = answers (after (fresh settings 1) calls) more

after_wordless : List Call → List Call → List Answer
after_wordless calls more = answers (after (fresh wordless 1) calls) more

after_two : List Call → List Call → List Answer
after_two calls more = answers (after (fresh settings 2) calls) more

-- a clipped frame of the past has lowered the ceiling, and a clipped frame shows it
past_clipped : List Call
past_clipped = clipped 200 ∷ []

-- a recommendation of the past has ended the startup, so that a volume of 0 is left alone
past_started : List Call
past_started = still 200 ∷ recommendation plus_zero None ∷ []

-- one frame more, and every other frame is within the wait
past_still : List Call
past_still = still 50 ∷ []

past_two : List Call
past_two = still_two 200 ∷ recommendation plus_zero None ∷ []

record Shown : Type 0 where
  lowered : volume_in (after_calls (past_clipped ++ without_initialise lead) (clipped 255 ∷ [])) ≡ 225
  unlowered : volume_in (after_calls (without_initialise lead) (clipped 255 ∷ [])) ≡ 240
  muted : volume_in (after_calls (past_started ++ with_volume_zero lead) (initialise ∷ [])) ≡ 0
  unmuted : volume_in (after_calls (with_volume_zero lead) (initialise ∷ [])) ≡ 20
  one_muted : volume_in (after_two (past_two ++ with_one_zero pair) (initialise ∷ [])) ≡ 0
  none_muted : volume_in (after_two (with_one_zero pair) (initialise ∷ [])) ≡ 20
  kept : stored_in (after_calls (past_started ++ with_capture_off lead) (initialise ∷ [])) ≡ 2
  unkept : stored_in (after_calls (with_capture_off lead) (initialise ∷ [])) ≡ 1
  waited : stored_in (after_wordless (past_still ++ calls_of 1 quiet wordless_lead) (initialise ∷ [])) ≡ 1
  clipping : stored_in (after_wordless (calls_of 1 quiet wordless_lead) (initialise ∷ [])) ≡ 0

computed : Shown
unfolding volume_in length_of stored_in after_two past_two pair still_two after_calls past_clipped past_started after_wordless past_still wordless wordless_lead calls_of lead_of lead listed within_of minus less at_most within magnitude_of Decibel.level_of dbfs gain walk frame_record metrics_over partial_metrics sum mean largest drop_by adaptive_drop estimate_tree push_each frame_fits estimated after answers called aggregate_of count_of clipped_in total most_clipped clipped_ratio_of rms_error_of is_users defaults settings_from with_applied_input_volumes lowest_of each_given numbers_of initialize lower_channels analyze_input_audio recommend_input_volume of_int of_bits add mul div lt le
computed = record { lowered = refl; unlowered = refl; muted = refl; unmuted = refl; one_muted = refl; none_muted = refl; kept = refl; unkept = refl; waited = refl; clipping = refl }

-- THE CLAIM
pub parts_are_needed : PartsAreNeeded
unfolding after_calls after_two after_wordless
parts_are_needed = record {
  settings = settings;
  made = in_order;
  ratio = from_zero;
  lead = lead;
  initialise_needed = λ alike.
      let e : volume_in (after_calls (past_clipped ++ without_initialise lead) (clipped 255 ∷ [])) ≡ volume_in (after_calls (without_initialise lead) (clipped 255 ∷ [])) =
      ap volume_in (alike past_clipped [] (clipped 255 ∷ [])) in
      omega (arith, e, computed.lowered, computed.unlowered);
  volume_needed = λ alike.
      let e : volume_in (after_calls (past_started ++ with_volume_zero lead) (initialise ∷ [])) ≡ volume_in (after_calls (with_volume_zero lead) (initialise ∷ [])) =
      ap volume_in (alike past_started [] (initialise ∷ [])) in
      omega (arith, e, computed.muted, computed.unmuted);
  pair = pair;
  every_volume_needed = λ alike.
      let e : volume_in (after_two (past_two ++ with_one_zero pair) (initialise ∷ [])) ≡ volume_in (after_two (with_one_zero pair) (initialise ∷ [])) =
      ap volume_in (alike past_two [] (initialise ∷ [])) in
      omega (arith, e, computed.one_muted, computed.none_muted);
  capture_needed = λ alike.
      let e : stored_in (after_calls (past_started ++ with_capture_off lead) (initialise ∷ [])) ≡ stored_in (after_calls (with_capture_off lead) (initialise ∷ [])) =
      ap stored_in (alike past_started [] (initialise ∷ [])) in
      omega (arith, e, computed.kept, computed.unkept);
  wordless = wordless;
  wordless_made = wordless_in_order;
  wordless_lead = wordless_lead;
  word_needed = λ alike.
      let e : stored_in (after_wordless (past_still ++ calls_of 1 quiet wordless_lead) (initialise ∷ [])) ≡ stored_in (after_wordless (calls_of 1 quiet wordless_lead) (initialise ∷ [])) =
      ap stored_in (alike past_still [] (initialise ∷ [])) in
      omega (arith, e, computed.waited, computed.clipping);
}
