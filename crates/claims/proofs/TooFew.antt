-- Two accepted frames fewer do not do: counterexamples with no clipping wait and with one, with the base's predictor and with a small one of every mode. Assumes nothing.
use mathlib.Core.Path.{◌≡◌, refl, sym, ap, subst, ◌∙◌}
use mathlib.Core.Bool.{Bool, true, not}
use mathlib.Core.List.{List, [], ◌∷◌, ◌++◌}
use Prim.Native.Nat.{ℕ, ◌-◌, ◌≤◌}
use native.Mathlib.Omega.{arith}
use lib.Dec.{T, lit≤}
use lib.IntN.{pos, negsuc}
use lib.Ieee.{Float, add, mul, div, lt, le, eq, of_int, of_bits}
use lib.Signed.{le_z}
use lib.ListN.{length, replicate}
use Rattle.std.specs.Prelude.{None, Ok}
use Rattle.numbers.specs.First.{first, searched}
use Rattle.numbers.specs.Listed.{listed}
use Rattle.numbers.specs.Natural.{within_of, at_least_of}
use Rattle.levels.specs.Decibels.{minus, less, at_most, within}
use Rattle.levels.specs.FloatParts.{magnitude_of}
use Rattle.levels.specs.Level as Decibel
use Rattle.levels.specs.Level.{dbfs}
use Rattle.gain_map.specs.GainMap.{gain, gain_map}
use Rattle.gain_map.specs.VolumeUpdate.{walk}
use Rattle.clipping_predictor_level_buffer.specs.declared.level.Level.{Level}
use Rattle.clipping_predictor_level_buffer.specs.Level.{frame_record}
use Rattle.clipping_predictor_level_buffer.specs.Metrics.{metrics_over, partial_metrics}
use Rattle.clipping_predictor_level_buffer.specs.Statistics.{plus_zero, sum, mean, largest}
use Rattle.clipping_predictor.specs.declared.settings.ClippingPredictorMode.{ClippingPredictorMode}
use Rattle.clipping_predictor.specs.declared.settings.ClippingPredictorMode.TheVariants.{ClippingEventPrediction, AdaptiveStepClippingPeakPrediction, FixedStepClippingPeakPrediction}
use Rattle.clipping_predictor.specs.declared.settings.ClippingPredictorConfig.{ClippingPredictorConfig}
use Rattle.clipping_predictor.specs.declared.settings.Settings as Predictor
use Rattle.clipping_predictor.specs.Settings as Predictors
use Rattle.clipping_predictor.specs.Turned.{estimated}
use Rattle.clipping_predictor.specs.Estimate.{drop_by, adaptive_drop, estimate_tree}
use Rattle.clipping_predictor.specs.Predictor.{push_each, frame_fits}
use Rattle.mono_input_volume_controller.specs.declared.config.Config.{Config}
use Rattle.mono_input_volume_controller.specs.declared.config.Settings.{Settings}
use Rattle.clipping_predictor_level_buffer.specs.Clipped.{count_of, clipped_in, total}
use Rattle.clipping_predictor.specs.MostClipped.{most_clipped}
use Rattle.input_volume_controller.specs.ClippedRatio.{clipped_ratio_of}
use Rattle.mono_input_volume_controller.specs.Config.{defaults, settings_from, settings_of}
use Rattle.input_volume_controller.specs.Channels.{called, each_given, aggregate_of}
use Rattle.input_volume_controller.specs.Volumes.{numbers_of, lowest_of}
use Rattle.input_volume_controller.specs.Limits.{plain_limits}
use Rattle.input_volume_controller.specs.ControlCalls.{with_applied_input_volumes, initialize, lower_channels}
use Rattle.mono_input_volume_controller.specs.declared.profile.Profile.{Profile}
use Rattle.mono_input_volume_controller.specs.declared.profile.Profile.TheVariants.{Plain, Classroom}
use Rattle.mono_input_volume_controller.specs.Profile.{classroom_conditions, all_hold, takes}
use Rattle.input_volume_controller.specs.Controller.{Controller, base_predictor, switched, fresh_with, fresh, Making, making_with}
use Rattle.input_volume_controller.specs.Profile.{within_profile, making_in}
use Rattle.input_volume_controller.specs.Frame.{analyze_input_audio}
use Rattle.input_volume_controller.specs.Recommendation.{recommend_input_volume}
use Rattle.input_volume_controller.specs.Calls.{Call, initialise, Answer, after, answers}
use Rattle.input_volume_controller.proofs.Built.{base_checked}
use Rattle.claims.specs.Past.{is_accepted}
use Rattle.claims.specs.LeadIn.{all, accepted_by, accepted_in, is_quiet, quiet, compared_in, quiet_for, is_calm, LeadIn, calls_of}
use Rattle.claims.specs.TwoPasts.{AlikeAfter, enough, enough_for}
use Rattle.claims.specs.Made.{ThresholdFromZero, quiet_in, enough_in}
use Rattle.claims.specs.Sharp.{silent, waiting, TooFewWith, TooFewByDefault, small, TooFewInMode, TwoFewerAreTooFew}
use Rattle.claims.proofs.Lists.{and_both}
use Rattle.claims.proofs.Made.{taken}
use Rattle.claims.proofs.Exists.{all_replicate, or_right, silence_low}
use Rattle.claims.proofs.OneSample.{still, loud, clipped}

-- ---- lead-ins of silence

module _ (is_still : ℕ → List Float → Bool) (passes : T (is_still 1 (plus_zero ∷ []))) where
  still_calm : (volume : ℕ) → T (is_calm 1 is_still (still volume))
  unfolding is_calm
  still_calm volume = or_right (not (is_accepted plain_limits 1 (pos volume ∷ []) 1 (plus_zero ∷ []))) (is_still 1 (plus_zero ∷ [])) passes

  lead : (body : List Call) (least : ℕ) → T (all (is_calm 1 is_still) body) → least ≤ accepted_in 1 body → LeadIn 1 is_still least
  unfolding within_of numbers_of frame_fits all is_accepted
  lead body least calm long = record {
    body = body;
    after_initialise = [];
    after_frame = [];
    after_recommendation = [];
    most = plain_limits;
    volumes = 100 ∷ [];
    samples = 1;
    lent = plus_zero ∷ [];
    probability = plus_zero;
    level = None;
    calm = calm;
    long = long;
    accepted = tt;
    still = passes;
    positive = tt;
    refused = tt;
  }

-- ---- what tells two pasts apart

-- how many records the ring shows after one call more
length_of : List (List Level) → ℕ
length_of [] = 0
length_of (r ∷ rings) = length r

shown : List Answer → ℕ
shown [] = 0
shown (a ∷ rest) = length_of a.stored

shown_by : Controller → List Call → Call → ℕ
shown_by new calls last = shown (answers (after new calls) (last ∷ []))

-- with a past it is another number than without one
record Apart (new : Controller) (past leadIn : List Call) (last : Call) (one other : ℕ) : Type 0 where
  with_past : shown_by new (past ++ leadIn) last ≡ one
  without : shown_by new leadIn last ≡ other

too_few : (profile : Profile) (config : Config) (predictor : ClippingPredictorConfig) (new : Controller) (is_still : ℕ → List Float → Bool) (least : ℕ) (l : LeadIn 1 is_still (least - 2)) (past : List Call) (last : Call) (one other : ℕ)
    → making_in profile (pos 1) config predictor ≡ record { answer = Ok tt; controller = new } → ThresholdFromZero config → Apart new past (calls_of 1 is_still l) last one other → (one ≡ other → ⊥)
    → TooFewWith profile config predictor is_still least
unfolding shown_by
too_few profile config predictor new is_still least l past last one other made ratio apart differ = record {
  made = record { accepted = ap (λ (m : Making). m.answer) made; ratio = ratio };
  refuted = λ alike.
      let new_alike : AlikeAfter new (calls_of 1 is_still l) = subst (λ (m : Making). AlikeAfter m.controller (calls_of 1 is_still l)) made (alike l) in
      differ (sym apart.with_past ∙ ap shown (new_alike past [] (last ∷ [])) ∙ apart.without);
}

-- ---- the settings

abbrev settings : ℕ → Settings
settings wait = settings_from (waiting wait)

-- which the making takes
record Taken (wait : ℕ) : Type 0 where
  in_order : settings_of (waiting wait) ≡ Ok (settings wait)
  ratio : ThresholdFromZero (waiting wait)

takes_none : Taken 0
unfolding defaults settings_of of_int of_bits le
takes_none = record { in_order = refl; ratio = tt }

takes_ten : Taken 10
unfolding defaults settings_of of_int of_bits le
takes_ten = record { in_order = refl; ratio = tt }

takes_default : Taken 300
unfolding defaults settings_of of_int of_bits le
takes_default = record { in_order = refl; ratio = tt }

-- and every profile's takes the default settings
in_profile : (profile : Profile) → takes profile (waiting 300) ≡ true
unfolding defaults classroom_conditions all_hold of_int of_bits le
in_profile Plain = refl
in_profile Classroom = refl

-- ---- the base's predictor

-- a past of six frames, the last two loud, at a volume at which no estimate is made
abbrev past : List Call
past = still 50 ∷ still 50 ∷ still 50 ∷ still 50 ∷ loud 50 ∷ loud 50 ∷ []

-- Quiet frames. The fourth is at a volume at which an estimate is made: with that past it predicts clipping, and the rings are emptied as late as can be.
abbrev body : ℕ → List Call
body k = still 50 ∷ still 50 ∷ still 50 ∷ still 200 ∷ replicate k (still 50)

silence_quiet : T (quiet 1 (plus_zero ∷ []))
unfolding all is_quiet quiet of_int le lt eq
silence_quiet = tt

twelve : LeadIn 1 quiet (enough (settings 0) - 2)
unfolding settings_from within_of numbers_of frame_fits all is_accepted accepted_by accepted_in is_quiet quiet is_calm of_int le eq
twelve = lead quiet silence_quiet (body 8) 12 tt (lit≤ tt)

three_hundred_two : LeadIn 1 quiet (enough (settings 300) - 2)
unfolding settings_from within_of numbers_of frame_fits all is_accepted accepted_by accepted_in is_quiet quiet is_calm of_int le eq
three_hundred_two = lead quiet silence_quiet (body 298) 302 tt (lit≤ tt)

-- ---- a small predictor of any mode

abbrev small_settings : ClippingPredictorMode → Predictor.Settings
small_settings mode = record { enabled = true; mode = mode; window = 2; reference = 3; delay = 1; threshold = negsuc 999; margin = pos 1000 }

small_checked : (mode : ClippingPredictorMode) → Predictors.settings_of (switched true (small mode)) ≡ Ok (small_settings mode)
unfolding Predictors.settings_of Predictors.checked Predictors.levels_in_range at_least_of
small_checked mode = refl

abbrev new_small : ClippingPredictorMode → ℕ → Controller
new_small mode wait = fresh_with (small_settings mode) (settings wait) 1

-- its one loud frame is the last of three
abbrev small_past : List Call
small_past = still 50 ∷ still 50 ∷ loud 50 ∷ []

-- the first quiet frame predicts clipping with that past
abbrev small_body : ℕ → List Call
small_body k = still 200 ∷ replicate k (still 50)

threshold_passed : (mode : ClippingPredictorMode) → T (le_z silent (compared_in mode (negsuc 999)))
threshold_passed ClippingEventPrediction = tt
threshold_passed AdaptiveStepClippingPeakPrediction = tt
threshold_passed FixedStepClippingPeakPrediction = tt

module _ (mode : ClippingPredictorMode) where
  abbrev is_still : ℕ → List Float → Bool
  is_still = quiet_for (small_settings mode) 1

  passes : T (is_still 1 (plus_zero ∷ []))
  passes = silence_low (small_settings mode) 1 (threshold_passed mode)

  small_lead : (k least : ℕ) → least ≤ accepted_in 1 (small_body k) → LeadIn 1 is_still least
  unfolding all
  small_lead k least long =
      lead is_still passes (small_body k) least
      (and_both (is_calm 1 is_still (still 200)) (all (is_calm 1 is_still) (replicate k (still 50))) (still_calm is_still passes 200) (all_replicate (is_calm 1 is_still) k (still 50) (still_calm is_still passes 50)))
      long

  three : LeadIn 1 is_still (enough_for (small_settings mode) (settings 0) - 2)
  unfolding settings_from within_of numbers_of frame_fits is_accepted accepted_by accepted_in
  three = small_lead 2 3 (lit≤ tt)

  nine : LeadIn 1 is_still (enough_for (small_settings mode) (settings 10) - 2)
  unfolding settings_from within_of numbers_of frame_fits is_accepted accepted_by accepted_in
  nine = small_lead 8 9 (lit≤ tt)

-- ---- computed

-- an initialise shows that with that past a record is still missing; a clipped frame, that the wait is not over: without that past the frame empties the ring
record Shown (mode : ClippingPredictorMode) : Type 0 where
  filling : Apart (new_small mode 0) small_past (calls_of 1 (is_still mode) (three mode)) initialise 3 4
  waiting : Apart (new_small mode 10) small_past (calls_of 1 (is_still mode) (nine mode)) (clipped 100) 4 0

record Computed : Type 0 where
  filling : Apart (fresh (settings 0) 1) past (calls_of 1 quiet twelve) initialise 9 10
  waiting : Apart (fresh (settings 300) 1) past (calls_of 1 quiet three_hundred_two) (clipped 100) 10 0
  event : Shown ClippingEventPrediction
  adaptive : Shown AdaptiveStepClippingPeakPrediction
  fixed : Shown FixedStepClippingPeakPrediction

computed : Computed
unfolding shown_by shown length_of twelve three_hundred_two three nine small_lead lead listed within_of minus less at_most within magnitude_of Decibel.level_of dbfs gain gain_map walk first searched frame_record metrics_over partial_metrics sum mean largest drop_by adaptive_drop estimate_tree push_each frame_fits estimated after answers called aggregate_of count_of clipped_in total most_clipped clipped_ratio_of defaults settings_from with_applied_input_volumes lowest_of each_given numbers_of initialize lower_channels analyze_input_audio recommend_input_volume of_int of_bits add mul div lt le calls_of
computed = record {
  filling = record { with_past = refl; without = refl };
  waiting = record { with_past = refl; without = refl };
  event = record { filling = record { with_past = refl; without = refl }; waiting = record { with_past = refl; without = refl } };
  adaptive = record { filling = record { with_past = refl; without = refl }; waiting = record { with_past = refl; without = refl } };
  fixed = record { filling = record { with_past = refl; without = refl }; waiting = record { with_past = refl; without = refl } };
}

shown_in : (mode : ClippingPredictorMode) → Shown mode
shown_in ClippingEventPrediction = computed.event
shown_in AdaptiveStepClippingPeakPrediction = computed.adaptive
shown_in FixedStepClippingPeakPrediction = computed.fixed

-- ---- the claim

too_few_by_default : (profile : Profile) (wait : ℕ) → takes profile (waiting wait) ≡ true → Taken wait → (l : LeadIn 1 quiet (enough (settings wait) - 2)) (last : Call) (one other : ℕ) → Apart (fresh (settings wait) 1) past (calls_of 1 quiet l) last one other → (one ≡ other → ⊥)
    → TooFewByDefault profile (waiting wait)
too_few_by_default profile wait inside t l last one other apart differ =
    too_few profile (waiting wait) base_predictor _ quiet (enough (settings wait)) l past last one other
    (ap (λ (b : Bool). within_profile b (making_with (pos 1) (waiting wait) base_predictor)) inside ∙ taken (waiting wait) base_predictor (settings wait) _ t.in_order (base_checked _)) t.ratio apart differ

too_few_in : (mode : ClippingPredictorMode) (wait : ℕ) → Taken wait → (l : LeadIn 1 (is_still mode) (enough_for (small_settings mode) (settings wait) - 2)) (last : Call) (one other : ℕ)
    → Apart (new_small mode wait) small_past (calls_of 1 (is_still mode) l) last one other → (one ≡ other → ⊥) → TooFewInMode mode (waiting wait)
unfolding defaults settings_from
too_few_in mode wait t l last one other apart differ =
    let made = taken (waiting wait) (small mode) (settings wait) (small_settings mode) t.in_order (small_checked mode) in
    subst (λ (m : Making). TooFewWith Plain (waiting wait) (small mode) (quiet_in m.controller 1) (enough_in m.controller)) (sym made)
    (too_few Plain (waiting wait) (small mode) _ (is_still mode) (enough_for (small_settings mode) (settings wait)) l small_past last one other made t.ratio apart differ)

-- THE CLAIM
pub two_fewer_are_too_few : TwoFewerAreTooFew
two_fewer_are_too_few = record {
  with_no_wait = too_few_by_default Plain 0 refl takes_none twelve initialise 9 10 computed.filling (λ e. omega (arith, e));
  by_default = λ profile. too_few_by_default profile 300 (in_profile profile) takes_default three_hundred_two (clipped 100) 10 0 computed.waiting (λ e. omega (arith, e));
  in_every_mode = λ mode. too_few_in mode 0 takes_none (three mode) initialise 3 4 (shown_in mode).filling (λ e. omega (arith, e));
  in_every_mode_with_a_wait = λ mode. too_few_in mode 10 takes_ten (nine mode) (clipped 100) 4 0 (shown_in mode).waiting (λ e. omega (arith, e));
}
