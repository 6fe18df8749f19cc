-- For each part that the replies depend on two controllers that agree in all others and do not reply alike, computed: all of one channel, with the default settings or another clipping wait; and two of two channels that agree in all, of which
-- one had a set of unequal volumes. Assumes nothing.
use mathlib.Core.Path.{◌≡◌, refl, sym, ap, ◌∙◌}
use mathlib.Core.Bool.{false}
use mathlib.Core.List.{List, [], ◌∷◌}
use Prim.Native.Nat.{ℕ}
use native.Mathlib.Omega.{arith}
use lib.Dec.{eqb, eqb→eq}
use lib.IntN.{ℤ, pos, nat_abs}
use lib.Ieee.{fin, add, mul, div, lt, le, of_int, of_bits}
use lib.ListN.{length}
use Rattle.std.specs.Prelude.{None, Ok, Some}
use Rattle.numbers.specs.Listed.{listed}
use Rattle.numbers.specs.Natural.{within_of}
use Rattle.levels.specs.Decibels.{minus, less, at_most, within}
use Rattle.levels.specs.FloatParts.{magnitude_of}
use Rattle.levels.specs.Level as Decibel
use Rattle.levels.specs.Level.{dbfs}
use Rattle.gain_map.specs.GainMap.{gain}
use Rattle.gain_map.specs.VolumeUpdate.{walk}
use Rattle.clipping_predictor_level_buffer.specs.Level.{frame_record}
use Rattle.clipping_predictor_level_buffer.specs.Metrics.{metrics_over, partial_metrics}
use Rattle.clipping_predictor_level_buffer.specs.Statistics.{plus_zero, sum, mean, largest}
use Rattle.clipping_predictor.specs.Turned.{estimated}
use Rattle.clipping_predictor.specs.Estimate.{drop_by, adaptive_drop, estimate_tree}
use Rattle.clipping_predictor.specs.Predictor.{max_channels, push_each, frame_fits}
use Rattle.mono_input_volume_controller.specs.declared.config.Config.{Config}
use Rattle.mono_input_volume_controller.specs.SpeechLevel.{rms_error_of}
use Rattle.mono_input_volume_controller.specs.Mono.{is_users}
use Rattle.mono_input_volume_controller.specs.Config.{defaults, settings_from, settings_of}
use Rattle.clipping_predictor_level_buffer.specs.Clipped.{count_of, clipped_in, total}
use Rattle.clipping_predictor.specs.MostClipped.{most_clipped}
use Rattle.input_volume_controller.specs.ClippedRatio.{clipped_ratio_of}
use Rattle.input_volume_controller.specs.Volumes.{numbers_of, lowest_of}
use Rattle.input_volume_controller.specs.Limits.{plain_limits}
use Rattle.input_volume_controller.specs.Channels.{called, each_given, aggregate_of}
use Rattle.input_volume_controller.specs.ControlCalls.{with_applied_input_volumes, initialize, lower_channels}
use Rattle.input_volume_controller.specs.Controller.{predictor_settings, base_predictor}
use Rattle.input_volume_controller.proofs.Built.{base_checked}
use Rattle.input_volume_controller.specs.Reply.{Reply}
use Rattle.input_volume_controller.specs.Frame.{analyze_input_audio}
use Rattle.input_volume_controller.specs.Recommendation.{recommend_input_volume}
use Rattle.input_volume_controller.specs.Calls.{Call, frame, recommendation, initialise, capture_switch, after, answers}
use Rattle.claims.specs.Past.{is_accepted}
use Rattle.claims.specs.Equal.{AllEqual, EvenCall, EvenCalls}
use Rattle.claims.specs.Depends.{History, standing, Part, settings, one_channel, rings, since_clipping, pending_volume, AgreeIn, replies_in}
use Rattle.claims.specs.DependsEach.{Taken, Two, Needed, VolumeIsOpen, EvenIsNeeded, DependsOnEach}
use Rattle.claims.specs.Sharp.{waiting}
use Rattle.claims.proofs.Lists.{and_l}
use Rattle.claims.proofs.Every.{every_any}
use Rattle.claims.proofs.Made.{taken_of, taken}
use Rattle.claims.proofs.OneSample.{still, loud, clipped}

-- ---- controllers of one channel

-- made with a configuration
abbrev made_with : Config → List Call → History
made_with config calls = record { predictor = predictor_settings (settings_from config).predicts; settings = settings_from config; channels = 1; calls = calls }

abbrev InRange : Config → Type 0
InRange config = settings_of config ≡ Ok (settings_from config)

by_default : (config : Config) (calls : List Call) → InRange config → Taken (made_with config calls)
by_default config calls e = record { config = config; predictor = base_predictor; made = taken config base_predictor (settings_from config) _ e (base_checked (settings_from config).predicts) }

-- their sets are of one volume each, so of equal ones
alone : (volumes : List ℤ) → length volumes ≡ 1 → AllEqual volumes
alone [] e = absurd (omega arith)
alone (v ∷ []) e = record { volume = v; equal = refl }
alone (v ∷ w ∷ volumes) e = absurd (omega arith)

even_call : (call : Call) → EvenCall 1 call
unfolding is_accepted
even_call (frame most volumes samples lent) = λ t. alone volumes (eqb→eq (length volumes) 1 (and_l (eqb (length volumes) 1) _ t))
even_call (recommendation probability level) = tt
even_call initialise = tt
even_call (capture_switch on) = tt

even_of_one : (calls : List Call) → EvenCalls 1 calls
even_of_one calls = every_any (EvenCall 1) even_call calls

-- ---- what they reply

-- the last recommendation's volume, and 256 for none
said_by : ℕ → Reply → ℕ
said_by before (Reply.volume v) = nat_abs v
said_by before Reply.none = 256
said_by before (Reply.mark near) = before
said_by before (Reply.refusal number) = before
said_by before Reply.done = before

last_in : ℕ → List Reply → ℕ
last_in before [] = before
last_in before (r ∷ replies) = last_in (said_by before r) replies

shown : History → List Call → ℕ
shown h calls = last_in 256 (replies_in (answers (standing h) calls))

-- ---- an example

-- two agree in a part, unless it is left out
abbrev Fact : (Part → Type 0) → Part → History → History → Type 0
Fact Out same one other = (Out same → ⊥) → AgreeIn 0 same (standing one) (standing other)

record Facts (Out : Part → Type 0) (one other : History) : Type 0 where
  in_settings : Fact Out settings one other
  in_one_channel : Fact Out one_channel one other
  in_rings : Fact Out rings one other
  in_since_clipping : Fact Out since_clipping one other
  in_pending_volume : Fact Out pending_volume one other

agreed : (Out : Part → Type 0) (one other : History) → Facts Out one other → (same : Part) → Fact Out same one other
agreed Out one other f settings = f.in_settings
agreed Out one other f one_channel = f.in_one_channel
agreed Out one other f rings = f.in_rings
agreed Out one other f since_clipping = f.in_since_clipping
agreed Out one other f pending_volume = f.in_pending_volume

-- this part is left out, or none
abbrev Just : Part → Part → Type 0
Just part same = same ≡ part

abbrev Never : Part → Type 0
Never same = ⊥

-- two configurations and pasts, and calls that show different volumes
record Example (part : Part) : Type 0 where
  one : Config
  other : Config
  one_past : List Call
  other_past : List Call
  calls : List Call
  one_taken : InRange one
  other_taken : InRange other
  agree : Facts (Just part) (made_with one one_past) (made_with other other_past)
  volume : ℕ
  another : ℕ
  one_shows : shown (made_with one one_past) calls ≡ volume
  other_shows : shown (made_with other other_past) calls ≡ another
  apart : volume ≡ another → ⊥

-- a recommendation without speech
abbrev silent : Call
silent = recommendation plus_zero None

-- one for each part, in a record: as clauses of one function they take more than twice as long to check
record Examples : Type 0 where
  by_settings : Example settings
  by_one_channel : Example one_channel
  by_rings : Example rings
  by_since_clipping : Example since_clipping
  by_pending_volume : Example pending_volume

examples : Examples
unfolding said_by last_in shown listed within_of minus less at_most within magnitude_of Decibel.level_of dbfs gain walk frame_record metrics_over partial_metrics sum mean largest drop_by adaptive_drop estimate_tree push_each frame_fits estimated after answers called aggregate_of count_of clipped_in total most_clipped clipped_ratio_of rms_error_of is_users defaults settings_from settings_of with_applied_input_volumes lowest_of each_given numbers_of initialize lower_channels analyze_input_audio recommend_input_volume of_int of_bits add mul div lt le
examples = record {
  -- a clipped frame has started the wait, which is of one frame or of 300
  by_settings = record {
    one = waiting 1;
    other = waiting 300;
    one_past = clipped 100 ∷ initialise ∷ [];
    other_past = clipped 100 ∷ initialise ∷ [];
    calls = still 100 ∷ silent ∷ clipped 100 ∷ silent ∷ [];
    one_taken = refl;
    other_taken = refl;
    agree = record { in_settings = λ h. absurd (h refl); in_one_channel = λ h. refl; in_rings = λ h. refl; in_since_clipping = λ h. refl; in_pending_volume = λ h. refl };
    volume = 85;
    another = 100;
    one_shows = refl;
    other_shows = refl;
    apart = λ e. omega (arith, e);
  };
  -- a recommendation has ended the startup, after which a volume of 0 is left alone
  by_one_channel = record {
    one = defaults;
    other = defaults;
    one_past = still 100 ∷ silent ∷ still 100 ∷ [];
    other_past = still 100 ∷ still 100 ∷ [];
    calls = still 0 ∷ silent ∷ [];
    one_taken = refl;
    other_taken = refl;
    agree = record { in_settings = λ h. (refl, refl); in_one_channel = λ h. absurd (h refl); in_rings = λ h. refl; in_since_clipping = λ h. refl; in_pending_volume = λ h. refl };
    volume = 0;
    another = 20;
    one_shows = refl;
    other_shows = refl;
    apart = λ e. omega (arith, e);
  };
  -- loud frames at a volume at which no estimate is made; the last one's estimate predicts clipping
  by_rings = record {
    one = defaults;
    other = defaults;
    one_past = still 200 ∷ silent ∷ still 50 ∷ still 50 ∷ still 50 ∷ loud 50 ∷ loud 50 ∷ [];
    other_past = still 200 ∷ silent ∷ still 50 ∷ still 50 ∷ still 50 ∷ still 50 ∷ still 50 ∷ [];
    calls = still 50 ∷ still 50 ∷ still 50 ∷ still 200 ∷ silent ∷ [];
    one_taken = refl;
    other_taken = refl;
    agree = record { in_settings = λ h. (refl, refl); in_one_channel = λ h. refl; in_rings = λ h. absurd (h refl); in_since_clipping = λ h. refl; in_pending_volume = λ h. refl };
    volume = 185;
    another = 200;
    one_shows = refl;
    other_shows = refl;
    apart = λ e. omega (arith, e);
  };
  -- a clipped frame has started the wait, in which another clipped frame only counts
  by_since_clipping = record {
    one = defaults;
    other = defaults;
    one_past = capture_switch false ∷ still 100 ∷ initialise ∷ [];
    other_past = clipped 100 ∷ initialise ∷ [];
    calls = still 100 ∷ silent ∷ clipped 100 ∷ silent ∷ [];
    one_taken = refl;
    other_taken = refl;
    agree = record { in_settings = λ h. (refl, refl); in_one_channel = λ h. refl; in_rings = λ h. refl; in_since_clipping = λ h. absurd (h refl); in_pending_volume = λ h. refl };
    volume = 85;
    another = 100;
    one_shows = refl;
    other_shows = refl;
    apart = λ e. omega (arith, e);
  };
  -- with capture off a frame leaves its volume pending and nothing else
  by_pending_volume = record {
    one = defaults;
    other = defaults;
    one_past = capture_switch false ∷ [];
    other_past = capture_switch false ∷ still 0 ∷ [];
    calls = silent ∷ [];
    one_taken = refl;
    other_taken = refl;
    agree = record { in_settings = λ h. (refl, refl); in_one_channel = λ h. refl; in_rings = λ h. refl; in_since_clipping = λ h. refl; in_pending_volume = λ h. absurd (h refl) };
    volume = 256;
    another = 0;
    one_shows = refl;
    other_shows = refl;
    apart = λ e. omega (arith, e);
  };
}

example : (part : Part) → Example part
example settings = examples.by_settings
example one_channel = examples.by_one_channel
example rings = examples.by_rings
example since_clipping = examples.by_since_clipping
example pending_volume = examples.by_pending_volume

two : {part : Part} → Example part → Two
two x = record { one = made_with x.one x.one_past; other = made_with x.other x.other_past; one_taken = by_default x.one x.one_past x.one_taken; other_taken = by_default x.other x.other_past x.other_taken }

needed : (part : Part) → Needed part
unfolding two shown
needed part =
    let x = example part in
    record {
      two = two x;
      even = (even_of_one x.one_past, even_of_one x.other_past);
      agree = agreed (Just part) _ _ x.agree;
      apart = λ alike. x.apart (sym x.one_shows ∙ ap (last_in 256) (alike x.calls) ∙ x.other_shows);
    }

-- ---- the controller's own volume

-- an initialise takes the volume with the applied one still pending, so raised to the minimum; a second one takes it with none pending
abbrev raised : History
raised = made_with defaults (still 10 ∷ initialise ∷ [])

abbrev unraised : History
unraised = made_with defaults (still 10 ∷ initialise ∷ initialise ∷ [])

record Open : Type 0 where
  agree : Facts Never raised unraised
  one_taken : InRange defaults
  one_shows : (standing raised).control.volume ≡ 20
  other_shows : (standing unraised).control.volume ≡ 10

open_volume : Open
unfolding listed within_of minus less at_most magnitude_of Decibel.level_of dbfs frame_record metrics_over partial_metrics sum mean largest drop_by adaptive_drop estimate_tree push_each frame_fits estimated after called aggregate_of count_of clipped_in total most_clipped clipped_ratio_of defaults settings_from settings_of with_applied_input_volumes lowest_of each_given numbers_of initialize lower_channels analyze_input_audio of_int of_bits add mul div lt le
open_volume = record {
  agree = record { in_settings = λ h. (refl, refl); in_one_channel = λ h. refl; in_rings = λ h. refl; in_since_clipping = λ h. refl; in_pending_volume = λ h. refl };
  one_taken = refl;
  one_shows = refl;
  other_shows = refl;
}

volume_is_open : VolumeIsOpen
volume_is_open = record {
  two = record { one = raised; other = unraised; one_taken = by_default defaults _ open_volume.one_taken; other_taken = by_default defaults _ open_volume.one_taken };
  even = (even_of_one raised.calls, even_of_one unraised.calls);
  agree = λ same. agreed Never raised unraised open_volume.agree same (λ none. none);
  apart = λ e. omega (arith, e, open_volume.one_shows, open_volume.other_shows);
}

-- ---- sets of unequal volumes

-- controllers of two channels, and frames of one sample for each
abbrev of_two : List Call → History
of_two calls = record { predictor = predictor_settings (settings_from defaults).predicts; settings = settings_from defaults; channels = 2; calls = calls }

abbrev still_at : ℕ → ℕ → Call
still_at one other = frame plain_limits (pos one ∷ pos other ∷ []) 1 (plus_zero ∷ plus_zero ∷ [])

abbrev clipped_at : ℕ → Call
clipped_at volume = frame plain_limits (pos volume ∷ pos volume ∷ []) 1 (fin false 32767 (pos 0) ∷ fin false 32767 (pos 0) ∷ [])

-- A recommendation has left each channel the volume that it had. A clipped frame at 100 lowers a channel that was left 100, but not one that was left 50: there the volume is taken as the user's.
abbrev uneven : History
uneven = of_two (still_at 50 100 ∷ silent ∷ [])

abbrev even : History
even = of_two (still_at 50 50 ∷ silent ∷ [])

record Uneven : Type 0 where
  agree : Facts Never uneven even
  in_range : InRange defaults
  two_channels : within_of 1 max_channels (pos 2) ≡ Some 2
  one_shows : shown uneven (clipped_at 100 ∷ silent ∷ []) ≡ 85
  other_shows : shown even (clipped_at 100 ∷ silent ∷ []) ≡ 100

uneven_apart : Uneven
unfolding said_by last_in shown listed within_of minus less at_most within magnitude_of Decibel.level_of dbfs gain walk frame_record metrics_over partial_metrics sum mean largest drop_by adaptive_drop estimate_tree push_each frame_fits estimated after answers called aggregate_of count_of clipped_in total most_clipped clipped_ratio_of rms_error_of is_users defaults settings_from settings_of with_applied_input_volumes lowest_of each_given numbers_of initialize lower_channels analyze_input_audio recommend_input_volume of_int of_bits add mul div lt le
uneven_apart = record {
  agree = record { in_settings = λ h. (refl, refl); in_one_channel = λ h. refl; in_rings = λ h. refl; in_since_clipping = λ h. refl; in_pending_volume = λ h. refl };
  in_range = refl;
  two_channels = refl;
  one_shows = refl;
  other_shows = refl;
}

taken_two : (calls : List Call) → Taken (of_two calls)
taken_two calls = record {
  config = defaults;
  predictor = base_predictor;
  made = taken_of 2 defaults base_predictor (settings_from defaults) _ uneven_apart.two_channels uneven_apart.in_range (base_checked (settings_from defaults).predicts);
}

even_is_needed : EvenIsNeeded
unfolding shown
even_is_needed = record {
  two = record { one = uneven; other = even; one_taken = taken_two _; other_taken = taken_two _ };
  even = (λ t. record { volume = pos 50; equal = refl }, (tt, tt));
  agree = λ same. agreed Never uneven even uneven_apart.agree same (λ none. none);
  apart = λ alike. let e = sym uneven_apart.one_shows ∙ ap (last_in 256) (alike (clipped_at 100 ∷ silent ∷ [])) ∙ uneven_apart.other_shows in omega (arith, e);
}

-- THE CLAIM
pub depends_on_each : DependsOnEach
depends_on_each = record { needed = needed; volume_is_open = volume_is_open; even_is_needed = even_is_needed }
