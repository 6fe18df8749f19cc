-- A clipped frame moves a channel to 15, below the minimum, with plain settings, and to the minimum itself at the classroom's edge; the default settings are the classroom's. Assumes nothing.
use mathlib.Core.Path.{◌≡◌, refl, sym, ap, subst, ◌∙◌}
use mathlib.Core.Bool.{Bool, true, false}
use mathlib.Core.List.{List, [], ◌∷◌}
use Prim.Native.Nat.{ℕ}
use native.Mathlib.Omega.{arith}
use lib.Dec.{T}
use lib.IntN.{pos}
use lib.Signed.{◌≤ℤ◌}
use lib.Ieee.{fin, add, mul, div, lt, le, of_int, of_bits}
use lib.ListN.{length}
use Rattle.std.specs.Prelude.{None, Ok}
use Rattle.numbers.specs.Listed.{listed}
use Rattle.numbers.specs.Natural.{within_of}
use Rattle.levels.specs.Decibels.{minus, less, at_most, within}
use Rattle.levels.specs.FloatParts.{magnitude_of}
use Rattle.levels.specs.Level as Decibel
use Rattle.levels.specs.Level.{dbfs}
use Rattle.gain_map.specs.GainMap.{gain}
use Rattle.gain_map.specs.VolumeUpdate.{walk}
use Rattle.clipping_predictor_level_buffer.specs.Level.{frame_record}
use Rattle.clipping_predictor_level_buffer.specs.Metrics.{metrics_over, partial_metrics}
use Rattle.clipping_predictor_level_buffer.specs.Statistics.{plus_zero, sum, mean, largest}
use Rattle.clipping_predictor_level_buffer.specs.Clipped.{count_of, clipped_in, total}
use Rattle.clipping_predictor.specs.Turned.{estimated}
use Rattle.clipping_predictor.specs.Estimate.{drop_by, adaptive_drop, estimate_tree}
use Rattle.clipping_predictor.specs.Predictor.{push_each, frame_fits}
use Rattle.clipping_predictor.specs.MostClipped.{most_clipped}
use Rattle.mono_input_volume_controller.specs.declared.config.Settings.{Settings}
use Rattle.mono_input_volume_controller.specs.declared.profile.Profile.{Profile}
use Rattle.mono_input_volume_controller.specs.declared.profile.Profile.TheVariants.{Plain, Classroom}
use Rattle.mono_input_volume_controller.specs.SpeechLevel.{rms_error_of}
use Rattle.mono_input_volume_controller.specs.Mono.{is_users}
use Rattle.mono_input_volume_controller.specs.Config.{defaults, settings_from, settings_of}
use Rattle.mono_input_volume_controller.specs.Profile.{classroom_conditions, all_hold, takes}
use Rattle.input_volume_controller.specs.ClippedRatio.{clipped_ratio_of}
use Rattle.input_volume_controller.specs.Channels.{called, each_given, aggregate_of}
use Rattle.input_volume_controller.specs.Volumes.{numbers_of, lowest_of}
use Rattle.input_volume_controller.specs.Limits.{plain_limits}
use Rattle.input_volume_controller.specs.Control.{Control}
use Rattle.input_volume_controller.specs.ControlCalls.{with_applied_input_volumes, lower_channels}
use Rattle.input_volume_controller.specs.Controller.{Controller, base_predictor, fresh, Making, making_with}
use Rattle.input_volume_controller.specs.Profile.{within_profile, making_in}
use Rattle.input_volume_controller.specs.Frame.{analyze_input_audio}
use Rattle.input_volume_controller.specs.Recommendation.{recommend_input_volume}
use Rattle.input_volume_controller.specs.Calls.{Call, recommendation, step, after}
use Rattle.input_volume_controller.proofs.Built.{base_checked, within_count}
use Rattle.claims.specs.Past.{is_accepted}
use Rattle.claims.specs.Controlling.{volume_of}
use Rattle.claims.specs.Classroom.{level_at, MovedTo, ClassroomIsNeeded}
use Rattle.claims.proofs.OneSample.{still, clipped}
use Rattle.claims.proofs.Made.{taken_of, taken}

abbrev settings : ℕ → Settings
settings level = settings_from (level_at level)

-- ---- the makings

-- a configuration with the default settings but for its clipped_level_min: the plain making takes it, and whether the classroom's does
record Made (level : ℕ) (inside : Bool) : Type 0 where
  in_order : settings_of (level_at level) ≡ Ok (settings level)
  takes_it : takes Classroom (level_at level) ≡ inside

made_10 : Made 10 false
unfolding defaults settings_of classroom_conditions all_hold of_int of_bits le
made_10 = record { in_order = refl; takes_it = refl }

made_20 : Made 20 true
unfolding defaults settings_of classroom_conditions all_hold of_int of_bits le
made_20 = record { in_order = refl; takes_it = refl }

made_70 : Made 70 true
unfolding defaults settings_of classroom_conditions all_hold of_int of_bits le
made_70 = record { in_order = refl; takes_it = refl }

plain_made : {inside : Bool} (level : ℕ) → Made level inside → making_with (pos 1) (level_at level) base_predictor ≡ record { answer = Ok tt; controller = fresh (settings level) 1 }
plain_made level m = taken (level_at level) base_predictor (settings level) _ m.in_order (base_checked _)

-- ---- the frames

-- the recommendation ends the startup, and takes 30 as the last volume
abbrev past : List Call
past = still 30 ∷ recommendation plus_zero None ∷ []

abbrev left : Controller → Control
left new = (step (after new past) (clipped 30)).state.control

record Computed : Type 0 where
  below : volume_of (left (fresh (settings 10) 1)) 0 ≡ 15
  before : length (after (fresh (settings 10) 1) past).control.channels ≡ 1
  count : length (left (fresh (settings 10) 1)).channels ≡ 1
  at_the_edge : volume_of (left (fresh (settings 20) 1)) 0 ≡ 20
  accepted : T (is_accepted plain_limits 1 (pos 30 ∷ []) 1 (fin false 32767 (pos 0) ∷ []))

computed : Computed
unfolding is_accepted listed within_of minus less at_most within magnitude_of Decibel.level_of dbfs gain walk frame_record metrics_over partial_metrics sum mean largest drop_by adaptive_drop estimate_tree push_each frame_fits estimated after called aggregate_of count_of clipped_in total most_clipped clipped_ratio_of rms_error_of is_users defaults settings_from with_applied_input_volumes lowest_of each_given numbers_of lower_channels analyze_input_audio recommend_input_volume of_int of_bits add mul div lt le
computed = record { below = refl; before = refl; count = refl; at_the_edge = refl; accepted = tt }

moved_to : (profile : Profile) (level own : ℕ) → making_in profile (pos 1) (level_at level) base_predictor ≡ record { answer = Ok tt; controller = fresh (settings level) 1 } → volume_of (left (fresh (settings level) 1)) 0 ≡ own
    → (own ≡ 30 → ⊥) → MovedTo profile (level_at level) own
moved_to profile level own made moved off = record {
  made = ap (λ (m : Making). m.answer) made;
  calls = past;
  most = plain_limits;
  volumes = pos 30 ∷ [];
  samples = 1;
  lent = fin false 32767 (pos 0) ∷ [];
  accepted = computed.accepted;
  moved = ap (λ (m : Making). volume_of (left m.controller) 0) made ∙ moved;
  off = off;
}

below_minimum : pos 20 ≤ℤ pos 15 → ⊥
below_minimum h = h.le

-- THE CLAIM
pub classroom_is_needed : ClassroomIsNeeded
unfolding defaults
classroom_is_needed = record {
  outside = ap (λ (m : Making). (within_profile (takes Classroom (level_at 10)) m).answer) (plain_made 10 made_10) ∙ ap (λ (t : Bool). (within_profile t (record { answer = Ok tt; controller = fresh (settings 10) 1 })).answer) made_10.takes_it;
  below = moved_to Plain 10 15 (plain_made 10 made_10) computed.below (λ e. omega (arith, e));
  refuted = λ never.
      let new = (making_with (pos 1) (level_at 10) base_predictor).controller in
      let own : volume_of (left new) 0 ≡ 15 = ap (λ (m : Making). volume_of (left m.controller) 0) (plain_made 10 made_10) ∙ computed.below in
      let count : length (left new).channels ≡ 1 = ap (λ (m : Making). length (left m.controller).channels) (plain_made 10 made_10) ∙ computed.count in
      let before : length (after new past).control.channels ≡ 1 = ap (λ (m : Making). length (after m.controller past).control.channels) (plain_made 10 made_10) ∙ computed.before in
      let taken-it = subst (λ (n : ℕ). T (is_accepted plain_limits n (pos 30 ∷ []) 1 (fin false 32767 (pos 0) ∷ []))) (sym before) computed.accepted in
      below_minimum (subst (λ (v : ℕ). pos 20 ≤ℤ pos v) own (never past plain_limits (pos 30 ∷ []) 1 (fin false 32767 (pos 0) ∷ []) taken-it 0 (omega (arith, count)) (λ e. omega (arith, e, own))));
  at_the_edge = moved_to Classroom 20 20 (ap (λ (t : Bool). within_profile t (making_with (pos 1) (level_at 20) base_predictor)) made_20.takes_it ∙ plain_made 20 made_20) computed.at_the_edge (λ e. omega (arith, e));
  defaults_in = λ channels low high.
      ap (λ (t : Bool). (within_profile t (making_with (pos channels) defaults base_predictor)).answer) made_70.takes_it
      ∙ ap (λ (m : Making). m.answer) (taken_of channels defaults base_predictor (settings 70) _ (within_count channels low high) made_70.in_order (base_checked _));
}
