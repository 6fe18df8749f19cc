-- Marks are those of document 02 (iii): of an estimate by its drop or none, of a frame by the state that it returns. Assumes nothing.
use mathlib.Core.Path.{◌≡◌, refl, sym, ap, ◌∙◌, subst}
use mathlib.Core.Logic.{◌↔◌}
use mathlib.Core.Bool.{Bool, true, false}
use mathlib.Core.List.{List, [], ◌∷◌, map, foldl}
use Prim.Native.Nat.{ℕ, max}
use lib.Dec.{T, ltb}
use lib.IntN.{pos}
use lib.Ieee.{Float, lt, le, add, mul, div, of_int, of_bits}
use lib.ListN.{length}
use Rattle.std.specs.Prelude.{None, Ok, Option, Result, Some}
use Rattle.numbers.specs.declared.refusal.Refusal.{Refusal}
use Rattle.numbers.specs.First.{first}
use Rattle.numbers.specs.Listed.{listed}
use Rattle.numbers.specs.Natural.{within_of}
use Rattle.numbers.proofs.Signs.{clash}
use Rattle.levels.specs.Decibels.{minus, less, at_most, within}
use Rattle.levels.specs.FloatParts.{magnitude_of}
use Rattle.levels.specs.Level as Decibel
use Rattle.levels.specs.Level.{dbfs}
use Rattle.gain_map.specs.GainMap.{gain}
use Rattle.gain_map.specs.VolumeUpdate.{walk}
use Rattle.clipping_predictor_level_buffer.specs.declared.level.Level.{Level}
use Rattle.clipping_predictor_level_buffer.specs.Level.{frame_record}
use Rattle.clipping_predictor_level_buffer.specs.Metrics.{metrics_over, partial_metrics}
use Rattle.clipping_predictor_level_buffer.specs.Statistics.{sum, mean, largest}
use Rattle.clipping_predictor.specs.declared.settings.Settings.{Settings}
use Rattle.clipping_predictor.specs.declared.modes.Asked.{Asked}
use Rattle.clipping_predictor.specs.Turned.{Each, estimated, is_near}
use Rattle.clipping_predictor.specs.Estimate.{drop_by, adaptive_drop, estimate_tree}
use Rattle.clipping_predictor.specs.Predictor.{Predictor, push_each, frame_fits, entered_if}
use Rattle.clipping_predictor.specs.AllRings.{predicted_by}
use Rattle.clipping_predictor.proofs.Turns.{turned_spread, spread_as, near_exactly}
use Rattle.mono_input_volume_controller.specs.Mono.{is_users, with_input_volume, handled_clipping}
use Rattle.mono_input_volume_controller.specs.SameVolumes.{same_volumes}
use Rattle.mono_input_volume_controller.specs.Config.{defaults, settings_from}
use Rattle.clipping_predictor_level_buffer.specs.Clipped.{count_of, clipped_in, total}
use Rattle.clipping_predictor.specs.MostClipped.{most_clipped}
use Rattle.input_volume_controller.specs.ClippedRatio.{clipped_ratio_of}
use Rattle.input_volume_controller.specs.declared.limits.Limits.{Limits}
use Rattle.input_volume_controller.specs.Volumes.{numbers_of, numbers_in, lowest_of}
use Rattle.input_volume_controller.specs.Channels.{called, each_given, aggregate_of}
use Rattle.input_volume_controller.specs.ControlCalls.{with_applied_input_volumes, lower_channels}
use Rattle.input_volume_controller.specs.Controller.{Controller}
use Rattle.input_volume_controller.specs.Differ.{other_volumes, lower_differently, differ}
use Rattle.input_volume_controller.specs.Reply.{Reply, mark, refusal, volume, none, done, Stepped}
use Rattle.input_volume_controller.specs.Frame.{asked_of, returned_by, unless_waiting_by, if_used_by, unless_refused_by, unless_waiting, if_used, unless_refused, with_volumes_applied, frame_outcome, analyze_input_audio}
use Rattle.input_volume_controller.specs.Recommendation.{recommend_if, unless_none, recommend_input_volume}
use Rattle.input_volume_controller.specs.Calls.{after, step, frame, recommendation}
use Rattle.input_volume_controller.proofs.SetNumbers.{numbers_back}
use Rattle.input_volume_controller.proofs.Marks.{is_mark_lem, handled_marked}
use Rattle.claims.specs.Past.{is_accepted}
use Rattle.claims.specs.Marked.{MayEstimate, EstimateMatters, predicted_as, frame_with, FrameMatters, reply_after, reply_to_silence, MarkedExactly}
use Rattle.claims.proofs.Outcomes.{outcome_is, accepted_as}
use Rattle.claims.proofs.MayEstimate.{may_same}

-- ---- an estimate

estimate_marked : (s : Settings) (records : List Level) (a : Asked) → (is_near (estimated (estimate_tree s records a)) ≡ true) ↔ EstimateMatters s records a (estimated (estimate_tree s records a)).drop
estimate_marked s records a = let same = may_same s records a in near_exactly (estimated (estimate_tree s records a)) (spread_as same.to same.from (turned_spread (estimate_tree s records a)))

-- ---- a frame

each_as : {A : Type 0} {R S : A → ℕ → Type 0} → ((x : A) (v : ℕ) → R x v → S x v) → (xs : List A) (ds : List ℕ) → Each R xs ds → Each S xs ds
unfolding Each
each_as f [] [] e = tt
each_as f [] (d ∷ ds) e = absurd e
each_as f (x ∷ xs) [] e = absurd e
each_as f (x ∷ xs) (d ∷ ds) e = (f x d e.0, each_as f xs ds e.1)

-- drops that the estimates of all rings may have
abbrev MayPredict : Asked → Predictor → List ℕ → Type 0
MayPredict a p drops = Each (λ (records : List Level). MayEstimate p.settings records a) p.rings drops

-- s is marked exactly if some drops that may be lead to another state
record MarkedIf (s : Stepped) (May : List ℕ → Type 0) (other : List ℕ → Stepped) : Type 0 where
  near : Bool
  is : s.reply ≡ mark near
  changes : s.reply ≡ mark true → (drops : List ℕ) × May drops × ((other drops).state ≡ s.state → ⊥)
  marked : (drops : List ℕ) → May drops → ((other drops).state ≡ s.state → ⊥) → s.reply ≡ mark true

-- a state that no estimate enters
unmarked : (s : Stepped) (May : List ℕ → Type 0) (other : List ℕ → Stepped) → s.reply ≡ mark false → ((drops : List ℕ) → (other drops).state ≡ s.state) → MarkedIf s May other
unmarked s May other e f = record { near = false; is = e; changes = λ m. clash (is_mark_lem true false (sym m ∙ e)); marked = λ drops m k. absurd (k (f drops)) }

waiting_marked : (waits clipped : Bool) (c : Controller) → MarkedIf (unless_waiting waits clipped c) (MayPredict (asked_of c.control) c.predictor) (λ (drops : List ℕ). unless_waiting_by (predicted_as drops) waits clipped c)
waiting_marked true clipped c = unmarked (unless_waiting true clipped c) _ _ refl (λ drops. refl)
waiting_marked false clipped c =
    let a = asked_of c.control in
    let p = c.predictor in
    let exactly = handled_marked clipped c in
    record {
      near = differ clipped c.control (predicted_by a p).low (predicted_by a p).high;
      is = refl;
      changes = λ m.
          let k = exactly.0 m in
          let r = k.reached in
          let joins : foldl max 0 r.drops ≡ k.other = ap (λ (n : ℕ). foldl max n r.drops) r.is_first ∙ r.is in
          (r.drops, each_as (λ records v t. (may_same p.settings records a).to v t) p.rings r.drops r.each, λ e. k.differs (ap (λ (n : ℕ). returned_by clipped n c) (sym joins) ∙ e));
      marked = λ drops m k.
          exactly.1
          (record { other = foldl max 0 drops; reached = record { first = 0; is_first = refl; drops = drops; each = each_as (λ records v t. (may_same p.settings records a).from v t) p.rings drops m; is = refl }; differs = k });
    }

used_marked : (used : Bool) (samples : ℕ) (lent : List Float) (c : Controller)
    → MarkedIf (if_used used samples lent c) (MayPredict (asked_of c.control) (entered_if true samples lent c.predictor)) (λ (drops : List ℕ). if_used_by (predicted_as drops) used samples lent c)
used_marked true samples lent c =
    waiting_marked (ltb c.control.since c.control.settings.clipped_wait) (lt c.control.settings.clipped_ratio (clipped_ratio_of (length c.control.channels) samples lent))
    (record { control = c.control; predictor = entered_if true samples lent c.predictor })
used_marked false samples lent c = unmarked (if_used false samples lent c) _ _ refl (λ drops. refl)

module _ (most : Limits) (volumes : List ℕ) (samples : ℕ) (lent : List Float) (c : Controller) where
  abbrev May : List ℕ → Type 0
  May = MayPredict (asked_of (with_applied_input_volumes volumes c.control)) (entered_if true samples lent c.predictor)

  -- by a frame's tests
  abbrev MarkedBy : Result (Unit {0}) Refusal → List ℕ → Type 0
  MarkedBy o v = MarkedIf (unless_refused o v samples lent c) May (λ (drops : List ℕ). unless_refused_by (predicted_as drops) o v samples lent c)

  accepted_marked : (o : Result (Unit {0}) Refusal) (v : List ℕ) → o ≡ Ok tt → v ≡ volumes → MarkedBy o v
  accepted_marked o v a e =
      subst (λ (o : Result (Unit {0}) Refusal). MarkedBy o v) (sym a) (subst (λ (v : List ℕ). MarkedBy (Ok tt) v) (sym e) (used_marked c.control.used samples lent (with_volumes_applied volumes c)))

  frame_marked : T (is_accepted most (length c.control.channels) (map pos volumes) samples lent)
      → MarkedIf (step c (frame most (map pos volumes) samples lent)) May (λ (drops : List ℕ). frame_with drops most (map pos volumes) samples lent c)
  unfolding analyze_input_audio
  frame_marked t =
      let n = length c.control.channels in
      let a = accepted_as most (map pos volumes) samples lent n t in
      accepted_marked (frame_outcome most n (map pos volumes) samples lent) (numbers_in (numbers_of (map pos volumes))) (outcome_is most (map pos volumes) samples lent {n = n} refl t)
      (ap numbers_in a.numbers ∙ numbers_back volumes)

  frames_marked : T (is_accepted most (length c.control.channels) (map pos volumes) samples lent)
      → ((step c (frame most (map pos volumes) samples lent)).reply ≡ mark true) ↔ FrameMatters c most volumes samples lent
  frames_marked t =
      let m = frame_marked t in (
        λ e. let k = m.changes e in record { drops = k.0; may = k.1; changes = k.2 },
        λ k. m.marked k.drops k.may k.changes,
      )

-- ---- recommendations

is_mark : Reply → Bool
is_mark (mark near) = true
is_mark (refusal number) = false
is_mark (volume v) = false
is_mark none = false
is_mark done = false

recommended_if : (used : Bool) (applied : ℕ) (probability : Float) (level : Option Float) (c : Controller) → is_mark (recommend_if used applied probability level c).reply ≡ false
unfolding is_mark
recommended_if true applied probability level c = refl
recommended_if false applied probability level c = refl

recommended_unmarked : (applied : Option ℕ) (probability : Float) (level : Option Float) (c : Controller) → is_mark (unless_none applied probability level c).reply ≡ false
unfolding is_mark
recommended_unmarked None probability level c = refl
recommended_unmarked (Some applied) probability level c = recommended_if c.control.used applied probability level c

never_marked : (c : Controller) (probability : Float) (level : Option Float) (near : Bool) → (step c (recommendation probability level)).reply ≡ mark near → ⊥
unfolding is_mark recommend_input_volume
never_marked c probability level near e = clash (sym (ap is_mark e) ∙ recommended_unmarked c.control.applied probability level c)

-- ---- six frames

record Shown : Type 0 where
  at_six : reply_after 9 29226 ≡ mark true
  at_seven : reply_after 9 29229 ≡ mark false
  missing : reply_after 8 29226 ≡ mark false
  alike : reply_after 9 32766 ≡ mark false
  both : reply_to_silence (pos 5) ≡ mark true
  alone : reply_to_silence (pos 500) ≡ mark false

computed : Shown
unfolding listed within_of minus less at_most within magnitude_of Decibel.level_of dbfs gain walk first frame_record metrics_over partial_metrics sum mean largest drop_by adaptive_drop estimate_tree push_each frame_fits estimated lower_differently differ other_volumes same_volumes is_users with_input_volume handled_clipping after called aggregate_of count_of clipped_in total most_clipped clipped_ratio_of defaults settings_from with_applied_input_volumes lowest_of each_given numbers_of lower_channels analyze_input_audio of_int of_bits add mul div lt le
computed = record { at_six = refl; at_seven = refl; missing = refl; alike = refl; both = refl; alone = refl }

-- THE CLAIM
pub marked_exactly : MarkedExactly
marked_exactly = record {
  estimate = estimate_marked;
  frames = λ c most volumes samples lent t. frames_marked most volumes samples lent c t;
  answered = λ c most volumes samples lent t. let m = frame_marked most volumes samples lent c t in (m.near, m.is);
  recommendations = never_marked;
  one_marked = computed.at_six;
  one_unmarked = computed.at_seven;
  one_missing = computed.missing;
  one_alike = computed.alike;
  two_turns = computed.both;
  one_turn_alone = computed.alone;
}
