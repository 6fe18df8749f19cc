-- No call reads the counts of clipped samples, and how large counts and totals can be. Assumes nothing.
use mathlib.Core.Path.{◌≡◌, refl, sym, ap, subst, ◌∙◌}
use mathlib.Core.Bool.{Bool, true, false, ◌||◌, ◌&&◌}
use mathlib.Core.List.{List, [], ◌∷◌, map}
use Prim.Native.Nat.{ℕ, ◌+◌, ◌≤◌, max}
use native.Mathlib.Omega.{arith}
use borrow.Author.Tests.{leb-true}
use lib.Dec.{leb, ltb}
use lib.IntN.{ℤ, pos, negsuc}
use lib.Ieee.{Float, lt}
use lib.ListN.{length, take, drop, length-take}
use Rattle.std.specs.Prelude.{Err, None, Ok, Option, Result, Some}
use Rattle.numbers.specs.declared.refusal.Refusal.{Refusal}
use Rattle.numbers.proofs.Truths.{both_true}
use Rattle.clipping_predictor_level_buffer.specs.declared.level.Level.{Level}
use Rattle.clipping_predictor_level_buffer.specs.Level.{frame_record}
use Rattle.clipping_predictor_level_buffer.specs.Ring.{Counted}
use Rattle.clipping_predictor_level_buffer.specs.Metrics.{clipped_of, metrics_over, found_if, metrics_if, partial_metrics, compute_partial_metrics}
use Rattle.clipping_predictor_level_buffer.proofs.Clipped.{clipped_most}
use Rattle.clipping_predictor_level_buffer.proofs.Counts.{counted_take}
use Rattle.clipping_predictor_level_buffer.proofs.Sums.{later_counted, total_most}
use Rattle.clipping_predictor.specs.declared.modes.Estimated.{Estimated}
use Rattle.clipping_predictor.specs.Predictor.{Predictor}
use Rattle.clipping_predictor.specs.AllRings.{predicted_by}
use Rattle.input_volume_controller.specs.ClippedRatio.{clipped_ratio_of}
use Rattle.input_volume_controller.specs.Volumes.{numbers_of, numbers_in}
use Rattle.input_volume_controller.specs.Control.{Control}
use Rattle.input_volume_controller.specs.ControlCalls.{lower_channels}
use Rattle.input_volume_controller.specs.Controller.{Controller}
use Rattle.input_volume_controller.specs.Reply.{Stepped}
use Rattle.input_volume_controller.specs.Frame.{asked_of, handle_if, handled, unless_waiting, if_used, with_volumes_applied, frame_outcome, unless_refused, analyze_input_audio}
use Rattle.input_volume_controller.specs.Recommendation.{recommend_if, unless_none, recommend_input_volume}
use Rattle.input_volume_controller.specs.Calls.{Call, frame, recommendation, initialise, capture_switch, step, answers}
use Rattle.claims.specs.Counts.{uncounted_in, heard_uncounted, AlikeUncounted, CountsAreUnread, CountsWithin}
use Rattle.claims.proofs.Run.{runs_are_runs}
use Rattle.claims.proofs.Uncounted.{uncounted_predictor, predicted_uncounted, twice, entered_uncounted, emptied_uncounted}

-- ---- one call

-- two steps that are equal but for the counts
record EqualUncounted (a b : Stepped) : Type 0 where
  reply : a.reply ≡ b.reply
  state : uncounted_in a.state ≡ uncounted_in b.state

-- a function that does so with a controller without its counts does so with any two that are equal but for them
alike : (f : Controller → Stepped) → ((c : Controller) → EqualUncounted (f (uncounted_in c)) (f c)) → (a b : Controller) → uncounted_in a ≡ uncounted_in b → EqualUncounted (f a) (f b)
alike f blind a b e =
    let x = blind a in
    let y = blind b in
    record {
      reply = sym x.reply ∙ ap (λ (c : Controller). (f c).reply) e ∙ y.reply;
      state = sym x.state ∙ ap (λ (c : Controller). uncounted_in (f c).state) e ∙ y.state;
    }

-- whatever becomes of the control, the predictor stays
again : (k : Control) (p : Predictor) → uncounted_in (record { control = k; predictor = uncounted_predictor p }) ≡ uncounted_in (record { control = k; predictor = p })
again k p = λ i. record { control = k; predictor = record { settings = p.settings; rings = twice p.rings i } }

handle_blind : (t : Bool) (by : ℕ) (c : Controller) → uncounted_in (handle_if t by (uncounted_in c)) ≡ uncounted_in (handle_if t by c)
handle_blind true by c = λ i. uncounted_in (record { control = lower_channels by c.control; predictor = emptied_uncounted c.predictor i })
handle_blind false by c = again c.control c.predictor

handled_blind : (clipped : Bool) (e : Estimated) (c : Controller) → EqualUncounted (handled clipped e (uncounted_in c)) (handled clipped e c)
handled_blind clipped e c = record { reply = refl; state = handle_blind (clipped || ltb 0 e.drop) (max c.control.settings.step e.drop) c }

waiting_blind : (t clipped : Bool) (c : Controller) → EqualUncounted (unless_waiting t clipped (uncounted_in c)) (unless_waiting t clipped c)
waiting_blind true clipped c = record { reply = refl; state = again _ c.predictor }
waiting_blind false clipped c =
    subst (λ (e : Estimated). EqualUncounted (handled clipped e (uncounted_in c)) (handled clipped (predicted_by (asked_of c.control) c.predictor) c)) (sym (predicted_uncounted (asked_of c.control) c.predictor))
    (handled_blind clipped (predicted_by (asked_of c.control) c.predictor) c)

used_blind : (t : Bool) (samples : ℕ) (lent : List Float) (c : Controller) → EqualUncounted (if_used t samples lent (uncounted_in c)) (if_used t samples lent c)
used_blind true samples lent c =
    let waiting = ltb c.control.since c.control.settings.clipped_wait in
    let clipped = lt c.control.settings.clipped_ratio (clipped_ratio_of (length c.control.channels) samples lent) in
    alike (unless_waiting waiting clipped) (waiting_blind waiting clipped) _ _ (λ i. record { control = c.control; predictor = entered_uncounted samples lent c.predictor i })
used_blind false samples lent c = record { reply = refl; state = again c.control c.predictor }

frame_blind : (o : Result (Unit {0}) Refusal) (volumes : List ℕ) (samples : ℕ) (lent : List Float) (c : Controller)
    → EqualUncounted (unless_refused o volumes samples lent (uncounted_in c)) (unless_refused o volumes samples lent c)
frame_blind (Err cause) volumes samples lent c = record { reply = refl; state = again c.control c.predictor }
frame_blind (Ok tt) volumes samples lent c = used_blind c.control.used samples lent (with_volumes_applied volumes c)

recommended_blind : (used : Bool) (applied : ℕ) (probability : Float) (level : Option Float) (c : Controller) → EqualUncounted (recommend_if used applied probability level (uncounted_in c)) (recommend_if used applied probability level c)
recommended_blind true applied probability level c = record { reply = refl; state = again _ c.predictor }
recommended_blind false applied probability level c = record { reply = refl; state = again _ c.predictor }

asked_blind : (a : Option ℕ) (probability : Float) (level : Option Float) (c : Controller) → EqualUncounted (unless_none a probability level (uncounted_in c)) (unless_none a probability level c)
asked_blind None probability level c = record { reply = refl; state = again c.control c.predictor }
asked_blind (Some applied) probability level c = recommended_blind c.control.used applied probability level c

step_blind : (call : Call) (c : Controller) → EqualUncounted (step (uncounted_in c) call) (step c call)
unfolding analyze_input_audio recommend_input_volume
step_blind (frame most volumes samples lent) c = frame_blind (frame_outcome most (length c.control.channels) volumes samples lent) (numbers_in (numbers_of volumes)) samples lent c
step_blind (recommendation probability level) c = asked_blind c.control.applied probability level c
step_blind initialise c = record { reply = refl; state = again _ c.predictor }
step_blind (capture_switch on) c = record { reply = refl; state = again _ c.predictor }

-- ---- all calls

unread : (a b : Controller) (calls : List Call) → uncounted_in a ≡ uncounted_in b → AlikeUncounted (answers a calls) (answers b calls)
unfolding answers
unread a b [] e = refl
unread a b (call ∷ calls) e =
    let s = alike (λ c. step c call) (step_blind call) a b e in
    let rest = unread (step a call).state (step b call).state calls s.state in
    λ i. record { reply = s.reply i; volume = (s.state i).control.volume; stored = (s.state i).predictor.rings } ∷ rest i

-- THE CLAIM
pub counts_are_unread : CountsAreUnread
counts_are_unread = record {
  definition = unread;
  code = λ a b good fine same calls one other c d r t.
      ap (map heard_uncounted) (runs_are_runs a calls one c good r).answered ∙ unread _ _ calls same ∙ sym (ap (map heard_uncounted) (runs_are_runs b calls other d fine t).answered);
}

-- ---- how large

metrics_most : (capacity delay n : ℕ) (records : List Level) (a b : Bool) (m : Level) → capacity ≤ 64 → Counted records → (leb 1 n && leb (delay + n) capacity) ≡ a → metrics_if a (found_if b (take n (drop delay records))) ≡ Ok (Some m) → m.clipped ≤ 30720
unfolding metrics_over
metrics_most capacity delay n records true true m high k t e =
    let items = take n (drop delay records) in
    let h = total_most items (counted_take n (drop delay records) (later_counted delay records k)) in
    let l = length-take n (drop delay records) in
    let r = (both_true (leb 1 n) (leb (delay + n) capacity) t).1 in
    let is : metrics_over items ≡ m = cc in
    omega (arith, h, l, leb-true (delay + n) capacity r, high, ap clipped_of is)
metrics_most capacity delay n records true false m high k t e = let z : ◌≡◌ {A = ℕ} 0 1 = cc in absurd (omega arith)
metrics_most capacity delay n records false b m high k t e = let z : ◌≡◌ {A = ℕ} 0 1 = cc in absurd (omega arith)

totals : (capacity : ℕ) (records : List Level) (delay items : ℤ) (m : Level) → capacity ≤ 64 → Counted records → compute_partial_metrics capacity records delay items ≡ Ok (Some m) → m.clipped ≤ 30720
unfolding compute_partial_metrics partial_metrics
totals capacity records (pos delay) (pos n) m high k e = metrics_most capacity delay n records _ (leb (delay + n) (length records)) m high k refl e
totals capacity records (pos delay) (negsuc n) m high k e = let z : ◌≡◌ {A = ℕ} 0 1 = cc in absurd (omega arith)
totals capacity records (negsuc delay) n m high k e = let z : ◌≡◌ {A = ℕ} 0 1 = cc in absurd (omega arith)

-- THE CLAIM
pub counts_within : CountsWithin
unfolding frame_record
counts_within = record {
  frames = clipped_most;
  totals = λ r delay items m good e. totals r.capacity _ delay items m good.high good.counted e;
}
