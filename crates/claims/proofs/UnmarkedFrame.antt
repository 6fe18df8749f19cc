-- A frame without a mark returns what exact logarithms return, and so does an estimate. Assumes nothing.
use mathlib.Core.Path.{◌≡◌, refl, sym, ap, ◌∙◌, subst}
use mathlib.Core.Bool.{Bool, true, false, ◌||◌}
use mathlib.Core.List.{List, [], ◌∷◌, map}
use Prim.Native.Nat.{ℕ, ◌*◌, max}
use lib.Dec.{T, ltb}
use lib.IntN.{ℤ}
use lib.Ieee.{Float, nan, inf, fin, binary32, fits, lt}
use lib.ListN.{length, drop}
use Rattle.std.specs.Prelude.{Err, Ok, Result}
use Rattle.numbers.specs.declared.refusal.Refusal.{Refusal}
use Rattle.levels.specs.FloatParts.{magnitude_of}
use Rattle.clipping_predictor_level_buffer.specs.declared.level.Level.{Level}
use Rattle.clipping_predictor_level_buffer.specs.Level.{frame_record}
use Rattle.clipping_predictor_level_buffer.specs.Statistics.{plus_zero, largest}
use Rattle.clipping_predictor.specs.declared.settings.Settings.{Settings}
use Rattle.clipping_predictor.specs.declared.modes.Asked.{Asked}
use Rattle.clipping_predictor.specs.Turned.{Turned, Each, estimated}
use Rattle.clipping_predictor.specs.Estimate.{estimate_tree, capacity_of}
use Rattle.clipping_predictor.specs.Predictor.{Predictor, part_of, levels_of, push_each, entered_if}
use Rattle.clipping_predictor.specs.AllRings.{predicted_by}
use Rattle.clipping_predictor.proofs.Turns.{turned_spread, unmarked_only}
use Rattle.input_volume_controller.specs.ClippedRatio.{clipped_ratio_of}
use Rattle.input_volume_controller.specs.declared.limits.Limits.{Limits}
use Rattle.input_volume_controller.specs.Volumes.{numbers_of, numbers_in}
use Rattle.input_volume_controller.specs.Controller.{Controller}
use Rattle.input_volume_controller.specs.Reply.{mark, Stepped}
use Rattle.input_volume_controller.specs.Frame.{asked_of, handle_if, unless_waiting_by, if_used_by, unless_refused_by, unless_waiting, if_used, unless_refused, with_volumes_applied, frame_outcome, analyze_input_audio}
use Rattle.input_volume_controller.proofs.TwoDrops.{same_drop}
use Rattle.input_volume_controller.proofs.Marks.{Comes, handled_unmarked}
use Rattle.claims.specs.Exact.{exact_drop}
use Rattle.claims.specs.Every.{Every}
use Rattle.claims.specs.ExactFrame.{exact_predicted, exact_frame}
use Rattle.claims.specs.Unmarked.{PeakFits, UnmarkedIsExact}
use Rattle.claims.specs.ExactRun.{NotNear}
use Rattle.claims.proofs.Every.{every_drop, every_take, every_from, every_listed, every_map}
use Rattle.claims.proofs.Unmarked.{fold_fits, zero_fits, exact_turned}
use Rattle.claims.proofs.MayEstimate.{may_same}

-- ---- all rings of a predictor: the exact drops are a choice of what their estimates can come to

each_exact : (s : Settings) (a : Asked) (rings : List (List Level)) → Every (Every PeakFits) rings
    → Each (λ (records : List Level). Turned (estimate_tree s records a)) rings (map (λ (records : List Level). exact_drop s records a) rings)
unfolding Each
each_exact s a [] f = tt
each_exact s a (r ∷ rings) f = (exact_turned s r a f.0, each_exact s a rings f.1)

exact_comes : (a : Asked) (p : Predictor) → Every (Every PeakFits) p.rings → Comes a p (exact_predicted a p).drop
unfolding exact_predicted
exact_comes a p f = record { first = 0; is_first = refl; drops = map (λ (records : List Level). exact_drop p.settings records a) p.rings; each = each_exact p.settings a p.rings f; is = refl }

-- ---- the rings hold 32-bit floats

magnitude_fits : (x : Float) → T (fits binary32 x) → T (fits binary32 (magnitude_of x))
unfolding magnitude_of fits
magnitude_fits nan f = f
magnitude_fits (inf s) f = f
magnitude_fits (fin s m e) f = f

magnitudes_fit : (xs : List Float) → Every (λ (x : Float). T (fits binary32 x)) xs → Every (λ (x : Float). T (fits binary32 x)) (map magnitude_of xs)
magnitudes_fit [] f = tt
magnitudes_fit (x ∷ xs) f = (magnitude_fits x f.0, magnitudes_fit xs f.1)

level_fits : (xs : List Float) → Every (λ (x : Float). T (fits binary32 x)) xs → PeakFits (frame_record xs)
unfolding frame_record largest
level_fits xs f = fold_fits (map magnitude_of xs) plus_zero zero_fits (magnitudes_fit xs f)

levels_fit : (channels samples : ℕ) (lent : List Float) → Every (λ (x : Float). T (fits binary32 x)) lent → Every PeakFits (levels_of channels samples lent)
levels_fit channels samples lent f =
    every_listed PeakFits (λ c. frame_record (part_of samples lent c)) channels
    (λ c h. level_fits (part_of samples lent c) (every_take (λ (x : Float). T (fits binary32 x)) samples (drop (c * samples) lent) (every_drop (λ (x : Float). T (fits binary32 x)) (c * samples) lent f)))

push_fits : (capacity : ℕ) (levels : List Level) (rings : List (List Level)) → Every PeakFits levels → Every (Every PeakFits) rings → Every (Every PeakFits) (push_each capacity levels rings)
unfolding push_each
push_fits capacity levels [] f g = tt
push_fits capacity [] (r ∷ rings) f g = g
push_fits capacity (l ∷ levels) (r ∷ rings) f g = (every_take PeakFits capacity (l ∷ r) (f.0, g.0), push_fits capacity levels rings f.1 g.1)

entered_fits : (samples : ℕ) (lent : List Float) (p : Predictor) → Every (λ (x : Float). T (fits binary32 x)) lent → Every (Every PeakFits) p.rings → Every (Every PeakFits) (entered_if true samples lent p).rings
entered_fits samples lent p f g = push_fits (capacity_of p.settings) (levels_of (length p.rings) samples lent) p.rings (levels_fit (length p.rings) samples lent f) g

-- ---- one frame: what it hands back has such rings, and is what exact logarithms lead to

pub record Exactly (s t : Stepped) : Type 0 where
  pub fit : Every (Every PeakFits) s.state.predictor.rings
  pub same : NotNear s.reply → s ≡ t

handle_fits : (t : Bool) (by : ℕ) (c : Controller) → Every (Every PeakFits) c.predictor.rings → Every (Every PeakFits) (handle_if t by c).predictor.rings
handle_fits true by c f = every_map (Every PeakFits) (Every PeakFits) (λ (r : List Level). []) c.predictor.rings (λ r h. tt) f
handle_fits false by c f = f

waiting_exact : (waits clipped : Bool) (c : Controller) → Every (Every PeakFits) c.predictor.rings → Exactly (unless_waiting waits clipped c) (unless_waiting_by exact_predicted waits clipped c)
unfolding exact_predicted
waiting_exact true clipped c f = record { fit = f; same = λ m. refl }
waiting_exact false clipped c f =
    let e = predicted_by (asked_of c.control) c.predictor in
    let exact = (exact_predicted (asked_of c.control) c.predictor).drop in
    record {
      fit = handle_fits (clipped || ltb 0 e.drop) (max c.control.settings.step e.drop) c f;
      same = λ m. λ i. record {
        reply = mark ((m ∙ same_drop clipped c.control exact exact refl) i);
        state = sym (handled_unmarked clipped c (ap mark m) exact (exact_comes (asked_of c.control) c.predictor f)) i;
      };
    }

used_exact : (used : Bool) (samples : ℕ) (lent : List Float) (c : Controller) → Every (λ (x : Float). T (fits binary32 x)) lent → Every (Every PeakFits) c.predictor.rings
    → Exactly (if_used used samples lent c) (if_used_by exact_predicted used samples lent c)
used_exact true samples lent c f g =
    waiting_exact (ltb c.control.since c.control.settings.clipped_wait) (lt c.control.settings.clipped_ratio (clipped_ratio_of (length c.control.channels) samples lent))
    (record { control = c.control; predictor = entered_if true samples lent c.predictor }) (entered_fits samples lent c.predictor f g)
used_exact false samples lent c f g = record { fit = g; same = λ m. refl }

refused_exact : (o : Result (Unit {0}) Refusal) (volumes : List ℕ) (samples : ℕ) (lent : List Float) (c : Controller) → Every (λ (x : Float). T (fits binary32 x)) lent → Every (Every PeakFits) c.predictor.rings
    → Exactly (unless_refused o volumes samples lent c) (unless_refused_by exact_predicted o volumes samples lent c)
refused_exact (Err cause) volumes samples lent c f g = record { fit = g; same = λ m. refl }
refused_exact (Ok tt) volumes samples lent c f g = used_exact c.control.used samples lent (with_volumes_applied volumes c) f g

pub frame_exact : (most : Limits) (volumes : List ℤ) (samples : ℕ) (lent : List Float) (c : Controller) → Every (λ (x : Float). T (fits binary32 x)) lent → Every (Every PeakFits) c.predictor.rings
    → Exactly (analyze_input_audio most volumes samples lent c) (exact_frame most volumes samples lent c)
unfolding analyze_input_audio exact_frame
frame_exact most volumes samples lent c f g = refused_exact (frame_outcome most (length c.control.channels) volumes samples lent) (numbers_in (numbers_of volumes)) samples lent c f g

-- THE CLAIM
pub unmarked_is_exact : UnmarkedIsExact
unmarked_is_exact = record {
  may = λ s records a f. (may_same s records a).to (exact_drop s records a) (exact_turned s records a f);
  estimate = λ s records a f m. unmarked_only (estimated (estimate_tree s records a)) (turned_spread (estimate_tree s records a)) m (exact_drop s records a) (exact_turned s records a f);
  frames = λ c most volumes samples lent f g m. ap (λ (s : Stepped). s.state) ((frame_exact most volumes samples lent c (every_from (λ (x : Float). T (fits binary32 x)) lent nan g) f).same (subst NotNear (sym m) refl));
}
