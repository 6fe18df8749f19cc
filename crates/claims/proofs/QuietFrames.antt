-- A quiet frame with capture on: what it makes of the rings, and that once enough frames were quiet it only enters them and ends the wait. Assumes nothing.
use mathlib.Core.Path.{◌≡◌, refl, sym, ap, ◌∙◌, subst}
use mathlib.Core.List.{List, map}
use mathlib.Core.Bool.{Bool, true, false}
use Prim.Native.Nat.{ℕ, suc, ◌+◌, ◌≤◌, max}
use native.Mathlib.Omega.{arith}
use lib.Dec.{T, ltb}
use lib.Ieee.{Float, le}
use lib.ListN.{length, take}
use borrow.Author.Tests.{ltb-true, ltb-false}
use Rattle.std.specs.Prelude.{Ok}
use Rattle.numbers.proofs.Listed.{length_listed}
use Rattle.clipping_predictor_level_buffer.specs.declared.level.Level.{Level}
use Rattle.clipping_predictor_level_buffer.specs.Level.{frame_record}
use Rattle.clipping_predictor_level_buffer.specs.Statistics.{plus_zero}
use Rattle.clipping_predictor.specs.declared.settings.Settings as Predictor
use Rattle.clipping_predictor.specs.Estimate.{capacity_of}
use Rattle.clipping_predictor.specs.Predictor.{part_of, levels_of, push_each}
use Rattle.mono_input_volume_controller.specs.declared.config.Settings.{Settings}
use Rattle.input_volume_controller.specs.Control.{with_since}
use Rattle.input_volume_controller.specs.ControlCalls.{aggregated, with_applied_input_volumes}
use Rattle.input_volume_controller.specs.Controller.{Controller}
use Rattle.input_volume_controller.specs.Reply.{Stepped}
use Rattle.clipping_predictor.specs.AllRings.{predicted_by}
use Rattle.input_volume_controller.specs.Frame.{asked_of, handle_if, unless_waiting, if_used, unless_refused}
use Rattle.claims.specs.LeadIn.{all, is_sound, is_low, quiet_for}
use Rattle.claims.proofs.Lists.{and_l, and_r}
use Rattle.claims.proofs.Share.{ratio_not_above}
use Rattle.claims.proofs.Kept.{Kept, kept_entered}
use Rattle.claims.proofs.Rings.{grow, Match, match_push, match_full}
use Rattle.claims.proofs.Silent.{none_predicted}
use Rattle.claims.proofs.Led.{entered, Led, led_waiting}

-- ---- the count of frames since clipping

abbrev pub counting : ℕ → Controller → Controller
counting since c = record { control = with_since since c.control; predictor = c.predictor }

-- a frame that is one short of the wait counts, and one after it predicts nothing: both leave the count at the wait
waited : (t : Bool) (wait : ℕ) (c : Controller) → (t ≡ true → c.control.since + 1 ≡ wait) → (t ≡ false → c.control.since ≡ wait) → (predicted_by (asked_of c.control) c.predictor).drop ≡ 0
    → (unless_waiting t false c).state ≡ counting wait c
waited true wait c f g z = ap (λ (x : ℕ). counting x c) (f refl)
waited false wait c f g z = ap (λ (x : ℕ). handle_if (ltb 0 x) (max c.control.settings.step x) c) z ∙ ap (λ (x : ℕ). counting x c) (g refl)

-- ---- the frame

module _ (p : Predictor.Settings) (s : Settings) (n : ℕ) (window : 1 ≤ p.window) (ratio : T (le plus_zero s.clipped_ratio)) (volumes : List ℕ) (samples : ℕ) (lent : List Float) where
  -- what such a frame does: its levels enter, and then it counts, or is tested
  frame_on : (c : Controller) → Kept p s n c → c.control.used ≡ true → T (all is_sound lent)
      → unless_refused (Ok tt) volumes samples lent c ≡ unless_waiting (ltb c.control.since c.control.settings.clipped_wait) false (entered volumes samples lent c)
  unfolding with_applied_input_volumes aggregated
  frame_on c k u t =
      ap (λ (b : Bool). if_used b samples lent (record { control = with_applied_input_volumes volumes c.control; predictor = c.predictor })) u
      ∙ ap (λ (b : Bool). unless_waiting (ltb c.control.since c.control.settings.clipped_wait) b (entered volumes samples lent c))
      (ratio_not_above c.control.settings.clipped_ratio (length (with_applied_input_volumes volumes c.control).channels) samples lent
      (subst (λ (x : Settings). T (le plus_zero x.clipped_ratio)) (sym k.control.settings) ratio) t)

  module _ (grown : List (List Level)) (k : ℕ) (c : Controller) (b : Kept p s n c) (t : T (quiet_for p n samples lent)) (h : Led p s grown k c) where
    sound : T (all is_sound lent)
    unfolding quiet_for
    sound = and_l (all is_sound lent) _ t

    low : T (all (is_low p) (levels_of n samples lent))
    unfolding quiet_for
    low = and_r (all is_sound lent) _ t

    entered_rings : (entered volumes samples lent c).predictor.rings ≡ push_each (capacity_of p) (levels_of n samples lent) c.predictor.rings
    entered_rings = λ i. push_each (capacity_of (b.settings i)) (levels_of (b.count i) samples lent) c.predictor.rings

    rows : Match (is_low p) (capacity_of p) (suc h.m) (suc k) (entered volumes samples lent c).predictor.rings (grow (levels_of n samples lent) grown)
    rows =
        subst (λ (x : List (List Level)). Match (is_low p) (capacity_of p) (suc h.m) (suc k) x (grow (levels_of n samples lent) grown)) (sym entered_rings)
        (match_push (is_low p) (capacity_of p) h.m k (levels_of n samples lent) c.predictor.rings grown
        (length_listed (λ i. frame_record (part_of samples lent i)) n ∙ sym b.count) low h.rows)

    pub led_frame : Led p s (grow (levels_of n samples lent) grown) (suc k) (unless_refused (Ok tt) volumes samples lent c).state
    unfolding with_applied_input_volumes aggregated
    led_frame =
        subst (λ (r : Stepped). Led p s (grow (levels_of n samples lent) grown) (suc k) r.state) (sym (frame_on c b h.on sound))
        (led_waiting p s (grow (levels_of n samples lent) grown) (suc k) (ltb c.control.since c.control.settings.clipped_wait) (suc h.m) (entered volumes samples lent c)
        window b.settings b.control.settings (ltb-false c.control.since c.control.settings.clipped_wait) h.on (omega (arith, h.late)) rows (omega (arith, h.waited)))

    -- where one record more fills a ring
    pub full_rings : capacity_of p ≤ suc h.m → (entered volumes samples lent c).predictor.rings ≡ map (take (capacity_of p)) (grow (levels_of n samples lent) grown)
    full_rings f =
        match_full (is_low p) (capacity_of p) (suc h.m) (suc k) (entered volumes samples lent c).predictor.rings (grow (levels_of n samples lent) grown) f
        (kept_entered p s n samples lent c b).small rows

    -- where the count is at most one short of the wait, and the window is all quiet
    pub quiet_frame : p.window ≤ suc k → s.clipped_wait ≤ suc c.control.since
        → (unless_refused (Ok tt) volumes samples lent c).state ≡ counting s.clipped_wait (entered volumes samples lent c)
    unfolding with_applied_input_volumes aggregated
    quiet_frame w e =
        let since = c.control.since in
        let wait = c.control.settings.clipped_wait in
        let same : wait ≡ s.clipped_wait = ap (λ (x : Settings). x.clipped_wait) b.control.settings in
        let d = entered volumes samples lent c in
        ap (λ (r : Stepped). r.state) (frame_on c b h.on sound)
        ∙ waited (ltb since wait) s.clipped_wait d (λ t. omega (arith, ltb-true since wait t, same, e)) (λ t. omega (arith, ltb-false since wait t, same, b.control.early))
        (none_predicted p (asked_of d.control) d.predictor (capacity_of p) (suc h.m) (suc k) (grow (levels_of n samples lent) grown) b.settings window w rows)
