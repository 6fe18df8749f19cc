-- The lead-in's list: what calm calls make of the rings and of the count of frames since clipping, whatever these were. Assumes nothing.
use mathlib.Core.Path.{◌≡◌, refl, sym, ap, ◌∙◌, subst}
use mathlib.Core.List.{List}
use mathlib.Core.Bool.{Bool, true, false}
use Prim.Native.Nat.{ℕ, ◌+◌, ◌-◌, ◌≤◌, ◌<◌, min, max}
use native.Mathlib.Omega.{arith}
use native.Mathlib.Decide.{dec_le}
use lib.Dec.{ltb}
use lib.Ieee.{Float}
use borrow.Author.Tests.{ltb-true}
use Rattle.clipping_predictor_level_buffer.specs.declared.level.Level.{Level}
use Rattle.clipping_predictor.specs.declared.modes.Estimated.{Estimated}
use Rattle.clipping_predictor.specs.declared.settings.Settings as Predictor
use Rattle.clipping_predictor.specs.Estimate.{capacity_of}
use Rattle.clipping_predictor.specs.Predictor.{entered_if}
use Rattle.mono_input_volume_controller.specs.declared.config.Settings.{Settings}
use Rattle.input_volume_controller.specs.ControlCalls.{aggregated, with_applied_input_volumes, lower_channels}
use Rattle.input_volume_controller.specs.Controller.{Controller}
use Rattle.clipping_predictor.specs.AllRings.{predicted_by}
use Rattle.input_volume_controller.specs.Frame.{asked_of, handle_if, unless_waiting}
use Rattle.claims.specs.LeadIn.{is_low}
use Rattle.claims.proofs.Rings.{Match, match_empty}
use Rattle.claims.proofs.Silent.{none_predicted}

-- a frame's volumes are set, and its levels enter the rings
abbrev pub entered : List ℕ → ℕ → List Float → Controller → Controller
entered volumes samples lent c = record { control = with_applied_input_volumes volumes c.control; predictor = entered_if true samples lent c.predictor }

-- After k quiet frames that gave the records `grown`: m of them came since the rings were last emptied, and at most `window` - 1 before.
pub record Led (p : Predictor.Settings) (s : Settings) (grown : List (List Level)) (k : ℕ) (c : Controller) : Type 0 where
  pub on : c.control.used ≡ true
  pub m : ℕ
  pub late : k ≤ m + (p.window - 1)
  pub rows : Match (is_low p) (capacity_of p) m k c.predictor.rings grown
  pub waited : min s.clipped_wait m ≤ c.control.since

module _ (p : Predictor.Settings) (s : Settings) (grown : List (List Level)) (k : ℕ) where
  -- a call that leaves the rings, the count and the switch as they were
  pub led_same : (c d : Controller) → d.control.used ≡ c.control.used → d.control.since ≡ c.control.since → d.predictor.rings ≡ c.predictor.rings → Led p s grown k c → Led p s grown k d
  led_same c d u e r h = record {
    on = u ∙ h.on;
    m = h.m;
    late = h.late;
    rows = subst (λ (x : List (List Level)). Match (is_low p) (capacity_of p) h.m k x grown) (sym r) h.rows;
    waited = omega (arith, h.waited, e);
  }

  -- ---- a quiet frame, once its levels are in

  -- the rings are emptied only while fewer frames were quiet than a window takes
  led_handled : (t : Bool) (amount m : ℕ) (c : Controller) → (t ≡ true → k ≤ p.window - 1) → c.control.used ≡ true → k ≤ m + (p.window - 1)
      → Match (is_low p) (capacity_of p) m k c.predictor.rings grown → min s.clipped_wait m ≤ c.control.since → Led p s grown k (handle_if t amount c)
  unfolding lower_channels aggregated
  led_handled true amount m c f u late rows w = record {
    on = u;
    m = 0;
    late = omega (arith, f refl);
    rows = match_empty (is_low p) (capacity_of p) m k c.predictor.rings grown rows;
    waited = omega arith;
  }
  led_handled false amount m c f u late rows w = record { on = u; m = m; late = late; rows = rows; waited = w }

  few : (drop : ℕ) → ltb 0 drop ≡ true → (p.window ≤ k → drop ≡ 0) → k ≤ p.window - 1
  few drop e f = elim (dec_le p.window k) [ yes l ↦ absurd (some drop (ltb-true 0 drop e) (f l)) | no l ↦ omega (arith, l) ]
    where
      some : (d : ℕ) → 0 < d → d ≡ 0 → ⊥
      some d a b = omega arith

  pub led_waiting : (t : Bool) (m : ℕ) (c : Controller) → 1 ≤ p.window → c.predictor.settings ≡ p → c.control.settings ≡ s
      → (t ≡ false → c.control.settings.clipped_wait ≤ c.control.since) → c.control.used ≡ true → k ≤ m + (p.window - 1)
      → Match (is_low p) (capacity_of p) m k c.predictor.rings grown → min s.clipped_wait m ≤ c.control.since + 1 → Led p s grown k (unless_waiting t false c).state
  led_waiting true m c window ps cs f u late rows w = record { on = u; m = m; late = late; rows = rows; waited = w }
  led_waiting false m c window ps cs f u late rows w =
      let e : Estimated = predicted_by (asked_of c.control) c.predictor in
      led_handled (ltb 0 e.drop) (max c.control.settings.step e.drop) m c
      (λ t. few e.drop t (λ l. none_predicted p (asked_of c.control) c.predictor (capacity_of p) m k grown ps window l rows)) u late rows
      (omega (arith, f refl, ap (λ (x : Settings). x.clipped_wait) cs))
