-- A frame's mark, as it is computed from two drops, is the one that the words of document 02 (iii) say: some choice returns another state. Assumes nothing.
use mathlib.Core.Path.{◌≡◌, refl, sym, ap, ap₂, ◌∙◌}
use mathlib.Core.Logic.{◌↔◌}
use mathlib.Core.Bool.{Bool, true, false, not, ◌||◌}
use mathlib.Core.List.{List, [], ◌∷◌}
use Prim.Native.Nat.{ℕ, ◌≤◌, ◌<◌, max}
use native.Mathlib.Omega.{arith}
use lib.Dec.{ltb}
use borrow.Author.Tests.{ltb-true, ltb-false, not-false}
use Rattle.numbers.proofs.Signs.{clash}
use Rattle.clipping_predictor_level_buffer.specs.declared.level.Level.{Level}
use Rattle.clipping_predictor.specs.declared.modes.Asked.{Asked}
use Rattle.clipping_predictor.specs.declared.modes.Estimated.{Estimated}
use Rattle.clipping_predictor.specs.Turned.{Turned, estimated}
use Rattle.clipping_predictor.specs.Estimate.{estimate_tree}
use Rattle.clipping_predictor.specs.Predictor.{Predictor, emptied}
use Rattle.clipping_predictor.specs.AllRings.{predicted_by}
use Rattle.clipping_predictor.proofs.Turns.{Spread, turned_spread}
use Rattle.clipping_predictor.proofs.Choices.{Chosen, chosen_spread}
use Rattle.clipping_predictor.proofs.Joins.{none_from_empty}
use Rattle.mono_input_volume_controller.specs.declared.mono.MonoInputVolumeController.{MonoInputVolumeController}
use Rattle.mono_input_volume_controller.specs.Mono.{handled_clipping}
use Rattle.mono_input_volume_controller.specs.SameVolumes.{same_volumes}
use Rattle.mono_input_volume_controller.proofs.ClippingSteps.{between, volumes_decide}
use Rattle.input_volume_controller.specs.Channels.{Clipping, called, each_called}
use Rattle.input_volume_controller.specs.Control.{with_since, with_channels}
use Rattle.input_volume_controller.specs.ControlCalls.{aggregated, lower_channels}
use Rattle.input_volume_controller.specs.Controller.{Controller}
use Rattle.input_volume_controller.specs.Differ.{other_volumes, lower_differently, differ_if, differ}
use Rattle.input_volume_controller.specs.Frame.{asked_of, handle_if, returned_by, handled}
use Rattle.input_volume_controller.specs.Reply.{mark}

either_false : (a b : Bool) → (a || b) ≡ false → (a ≡ false) × (b ≡ false)
either_false true b e = clash e
either_false false b e = (refl, e)

-- ---- all channels, by one channel's laws

module _ (s u : ℕ) where
  all_same : (ms : List MonoInputVolumeController) → lower_differently s u ms ≡ false → each_called (Clipping s) ms ≡ each_called (Clipping u) ms
  unfolding lower_differently other_volumes called
  all_same [] e = refl
  all_same (m ∷ ms) e =
      let p = either_false (not (same_volumes (handled_clipping s m) (handled_clipping u m))) _ e in
      ap₂ ◌∷◌ ((volumes_decide m s u).0 (not-false _ p.0)) (all_same ms p.1)

  same_all : (ms : List MonoInputVolumeController) → each_called (Clipping s) ms ≡ each_called (Clipping u) ms → lower_differently s u ms ≡ false
  unfolding lower_differently other_volumes called
  same_all [] e = refl
  same_all (m ∷ ms) e =
      let p : handled_clipping s m ≡ handled_clipping u m = cc in
      let q : each_called (Clipping s) ms ≡ each_called (Clipping u) ms = cc in
      ap₂ ◌||◌ (ap not ((volumes_decide m s u).1 p)) (same_all ms q)

all_between : (s t u : ℕ) → s ≤ t → t ≤ u → (ms : List MonoInputVolumeController) → each_called (Clipping s) ms ≡ each_called (Clipping u) ms → each_called (Clipping t) ms ≡ each_called (Clipping s) ms
unfolding called
all_between s t u p q [] e = refl
all_between s t u p q (m ∷ ms) e =
    let a : handled_clipping s m ≡ handled_clipping u m = cc in
    let b : each_called (Clipping s) ms ≡ each_called (Clipping u) ms = cc in
    ap₂ ◌∷◌ (between m s t u p q a) (all_between s t u p q ms b)

-- ---- the whole controller is as its channels are

handled_same : (s u : ℕ) (c : Controller) → each_called (Clipping s) c.control.channels ≡ each_called (Clipping u) c.control.channels → handle_if true s c ≡ handle_if true u c
unfolding lower_channels
handled_same s u c e = λ i. record { control = aggregated (with_since 0 (with_channels (e i) c.control)); predictor = emptied c.predictor }

same_handled : (s u : ℕ) (c : Controller) → handle_if true s c ≡ handle_if true u c → each_called (Clipping s) c.control.channels ≡ each_called (Clipping u) c.control.channels
unfolding lower_channels aggregated
same_handled s u c e = ap (λ (k : Controller). k.control.channels) e

-- ---- two drops

some_drop : (clipped : Bool) (a b : ℕ) → (clipped || ltb 0 a) ≡ true → (clipped || ltb 0 b) ≡ false → 0 < a
some_drop true a b e f = clash f
some_drop false a b e f = ltb-true 0 a e

module _ (clipped : Bool) (c : Controller) where
  -- the step that a drop leads to, and whether two of them leave some channel different
  abbrev step_of : ℕ → ℕ
  step_of drop = max c.control.settings.step drop

  abbrev differently : ℕ → ℕ → Bool
  differently a b = lower_differently (step_of a) (step_of b) c.control.channels

  -- where they do not differ, they return the same state
  differ_false : (a b : ℕ) → differ clipped c.control a b ≡ false → returned_by clipped a c ≡ returned_by clipped b c
  unfolding differ
  differ_false a b e = go (clipped || ltb 0 a) (clipped || ltb 0 b) e
    where
      go : (x y : Bool) → differ_if x y (differently a b) ≡ false → handle_if x (step_of a) c ≡ handle_if y (step_of b) c
      go true true e = handled_same (step_of a) (step_of b) c (all_same (step_of a) (step_of b) c.control.channels e)
      go true false e = clash e
      go false true e = clash e
      go false false e = refl

  -- and where they do, they do not: rings that are emptied are not those that led to a drop
  differ_true : (a b : ℕ) → (0 < max a b → emptied c.predictor ≡ c.predictor → ⊥) → differ clipped c.control a b ≡ true → returned_by clipped a c ≡ returned_by clipped b c → ⊥
  unfolding differ
  differ_true a b full e = go (clipped || ltb 0 a) (clipped || ltb 0 b) refl refl e
    where
      go : (x y : Bool) → (clipped || ltb 0 a) ≡ x → (clipped || ltb 0 b) ≡ y → differ_if x y (differently a b) ≡ true → handle_if x (step_of a) c ≡ handle_if y (step_of b) c → ⊥
      go true true p q e f = clash (sym e ∙ same_all (step_of a) (step_of b) c.control.channels (same_handled (step_of a) (step_of b) c f))
      go true false p q e f = let k = some_drop clipped a b p q in full (omega arith) (ap (λ (k : Controller). k.predictor) f)
      go false true p q e f = let k = some_drop clipped b a q p in full (omega arith) (ap (λ (k : Controller). k.predictor) (sym f))
      go false false p q e f = clash (sym e)

  -- between two drops that return the same state, every drop does
  handled_between : (low v high : ℕ) → low ≤ v → v ≤ high → differently low high ≡ false → handle_if true (step_of v) c ≡ handle_if true (step_of low) c
  handled_between low v high p q e =
      handled_same (step_of v) (step_of low) c
      (all_between (step_of low) (step_of v) (step_of high) (omega arith) (omega arith) c.control.channels (all_same (step_of low) (step_of high) c.control.channels e))

differ_between : (clipped : Bool) (c : Controller) (low v high : ℕ) → low ≤ v → v ≤ high → differ clipped c.control low high ≡ false → returned_by clipped v c ≡ returned_by clipped low c
unfolding differ
differ_between true c low v high p q e = handled_between true c low v high p q e
differ_between false c low v high p q e = go (ltb 0 low) (ltb 0 v) (ltb 0 high) refl refl refl e
  where
    go : (x y z : Bool) → ltb 0 low ≡ x → ltb 0 v ≡ y → ltb 0 high ≡ z → differ_if x z (differently false c low high) ≡ false → handle_if y (step_of false c v) c ≡ handle_if x (step_of false c low) c
    go true true true l m n e = handled_between false c low v high p q e
    go true true false l m n e = clash e
    go true false z l m n e = absurd (omega (arith, ltb-true 0 low l, ltb-false 0 v m))
    go false y true l m n e = clash e
    go false true false l m n e = absurd (omega (arith, ltb-true 0 v m, ltb-false 0 high n))
    go false false false l m n e = refl

-- ---- THE MARK, of any drops that a frame can come to

-- a drop that can be reached returns another state
pub record Changes (clipped : Bool) (c : Controller) (P : ℕ → Type 0) (drop : ℕ) : Type 0 where
  pub other : ℕ
  pub reached : P other
  pub differs : returned_by clipped other c ≡ returned_by clipped drop c → ⊥

module _ (clipped : Bool) (c : Controller) {P : ℕ → Type 0} (e : Estimated) (s : Spread P e) where
  abbrev frame_mark : Bool
  frame_mark = differ clipped c.control e.low e.high

  -- where the frame is not marked, each of them returns the same state
  pub unmarked_same : differ clipped c.control e.low e.high ≡ false → (v : ℕ) → P v → returned_by clipped v c ≡ returned_by clipped e.drop c
  unmarked_same m v r =
      differ_between clipped c e.low v e.high (s.low_le v r) (s.le_high v r) m
      ∙ sym (differ_between clipped c e.low e.drop e.high (s.low_le e.drop s.drop_in) (s.le_high e.drop s.drop_in) m)

  module _ (full : 0 < e.high → emptied c.predictor ≡ c.predictor → ⊥) where
    -- where it is, one of the two ends returns another state
    some_end : (b : Bool) → differ clipped c.control e.low e.drop ≡ b → frame_mark ≡ true → Changes clipped c P e.drop
    some_end true d m =
        let h = s.le_high e.drop s.drop_in in
        let l = s.le_high e.low s.low_in in
        record { other = e.low; reached = s.low_in; differs = differ_true clipped c e.low e.drop (λ z. full (omega arith)) d }
    some_end false d m =
        let l = s.le_high e.low s.low_in in
        record { other = e.high; reached = s.high_in; differs = λ f. differ_true clipped c e.low e.high (λ z. full (omega arith)) m (differ_false clipped c e.low e.drop d ∙ sym f) }

    by_change : (b : Bool) → frame_mark ≡ b → Changes clipped c P e.drop → b ≡ true
    by_change true m k = refl
    by_change false m k = absurd (k.differs (unmarked_same m k.other k.reached))

    pub marked_exactly : (differ clipped c.control e.low e.high ≡ true) ↔ Changes clipped c P e.drop
    marked_exactly = (λ m. some_end (differ clipped c.control e.low e.drop) refl m, λ k. by_change frame_mark refl k)

-- ---- of a frame that is tested

-- what each channel can come to
abbrev pub Comes : Asked → Predictor → ℕ → Type 0
Comes a p v = Chosen (λ (records : List Level). Turned (estimate_tree p.settings records a)) p.rings v

pub predicted_spread : (a : Asked) (p : Predictor) → Spread (Comes a p) (predicted_by a p)
unfolding predicted_by estimated
predicted_spread a p = chosen_spread (λ (records : List Level). Turned (estimate_tree p.settings records a)) (λ (records : List Level). estimated (estimate_tree p.settings records a)) (λ records. turned_spread (estimate_tree p.settings records a)) p.rings

-- rings that led to a drop are not empty
drop_from_records : (a : Asked) (p : Predictor) → 0 < (predicted_by a p).high → emptied p ≡ p → ⊥
unfolding estimated
drop_from_records a p k e = omega (arith, ap (λ (s : Estimated). s.high) (none_from_empty a p e))

pub is_mark_lem : (a b : Bool) → mark a ≡ mark b → a ≡ b
is_mark_lem a b e = cc

module _ (clipped : Bool) (c : Controller) where
  abbrev estimate : Estimated
  estimate = predicted_by (asked_of c.control) c.predictor

  -- MARKED EXACTLY if a choice returns another state
  pub handled_marked : ((handled clipped (predicted_by (asked_of c.control) c.predictor) c).reply ≡ mark true) ↔ Changes clipped c (Comes (asked_of c.control) c.predictor) (predicted_by (asked_of c.control) c.predictor).drop
  handled_marked =
      let m = marked_exactly clipped c estimate (predicted_spread (asked_of c.control) c.predictor) (drop_from_records (asked_of c.control) c.predictor) in
      (λ e. m.0 (is_mark_lem _ _ e), λ k. ap mark (m.1 k))

  -- unmarked, every choice returns the same state
  pub handled_unmarked : (handled clipped (predicted_by (asked_of c.control) c.predictor) c).reply ≡ mark false → (v : ℕ) → Comes (asked_of c.control) c.predictor v
      → returned_by clipped v c ≡ (handled clipped (predicted_by (asked_of c.control) c.predictor) c).state
  handled_unmarked e = unmarked_same clipped c estimate (predicted_spread (asked_of c.control) c.predictor) (is_mark_lem _ _ e)
