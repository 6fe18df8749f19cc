-- The controller as a whole, as a value: its two parts, and the ways through a frame. Assumes nothing.
use mathlib.Core.Path.{◌≡◌, refl, sym, ap, subst, ◌∙◌}
use mathlib.Core.Bool.{Bool, true, false, ◌||◌}
use mathlib.Core.List.{List, [], ◌∷◌}
use Prim.Native.Nat.{ℕ, zero, suc, ◌≤◌, ◌<◌, max}
use native.Mathlib.Nat.{not-suc-le-zero, le_of_suc-le-suc}
use native.Mathlib.Omega.{arith}
use lib.Dec.{T, ltb, eqb, eqb→eq}
use lib.IntN.{ℤ}
use lib.Ieee.{Float}
use mir.Syntax.{w32}
use mir.Val.{of_z, to_z, SFits}
use mir.ValLaws.{to_z-of_z}
use borrow.Author.Tests.{lt-ltb, le-ltb}
use lib.ListN.{length, length-map, get_or}
use Rattle.std.specs.Prelude.{Err, None, Ok}
use Rattle.numbers.specs.declared.refusal.Refusal.{Refusal}
use Rattle.numbers.specs.Listed.{listed}
use Rattle.numbers.proofs.Listed.{length_listed, get_d_listed}
use Rattle.clipping_predictor_level_buffer.specs.declared.level.Level.{Level}
use Rattle.clipping_predictor_level_buffer.specs.Ring.{stored, stored_at}
use Rattle.clipping_predictor.specs.declared.modes.Estimated.{Estimated}
use Rattle.clipping_predictor.specs.declared.ClippingPredictor.{ClippingPredictor}
use Rattle.clipping_predictor.specs.Predictor.{Predictor, frame_fits, ring_at, push_each, entered_if, emptied}
use Rattle.clipping_predictor.specs.Predictor as PredictorOf
use Rattle.clipping_predictor.specs.AllRings.{predicted_by}
use Rattle.input_volume_controller.specs.declared.volume_control.VolumeControl.{VolumeControl}
use Rattle.input_volume_controller.specs.declared.InputVolumeController.{InputVolumeController}
use Rattle.input_volume_controller.specs.declared.Analyzed.{Analyzed}
use Rattle.input_volume_controller.specs.declared.limits.Limits.{Limits}
use Rattle.input_volume_controller.specs.declared.volume_set.VolumeSet.{VolumeSet}
use Rattle.input_volume_controller.specs.Volumes.{Volumes, numbers_of, are_numbers, numbers_in}
use Rattle.input_volume_controller.specs.VolumeSet.{levels_of, bytes_in, is_inside, volumes_if, volumes_in, SetOf}
use Rattle.input_volume_controller.specs.Limits.{is_within}
use Rattle.input_volume_controller.specs.Control.{Control, control_of}
use Rattle.input_volume_controller.specs.Control as ControlOf
use Rattle.input_volume_controller.specs.ControlCalls.{lower_channels, one_frame_more}
use Rattle.input_volume_controller.specs.Controller.{Controller, together, view_of, Good, Becomes}
use Rattle.input_volume_controller.specs.Reply.{Reply, mark, Stepped}
use Rattle.input_volume_controller.specs.Differ.{differ}
use Rattle.input_volume_controller.specs.Frame.{tested_as, asked_of, handled, unless_waiting, unless_refused, analyze_input_audio}
use Rattle.input_volume_controller.specs.Calls.{Call, frame, step, Typed, Does, ControlDoes, Framed, analyze_set, AnalyzedSetOf, AnalyzedEachOf, AnalyzedOf}
use Rattle.input_volume_controller.proofs.ChannelLists.{count_is}

-- ---- its two parts

-- how many channels the parts have, read from the values
pub control_count : (c : VolumeControl) → length (control_of c).channels ≡ c.channels.count
unfolding control_of
control_count c = count_is c.channels

pub whole_count : (c : InputVolumeController) → length (view_of c).control.channels ≡ c.control.channels.count
unfolding view_of
whole_count c = control_count c.control

predictor_count : (p : ClippingPredictor) → length (PredictorOf.view_of p).rings ≡ p.channels
unfolding PredictorOf.view_of
predictor_count p = length_listed _ p.channels

-- as many channels as before
pub record SameCount (self : InputVolumeController) (c : Control) (p : Predictor) : Type 0 where
  pub channels : length c.channels ≡ length (control_of self.control).channels
  pub rings : length p.rings ≡ length (PredictorOf.view_of self.predictor).rings

pub whole : (self : InputVolumeController) (c : VolumeControl) (p : ClippingPredictor) (said : Control) (said-p : Predictor) → Good self → ControlOf.Becomes said c → PredictorOf.Good p → PredictorOf.view_of p ≡ said-p
    → SameCount self said said-p → Becomes (record { control = said; predictor = said-p }) (record { control = c; predictor = p })
unfolding view_of
whole self c p said said-p good b g e n = record {
  good = record {
    control = b.good;
    predictor = g;
    counts =
        sym (predictor_count p) ∙ ap (λ (x : Predictor). length x.rings) e ∙ n.rings ∙ predictor_count self.predictor ∙ good.counts ∙ sym (control_count self.control) ∙ sym n.channels
        ∙ sym (ap (λ (x : Control). length x.channels) b.is) ∙ control_count c;
  };
  is = λ i. record { control = b.is i; predictor = e i };
}

-- the change of a control's value has as many channels as the struct that it is the value of
pub same_count : (self : VolumeControl) (said : Control) {r : VolumeControl} → ControlOf.Becomes said r → length said.channels ≡ length (control_of self).channels → r.channels.count ≡ self.channels.count
same_count self said {r = r} b n = sym (control_count r) ∙ ap (λ (x : Control). length x.channels) b.is ∙ n ∙ control_count self

-- a control's change beside a predictor, from the value to the struct
pub beside : (p : Predictor) {x y : Reply} {said : Control} {r : VolumeControl} → x ≡ y → ControlOf.Becomes said r
    → ◌≡◌ {A = Stepped} (record { reply = x; state = record { control = said; predictor = p } }) (record { reply = y; state = record { control = control_of r; predictor = p } })
beside p e b = λ i. record { reply = e i; state = record { control = sym b.is i; predictor = p } }

-- with the predictor as it was
pub with_control : (self : InputVolumeController) (c : VolumeControl) (said : Control) → Good self → ControlOf.Becomes said c → length said.channels ≡ length (control_of self.control).channels
    → Becomes (record { control = said; predictor = PredictorOf.view_of self.predictor }) (record { control = c; predictor = self.predictor })
with_control self c said good b n = whole self c self.predictor said _ good b good.predictor refl (record { channels = n; rings = refl })

-- a call that leaves the predictor alone
pub does_whole : (self : InputVolumeController) (call : Call) (says : Reply) (r : VolumeControl) → Good self → Typed call → ControlDoes self.control call says r → Does self call says (together r self.predictor)
unfolding view_of
does_whole self call says r good typed d =
    let e = d.does (PredictorOf.view_of self.predictor) in
    record {
      good = record { control = d.good; predictor = good.predictor; counts = good.counts ∙ sym d.count };
      typed = typed;
      reply = sym (ap (λ (x : Stepped). x.reply) e);
      view = sym (ap (λ (x : Stepped). x.state) e);
    }

-- ---- the rings

pushed_count : (capacity : ℕ) (levels : List Level) (rings : List (List Level)) → length (push_each capacity levels rings) ≡ length rings
unfolding push_each
pushed_count capacity levels [] = refl
pushed_count capacity [] (r ∷ rings) = refl
pushed_count capacity (l ∷ levels) (r ∷ rings) = rw (pushed_count capacity levels rings)

pub entered_count : (samples : ℕ) (lent : List _) (p : Predictor) → length (entered_if true samples lent p).rings ≡ length p.rings
entered_count samples lent p = pushed_count _ _ p.rings

abbrev none : List Level
none = []

pub emptied_count : (p : Predictor) → length (emptied p).rings ≡ length p.rings
emptied_count p = length-map p.rings (λ (r : List Level). none)

get_d_past : {A : Type 0} (f : ℕ → A) (n i : ℕ) (d : A) → n ≤ i → get_or (listed f n) i d ≡ d
unfolding listed
get_d_past f zero i d h = refl
get_d_past f (suc n) zero d h = absurd (not-suc-le-zero h)
get_d_past f (suc n) (suc i) d h = get_d_past (λ j. f (suc j)) n i d (le_of_suc-le-suc h)

-- no record lies in the ring of a channel that is not there
pub records_none : (p : ClippingPredictor) (channel : ℕ) → p.channels ≤ channel → [] ≡ get_or (PredictorOf.view_of p).rings channel []
unfolding PredictorOf.view_of
records_none p channel h = sym (get_d_past (λ c. stored (ring_at p c)) p.channels channel [] h)

pub records_some : (p : ClippingPredictor) (channel : ℕ) → channel < p.channels → stored (ring_at p channel) ≡ get_or (PredictorOf.view_of p).rings channel []
unfolding PredictorOf.view_of
records_some p channel h = sym (get_d_listed (λ c. stored (ring_at p c)) p.channels channel [] h)

pub stored_none : (p : ClippingPredictor) (channel i : ℕ) → p.channels ≤ channel → None ≡ stored_at (get_or (PredictorOf.view_of p).rings channel []) i
unfolding stored_at
stored_none p channel i h = ap (λ (l : List Level). stored_at l i) (records_none p channel h)

pub stored_some : (p : ClippingPredictor) (channel i : ℕ) → channel < p.channels → stored_at (stored (ring_at p channel)) i ≡ stored_at (get_or (PredictorOf.view_of p).rings channel []) i
stored_some p channel i h = ap (λ (l : List Level). stored_at l i) (records_some p channel h)

-- ---- an accepted frame

not_refused : (near : Bool) (cause : Refusal) → Ok near ≡ Err cause → ⊥
not_refused near cause e = let z : ◌≡◌ {A = ℕ} 0 1 = cc in omega arith

pub framed : (s : Stepped) (near : Bool) (state : Controller) (r : InputVolumeController) → s ≡ record { reply = mark near; state = state } → Becomes state r → Framed s (record { answer = Ok near; controller = r })
framed s near state r e b = record {
  good = b.good;
  reply = ap (λ (x : Stepped). x.reply) (sym e);
  view = b.is ∙ ap (λ (x : Stepped). x.state) (sym e);
  accepted = not_refused near;
}

pub framed_same : {s t : Stepped} {r : Analyzed} → s ≡ t → Framed s r → Framed t r
framed_same {r = r} e f = subst (λ (x : Stepped). Framed x r) e f

-- ---- a frame with its volumes

module _ (fits within : Bool) (samples : ℕ) (lent : List Float) (c : Controller) where
  abbrev tested : Bool → Volumes → Stepped
  tested counted volumes = unless_refused (tested_as counted (are_numbers volumes) fits within) (numbers_in volumes) samples lent c

  -- the volumes of a set that is not inside are not read
  inside_by : (inside : Bool) (levels : List ℕ) → unless_refused (tested_as true inside fits within) levels samples lent c ≡ tested true (volumes_if inside levels)
  inside_by true levels = refl
  inside_by false levels = refl

  -- another length is refused, whatever the volumes are; and as many are what was given
  counted_by : (counted inside : Bool) (levels : List ℕ) (volumes : Volumes) → (counted ≡ true → volumes_if inside levels ≡ volumes)
      → unless_refused (tested_as counted inside fits within) levels samples lent c ≡ tested counted volumes
  counted_by false inside levels volumes h = refl
  counted_by true inside levels volumes h = inside_by inside levels ∙ ap (tested true) (h refl)

module _ (most : Limits) (self : InputVolumeController) (good : Good self) (volumes : List ℤ) (set : VolumeSet) (is : SetOf volumes set) (samples : ℕ) (lent : List Float) where
  abbrev channels : ℕ
  channels = length (view_of self).control.channels

  -- as many as the channels, 1 to 8
  numbers_at : (n : ℕ) → n ≡ self.control.channels.count → eqb (length volumes) n ≡ true → volumes_in n set.levels ≡ numbers_of volumes
  numbers_at n e t =
      let k = eqb→eq (length volumes) n (subst T (sym t) tt) in
      let c = good.control.channels in
      subst (λ (m : ℕ). volumes_in m set.levels ≡ numbers_of volumes) k (is.numbers (omega (arith, c.low)) (omega (arith, c.high)))

  set_step : analyze_set most set samples lent (view_of self) ≡ step (view_of self) (frame most volumes samples lent)
  unfolding analyze_input_audio volumes_in
  set_step =
      let fits = frame_fits channels samples lent in
      let within = is_within most channels samples in
      let levels = levels_of (bytes_in set.levels) channels in
      ap (λ (n : ℕ). unless_refused (tested_as (eqb n channels) (is_inside set.levels) fits within) levels samples lent (view_of self)) is.count
      ∙ counted_by fits within samples lent (view_of self) (eqb (length volumes) channels) (is_inside set.levels) levels (numbers_of volumes) (numbers_at channels (whole_count self))

  pub of_set : {r : Analyzed} → AnalyzedSetOf most self set samples lent r → AnalyzedEachOf most self volumes samples lent r
  of_set t = record {
    does = record { good = t.good; typed = t.typed; reply = t.reply ∙ ap (λ (x : Stepped). x.reply) set_step; view = t.view ∙ ap (λ (x : Stepped). x.state) set_step };
    same = t.same;
  }

-- with one volume, which the machine has read back
pub read_back : {most : Limits} {self : InputVolumeController} {samples : ℕ} {lent : List Float} {r : Analyzed} (volume : ℤ) → SFits w32 volume → AnalyzedOf most self (to_z w32 (of_z w32 volume)) samples lent r
    → AnalyzedOf most self volume samples lent r
read_back {most = most} {self = self} {samples = samples} {lent = lent} {r = r} volume fits a = subst (λ (v : ℤ). AnalyzedOf most self v samples lent r) (to_z-of_z w32 volume fits) a

-- a frame within the wait, and after it
module _ (clipped : Bool) (since wait : ℕ) (c : Controller) where
  pub is_waiting : since < wait → unless_waiting (ltb since wait) clipped c ≡ record { reply = mark false; state = record { control = one_frame_more c.control; predictor = c.predictor } }
  is_waiting h = rw (lt-ltb since wait h)

  pub not_waiting : wait ≤ since → unless_waiting (ltb since wait) clipped c ≡ handled clipped (predicted_by (asked_of c.control) c.predictor) c
  not_waiting h = rw (le-ltb since wait h)

module _ (clipped : Bool) (e : Estimated) (c : Controller) where
  pub not_handled : (clipped || ltb 0 e.drop) ≡ false → handled clipped e c ≡ record { reply = mark (differ clipped c.control e.low e.high); state = c }
  not_handled t = rw t

  pub is_handled : (clipped || ltb 0 e.drop) ≡ true
      → handled clipped e c ≡ record { reply = mark (differ clipped c.control e.low e.high); state = record { control = lower_channels (max c.control.settings.step e.drop) c.control; predictor = emptied c.predictor } }
  is_handled t = rw t
