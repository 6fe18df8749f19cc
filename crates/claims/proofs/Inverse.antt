-- Every value that a controller in good order may have is the value of one: its channels and rings are laid into arrays, a ring's newest record at its last place. Assumes nothing.
use mathlib.Core.Path.{◌≡◌, refl, sym, ap, ◌∙◌, subst}
use mathlib.Core.Bool.{Bool, true, false}
use mathlib.Core.List.{List, [], ◌∷◌}
use Prim.Native.Nat.{ℕ, ◌+◌, ◌-◌, ◌≤◌, ◌<◌}
use native.Mathlib.Omega.{arith}
use lib.ListN.{length, get_or}
use borrow.Author.Tests.{le-leb}
use Rattle.numbers.specs.Listed.{listed}
use Rattle.numbers.proofs.Listed.{length_listed, get_d_listed, listed_same}
use Rattle.clipping_predictor_level_buffer.specs.declared.level.Level.{Level}
use Rattle.clipping_predictor_level_buffer.specs.declared.ClippingPredictorLevelBuffer.{ClippingPredictorLevelBuffer}
use Rattle.clipping_predictor_level_buffer.specs.Ring.{max_capacity, behind, no_level, placed, stored}
use Rattle.clipping_predictor_level_buffer.specs.Ring as Ring
use Rattle.clipping_predictor.specs.declared.settings.Settings as PredictorSettings
use Rattle.clipping_predictor.specs.declared.ClippingPredictor.{ClippingPredictor}
use Rattle.clipping_predictor.specs.Settings as Predictors
use Rattle.clipping_predictor.specs.GoodFor.{GoodFor}
use Rattle.clipping_predictor.specs.Estimate.{capacity_if}
use Rattle.clipping_predictor.specs.Predictor.{max_channels, Predictor, no_ring, ring_at}
use Rattle.clipping_predictor.specs.Predictor as PredictorOf
use Rattle.mono_input_volume_controller.specs.declared.mono.MonoInputVolumeController.{MonoInputVolumeController}
use Rattle.mono_input_volume_controller.specs.MonoState as Mono
use Rattle.input_volume_controller.specs.declared.channels.Channels.{Channels}
use Rattle.input_volume_controller.specs.declared.InputVolumeController.{InputVolumeController}
use Rattle.input_volume_controller.specs.Channels.{no_channel, channel_at, channels_of}
use Rattle.input_volume_controller.specs.Channels as ChannelsOf
use Rattle.input_volume_controller.specs.Control.{control_of}
use Rattle.input_volume_controller.specs.Controller.{Controller, view_of, Good, Becomes}
use Rattle.claims.specs.Every.{Every}
use Rattle.claims.proofs.Every.{every_at, every_listed}
use Rattle.claims.proofs.Sane.{Holds, SanePredictor, Sane}

-- ---- lists

listed_back : {A : Type 0} (xs : List A) (d : A) → listed (λ i. get_or xs i d) (length xs) ≡ xs
unfolding listed
listed_back [] d = refl
listed_back (x ∷ xs) d = ap (λ (l : List _). x ∷ l) (listed_back xs d)

-- the first places of a longer list
first_places : {A : Type 0} (f : ℕ → A) (n k i : ℕ) (d : A) → n ≤ k → i < n → get_or (listed f k) i d ≡ f i
first_places f n k i d h l = get_d_listed f k i d (omega arith)

-- ---- the channels

channels_for : List MonoInputVolumeController → Channels
channels_for ms = record { items = listed (λ i. get_or ms i no_channel) max_channels; count = length ms }

channels_for_lem : (ms : List MonoInputVolumeController) → 1 ≤ length ms → length ms ≤ max_channels → Every Mono.Good ms → ChannelsOf.Becomes ms (channels_for ms)
unfolding channels_of channels_for
channels_for_lem ms low high g =
    let at : (i : ℕ) → i < length ms → get_or (listed (λ i. get_or ms i no_channel) max_channels) i no_channel ≡ get_or ms i no_channel = λ i h. first_places (λ i. get_or ms i no_channel) (length ms) max_channels i no_channel high h in
    record {
      good = record { low = low; high = high; places = length_listed _ max_channels; each = λ i h. subst Mono.Good (sym (at i h)) (every_at Mono.Good ms i no_channel g h) };
      is = listed_same _ _ (length ms) at ∙ listed_back ms no_channel;
    }

-- ---- one ring

ring_for : ℕ → List Level → ClippingPredictorLevelBuffer
ring_for c l = record { «data» = listed (λ j. get_or l (c - 1 - j) no_level) max_capacity; tail = c - 1; size = length l; capacity = c }

behind_last : (c i : ℕ) → i < c → behind c (c - 1) i ≡ c - 1 - i
unfolding behind
behind_last c i h = rw (le-leb i (c - 1) (omega arith))

there_and_back : (c i : ℕ) → i < c → c - 1 - (c - 1 - i) ≡ i
there_and_back c i h = omega arith

stored_for : (c : ℕ) (l : List Level) → c ≤ max_capacity → length l ≤ c → stored (ring_for c l) ≡ l
unfolding stored placed ring_for
stored_for c l m h =
    let at : (i : ℕ) → i < length l → get_or (listed (λ j. get_or l (c - 1 - j) no_level) max_capacity) (behind c (c - 1) i) no_level ≡ get_or l i no_level =
    λ i k.
    ap (λ (x : ℕ). get_or (listed (λ j. get_or l (c - 1 - j) no_level) max_capacity) x no_level) (behind_last c i (omega arith))
    ∙ get_d_listed (λ j. get_or l (c - 1 - j) no_level) max_capacity (c - 1 - i) no_level (omega arith)
    ∙ ap (λ (x : ℕ). get_or l x no_level) (there_and_back c i (omega arith)) in
    listed_same _ _ (length l) at ∙ listed_back l no_level

good_ring : (c : ℕ) (l : List Level) → 1 ≤ c → c ≤ max_capacity → length l ≤ c → Ring.Counted l → Ring.Good (ring_for c l)
unfolding ring_for
good_ring c l low high h k = record { low = low; high = high; held = h; within = omega arith; places = length_listed _ max_capacity; counted = subst Ring.Counted (sym (stored_for c l high h)) k }

empty_list : {A : Type 0} (l : List A) → length l ≤ 0 → l ≡ []
empty_list [] h = refl
empty_list (x ∷ l) h = absurd (omega arith)

-- no ring stores more than its places, and one that is off stores nothing
capacity_most : (on : Bool) (n k : ℕ) → k ≤ capacity_if on n → k ≤ n
capacity_most true n k h = h
capacity_most false n k h = omega arith

good_for : (s : PredictorSettings.Settings) (l : List Level) → Predictors.Good s → Holds s l → GoodFor s (ring_for (s.delay + s.reference) l)
good_for s l g h =
    let c : ℕ = s.delay + s.reference in
    let most : length l ≤ c = capacity_most s.enabled c (length l) h.held in
    record {
      settings = g;
      ring = good_ring c l (omega (arith, g.reference_low)) g.room most h.counted;
      capacity = unfold ring_for in refl;
      off = λ e. stored_for c l g.room most ∙ empty_list l (subst (λ (b : Bool). length l ≤ capacity_if b c) e h.held);
    }

-- ---- the predictor

predictor_for : Predictor → ClippingPredictor
predictor_for p = record { settings = p.settings; rings = listed (λ i. ring_for (p.settings.delay + p.settings.reference) (get_or p.rings i [])) max_channels; channels = length p.rings }

record PredictorBecomes (said : Predictor) (r : ClippingPredictor) : Type 0 where
  good : PredictorOf.Good r
  is : PredictorOf.view_of r ≡ said
  count : r.channels ≡ length said.rings

predictor_for_lem : (n : ℕ) (p : Predictor) → 1 ≤ n → n ≤ max_channels → SanePredictor n p → PredictorBecomes p (predictor_for p)
unfolding PredictorOf.view_of predictor_for
predictor_for_lem n p low high s =
    let c : ℕ = p.settings.delay + p.settings.reference in
    let at : (i : ℕ) → i < length p.rings → get_or (listed (λ i. ring_for c (get_or p.rings i [])) max_channels) i no_ring ≡ ring_for c (get_or p.rings i []) =
    λ i h. first_places (λ i. ring_for c (get_or p.rings i [])) (length p.rings) max_channels i no_ring (omega (arith, s.count)) h in
    let holds : (i : ℕ) → i < length p.rings → Holds p.settings (get_or p.rings i []) = λ i h. every_at (Holds p.settings) p.rings i [] s.each h in
    record {
      good = record {
        settings = s.settings;
        channels_low = omega (arith, s.count);
        channels_high = omega (arith, s.count);
        places = length_listed _ max_channels;
        each = λ i h. subst (GoodFor p.settings) (sym (at i h)) (good_for p.settings (get_or p.rings i []) s.settings (holds i h));
      };
      is =
          let rings = listed_same _ _ (length p.rings) (λ i h. ap stored (at i h) ∙ stored_for c (get_or p.rings i []) s.settings.room (capacity_most p.settings.enabled c _ (holds i h).held))
          ∙ listed_back p.rings [] in
          λ i. record { settings = p.settings; rings = rings i };
      count = refl;
    }

-- ---- the whole

controller_for : Controller → InputVolumeController
controller_for v = record {
  control = record {
    settings = v.control.settings;
    channels = channels_for v.control.channels;
    since = v.control.since;
    used = v.control.used;
    applied = v.control.applied;
    volume = v.control.volume;
    controlling = v.control.controlling;
  };
  predictor = predictor_for v.predictor;
}

pub record Inverse (v : Controller) : Type 0 where
  pub controller : InputVolumeController
  pub becomes : Becomes v controller

pub inverse : (n : ℕ) (v : Controller) → Sane n v → Inverse v
unfolding view_of control_of controller_for
inverse n v s =
    let c = channels_for_lem v.control.channels (omega (arith, s.low, s.control.count)) (omega (arith, s.high, s.control.count)) s.control.each in
    let p = predictor_for_lem n v.predictor s.low s.high s.predictor in
    record {
      controller = controller_for v;
      becomes = record {
        good = record {
          control = record { settings = s.control.settings; channels = c.good; volume = s.control.volume };
          predictor = p.good;
          counts = p.count ∙ s.predictor.count ∙ sym s.control.count ∙ unfold channels_for in refl;
        };
        is = λ i. record {
          control = record {
            settings = v.control.settings;
            channels = c.is i;
            since = v.control.since;
            used = v.control.used;
            applied = v.control.applied;
            volume = v.control.volume;
            controlling = v.control.controlling;
          };
          predictor = p.is i;
        };
      };
    }

-- ---- and back: the value of a controller in good order is so

stored_length : (r : ClippingPredictorLevelBuffer) → length (stored r) ≡ r.size
unfolding stored
stored_length r = length_listed _ r.size

ring_holds : (on : Bool) (n : ℕ) (r : ClippingPredictorLevelBuffer) → r.size ≤ n → (on ≡ false → stored r ≡ []) → length (stored r) ≤ capacity_if on n
ring_holds true n r h off = omega (arith, stored_length r, h)
ring_holds false n r h off = omega (arith, ap length (off refl))

pub good_sane : (c : InputVolumeController) → Good c → Sane c.control.channels.count (view_of c)
unfolding view_of control_of channels_of PredictorOf.view_of
good_sane c g =
    let s = c.predictor.settings in
    record {
      low = g.control.channels.low;
      high = g.control.channels.high;
      control = record {
        settings = g.control.settings;
        count = length_listed _ c.control.channels.count;
        each = every_listed Mono.Good (channel_at c.control.channels) c.control.channels.count g.control.channels.each;
        volume = g.control.volume;
      };
      predictor = record {
        settings = g.predictor.settings;
        count = length_listed _ c.predictor.channels ∙ g.counts;
        each = every_listed (Holds s) (λ i. stored (ring_at c.predictor i)) c.predictor.channels
            (λ i h. let f = g.predictor.each i h in record { held = ring_holds s.enabled (s.delay + s.reference) (ring_at c.predictor i) (omega (arith, f.ring.held, f.capacity)) f.off; counted = f.ring.counted });
      };
    }
