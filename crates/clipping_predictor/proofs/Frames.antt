-- Frames and rings: the parts of a frame, and what pushing a level to every channel's ring or emptying it does to the lists that they store. Assumes nothing.
use mathlib.Core.Path.{◌≡◌, refl, sym, ap, subst, ◌∙◌}
use mathlib.Core.Bool.{Bool, true, false, ◌&&◌}
use mathlib.Core.List.{List, [], ◌∷◌}
use Prim.Native.Nat.{ℕ, zero, suc, ◌+◌, ◌*◌, ◌≤◌, ◌<◌}
use native.Mathlib.Nat.{mul-le-mul, mul-le-mul_right, add-mul, one-mul}
use native.Mathlib.Omega.{arith}
use lib.Dec.{leb, eqb}
use lib.Ieee.{Float}
use lib.ListN.{length, get_or, replicate, get_or-replicate, length-replicate}
use borrow.Author.Tests.{leb-true, eqb-true}
use Rattle.numbers.specs.Listed.{listed}
use Rattle.numbers.proofs.Listed.{length_listed, get_d_listed, listed_same, map_listed, listed_constant}
use Rattle.numbers.proofs.Arrays.{Replaced}
use Rattle.numbers.proofs.Signs.{clash}
use Rattle.clipping_predictor_level_buffer.specs.declared.level.Level.{Level}
use Rattle.clipping_predictor_level_buffer.specs.declared.ClippingPredictorLevelBuffer.{ClippingPredictorLevelBuffer}
use Rattle.clipping_predictor_level_buffer.specs.Level.{max_samples_per_channel, is_frame_size, frame_record}
use Rattle.clipping_predictor_level_buffer.specs.Ring.{no_level, stored, push, Pushed, Emptied}
use Rattle.clipping_predictor.specs.declared.settings.Settings.{Settings}
use Rattle.clipping_predictor.specs.declared.ClippingPredictor.{ClippingPredictor}
use Rattle.clipping_predictor.specs.Settings as Settings
use Rattle.clipping_predictor.specs.Estimate.{capacity_if, capacity_of}
use Rattle.clipping_predictor.specs.GoodFor.{GoodFor}
use Rattle.clipping_predictor.specs.Predictor.{Predictor, max_channels, no_ring, ring_at, view_of, Good, Fresh, part_of, push_each, frame_fits, with_levels, levels_in, entered_if, ResetOf}

-- ---- a frame that fits

pub record Fits (channels samples : ℕ) (frame : List Float) : Type 0 where
  pub least : 1 ≤ samples
  pub most : samples ≤ max_samples_per_channel
  pub all : length frame ≡ channels * samples

and_assoc : (a b c : Bool) → ((a && b) && c) ≡ (a && (b && c))
and_assoc true b c = refl
and_assoc false b c = refl

-- a channel's samples may be so many, and the frame has as many for each channel
pub fits_split : (channels samples : ℕ) (frame : List Float) → frame_fits channels samples frame ≡ (is_frame_size samples && eqb (length frame) (channels * samples))
unfolding frame_fits
fits_split channels samples frame = sym (and_assoc (leb 1 samples) (leb samples max_samples_per_channel) (eqb (length frame) (channels * samples)))

fits' : (channels samples : ℕ) (frame : List Float) (a b c : Bool) → leb 1 samples ≡ a → leb samples max_samples_per_channel ≡ b → eqb (length frame) (channels * samples) ≡ c → (a && (b && c)) ≡ true → Fits channels samples frame
fits' channels samples frame true true true p q r e = record { least = leb-true 1 samples p; most = leb-true samples max_samples_per_channel q; all = eqb-true (length frame) (channels * samples) r }
fits' channels samples frame true true false p q r e = clash (sym e)
fits' channels samples frame true false c p q r e = clash (sym e)
fits' channels samples frame false b c p q r e = clash (sym e)

pub fits : (channels samples : ℕ) (frame : List Float) → frame_fits channels samples frame ≡ true → Fits channels samples frame
unfolding frame_fits
fits channels samples frame e = fits' channels samples frame (leb 1 samples) (leb samples max_samples_per_channel) (eqb (length frame) (channels * samples)) refl refl refl e

-- the end of a channel's part lies within the frame
part_end : (channels samples c : ℕ) → c < channels → c * samples + samples ≤ channels * samples
part_end channels samples c h = go (c * samples) ((c + 1) * samples) (add-mul c 1 samples) (one-mul samples) (mul-le-mul_right samples (omega arith))
  where
    go : (a b : ℕ) → b ≡ a + 1 * samples → 1 * samples ≡ samples → b ≤ channels * samples → a + samples ≤ channels * samples
    go a b e f l = omega arith

product : (channels samples : ℕ) → channels ≤ max_channels → samples ≤ max_samples_per_channel → channels * samples ≤ 3840
product channels samples h k = mul-le-mul {n₂ = 8} {m₂ = 480} h k

-- a channel's part lies within the frame, which is short
pub record Ends (start samples all : ℕ) : Type 0 where
  pub within : start + samples ≤ all
  pub short : all ≤ 3840

pub part_ends : (channels samples c : ℕ) → c < channels → channels ≤ max_channels → samples ≤ max_samples_per_channel → Ends (c * samples) samples (channels * samples)
part_ends channels samples c h k l = record { within = part_end channels samples c h; short = product channels samples k l }

-- ---- lists of rings

push_listed : (cap : ℕ) (f : ℕ → Level) (g : ℕ → List Level) (n : ℕ) → push_each cap (listed f n) (listed g n) ≡ listed (λ c. push cap (f c) (g c)) n
unfolding push_each listed
push_listed cap f g zero = refl
push_listed cap f g (suc n) = ap (λ (l : List (List Level)). push cap (f 0) (g 0) ∷ l) (push_listed cap (λ i. f (suc i)) (λ i. g (suc i)) n)

abbrev none : List Level
none = []

-- ---- what the loops do

-- r is p with other rings
pub record Kept (p r : ClippingPredictor) : Type 0 where
  pub settings : r.settings ≡ p.settings
  pub channels : r.channels ≡ p.channels

abbrev pub PushedAt : List Level → ℕ → ClippingPredictorLevelBuffer → ClippingPredictorLevelBuffer → Type 0
PushedAt items c old new = Pushed old (get_or items c no_level) new

abbrev pub EmptiedAt : ℕ → ClippingPredictorLevelBuffer → ClippingPredictorLevelBuffer → Type 0
EmptiedAt c old new = Emptied old.capacity new

-- levels have entered the rings
pub record Entered (p : ClippingPredictor) (items : List Level) (r : ClippingPredictor) : Type 0 where
  pub good : Good r
  pub view : view_of r ≡ with_levels (levels_in items p.channels) (view_of p)

-- a ring that a level has entered
module _ (s : Settings) (old new : ClippingPredictorLevelBuffer) (level : Level) (on : s.enabled ≡ true) (good : GoodFor s old) (pushed : Pushed old level new) where
  pub pushed_good : GoodFor s new
  pushed_good = record { settings = good.settings; ring = pushed.good; capacity = pushed.capacity_is ∙ good.capacity; off = λ e. clash (sym on ∙ e) }

  pub pushed_stored : stored new ≡ push (capacity_of s) level (stored old)
  pushed_stored = pushed.stored_is ∙ ap (λ (n : ℕ). push n level (stored old)) (good.capacity ∙ ap (λ (b : Bool). capacity_if b (s.delay + s.reference)) (sym on))

-- the rings that levels have entered, one for each channel
module _ (p : ClippingPredictor) where
  abbrev pub entering : (ℕ → Level) → Predictor
  entering f = with_levels (listed f p.channels) (view_of p)

  entered_rings : (f : ℕ → Level) → (entering f).rings ≡ listed (λ c. push (capacity_of p.settings) (f c) (stored (ring_at p c))) p.channels
  unfolding view_of
  entered_rings f = push_listed (capacity_of p.settings) f (λ c. stored (ring_at p c)) p.channels

  pub entered_length : (f : ℕ → Level) → length (entering f).rings ≡ p.channels
  entered_length f = ap length (entered_rings f) ∙ length_listed _ p.channels

  pub entered_at : (f : ℕ → Level) (c : ℕ) (new : ClippingPredictorLevelBuffer) → Good p → p.settings.enabled ≡ true → c < p.channels → Pushed (ring_at p c) (f c) new → stored new ≡ get_or (entering f).rings c none
  entered_at f c new good on k pushed =
      pushed_stored p.settings (ring_at p c) new (f c) on (good.each c k) pushed
      ∙ sym (ap (λ (l : List (List Level)). get_or l c none) (entered_rings f)
      ∙ get_d_listed (λ i. push (capacity_of p.settings) (f i) (stored (ring_at p i))) p.channels c none k)

  -- a frame's levels are those of its channels' parts
  pub entered_frame : (f : ℕ → Level) (samples : ℕ) (frame : List Float) → ((c : ℕ) → c < p.channels → f c ≡ frame_record (part_of samples frame c)) → entering f ≡ entered_if true samples frame (view_of p)
  unfolding view_of
  entered_frame f samples frame same =
      let records : ℕ → Level = λ c. frame_record (part_of samples frame c) in
      ap (λ (l : List Level). with_levels l (view_of p)) (listed_same f records p.channels same ∙ ap (listed records) (sym (length_listed (λ c. stored (ring_at p c)) p.channels)))

module _ (p r : ClippingPredictor) (good : Good p) (kept : Kept p r) where
  view_of_lem : (f : ℕ → List Level) → ((c : ℕ) → c < p.channels → stored (ring_at r c) ≡ f c) → view_of r ≡ record { settings = p.settings; rings = listed f p.channels }
  unfolding view_of
  view_of_lem f h = λ i. record {
    settings = kept.settings i;
    rings = (ap (listed (λ c. stored (ring_at r c))) kept.channels ∙ listed_same (λ c. stored (ring_at r c)) f p.channels h) i;
  }

  good_of : length r.rings ≡ length p.rings → ((c : ℕ) → c < p.channels → GoodFor p.settings (ring_at r c)) → Good r
  good_of l h = record {
    settings = rw kept.settings good.settings;
    channels_low = omega (arith, kept.channels, good.channels_low);
    channels_high = omega (arith, kept.channels, good.channels_high);
    places = l ∙ good.places;
    each = λ c k. rw kept.settings (h c (omega (arith, kept.channels)));
  }

  pub all_pushed : (items : List Level) → p.settings.enabled ≡ true → Replaced no_ring (PushedAt items) p.channels p.rings r.rings → Entered p items r
  unfolding view_of
  all_pushed items on done =
      let f : ℕ → Level = λ c. get_or items c no_level in
      record {
        good = good_of done.same_length (λ c h. pushed_good p.settings (ring_at p c) (ring_at r c) (f c) on (good.each c h) (done.done c h));
        view =
            view_of_lem (λ c. push (capacity_of p.settings) (f c) (stored (ring_at p c))) (λ c h. pushed_stored p.settings (ring_at p c) (ring_at r c) (f c) on (good.each c h) (done.done c h))
            ∙ (λ i. record { settings = p.settings; rings = sym (entered_rings p f) i });
      }

  pub all_emptied : Replaced no_ring EmptiedAt p.channels p.rings r.rings → ResetOf p r
  unfolding view_of
  all_emptied done = record {
    good = good_of done.same_length (λ c h. let g = good.each c h in let q = done.done c h in record { settings = good.settings; ring = q.good; capacity = q.capacity_is ∙ g.capacity; off = λ e. q.stored_is });
    view =
        view_of_lem (λ c. none) (λ c h. (done.done c h).stored_is)
        ∙ (λ i. record { settings = p.settings; rings = sym (map_listed (λ (r : List Level). none) (λ c. stored (ring_at p c)) p.channels) i });
  }

-- ---- a predictor with empty rings

pub made_fresh : (channels : ℕ) (s : Settings) (ring : ClippingPredictorLevelBuffer) → Settings.Good s → 1 ≤ channels → channels ≤ max_channels → Emptied (s.delay + s.reference) ring
    → Fresh channels s (record { rings = replicate max_channels ring; channels = channels; settings = s })
unfolding view_of
made_fresh channels s ring good low high e =
    let at : (c : ℕ) → c < channels → get_or (replicate max_channels ring) c no_ring ≡ ring = λ c h. get_or-replicate max_channels c ring no_ring (omega arith) in
    record {
      good = record {
        settings = good;
        channels_low = low;
        channels_high = high;
        places = length-replicate max_channels ring;
        each = λ c h. subst (GoodFor s) (sym (at c h)) (record { settings = good; ring = e.good; capacity = e.capacity_is; off = λ _. e.stored_is });
      };
      view = λ i. record { settings = s; rings = (listed_same _ (λ c. none) channels (λ c h. ap stored (at c h) ∙ e.stored_is) ∙ listed_constant none channels) i };
    }

-- ---- a predictor that is off: levels do not change it

pub off_same : (p : ClippingPredictor) (f : ℕ → Level) → Good p → p.settings.enabled ≡ false → view_of p ≡ entering p f
unfolding view_of
off_same p f good e =
    let g : ℕ → List Level = λ c. stored (ring_at p c) in
    let none_kept : (c : ℕ) → push (capacity_of p.settings) (f c) (g c) ≡ none = λ c. ap (λ (b : Bool). push (capacity_if b (p.settings.delay + p.settings.reference)) (f c) (g c)) e in
    λ i. record {
      settings = p.settings;
      rings = (listed_same g (λ c. push (capacity_of p.settings) (f c) (g c)) p.channels (λ c h. (good.each c h).off e ∙ sym (none_kept c))
          ∙ sym (entered_rings p f)) i;
    }
