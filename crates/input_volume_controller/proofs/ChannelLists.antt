-- The channels of a controller: what the loops over them do to the list of their states. Assumes nothing.
use mathlib.Core.Path.{◌≡◌, refl, sym, ap, subst, ◌∙◌}
use mathlib.Core.Bool.{Bool, true, false, not, ◌||◌}
use mathlib.Core.List.{List, [], ◌∷◌}
use Prim.Native.Nat.{ℕ, zero, suc, ◌+◌, ◌≤◌, ◌<◌}
use native.Mathlib.Nat.{not-suc-le-zero, le_of_suc-le-suc, zero-add}
use Rattle.std.specs.Prelude.{MatchBool}
use Rattle.std.specs.List.{range_with_len, HoldsAt, AllWithin}
use Rattle.std.proofs.lemmas.List.FromFn.{length-range_with_len, get_or-range_with_len}
use native.Mathlib.Omega.{arith}
use lib.ListN.{length, get_or, drop, replicate, get_or-replicate, length-replicate}
use Rattle.numbers.specs.Listed.{listed}
use Rattle.numbers.proofs.Listed.{length_listed, listed_same, drop_listed, drop_past, map_listed, listed_constant}
use Rattle.numbers.proofs.Arrays.{Replaced}
use Rattle.clipping_predictor.specs.Predictor.{max_channels}
use Rattle.mono_input_volume_controller.specs.declared.mono.MonoInputVolumeController.{MonoInputVolumeController}
use Rattle.input_volume_controller.specs.Channels.{ChannelCall, StreamAnalogLevel, no_channel, channel_at, channels_of, Good, Becomes, KeepsGood, EachCalled, called, each_called, each_given, lower_of, aggregate_from, aggregate_of}
use Rattle.input_volume_controller.specs.declared.channels.Channels.{Channels}
use Rattle.input_volume_controller.specs.declared.channels.Aggregate.{Aggregate}
use Rattle.mono_input_volume_controller.specs.MonoState as Mono
use Rattle.mono_input_volume_controller.specs.SameVolumes.{same_volumes}
use Rattle.input_volume_controller.specs.Differ.{other_volumes}
use Rattle.input_volume_controller.specs.VolumeSet.{level_at, levels_of}

pub count_is : (c : Channels) → length (channels_of c) ≡ c.count
unfolding channels_of
count_is c = length_listed (channel_at c) c.count

-- ---- one call of every channel

-- what a loop leaves that has called each channel
module _ {post : ℕ → MonoInputVolumeController → MonoInputVolumeController → Type 0} (c r : Channels) (good : Good c) where
  pub each_done : KeepsGood post → r.count ≡ c.count → (n : ℕ) → c.count ≤ n → Replaced no_channel post n c.items r.items → EachCalled post c r
  each_done keeps e n past done = record {
    good = record {
      low = omega (arith, e, good.low);
      high = omega (arith, e, good.high);
      places = done.same_length ∙ good.places;
      each = λ i h. let k : i < c.count = omega (arith, e) in keeps i _ _ (omega (arith, good.high)) (good.each i k) (done.done i (omega arith));
    };
    count = e;
    each = λ i h. done.done i (omega arith);
  }

  -- a call by the channel's place
  called_listed : EachCalled post c r → (call : ℕ → ChannelCall) → ((i : ℕ) (m n : MonoInputVolumeController) → i < max_channels → Mono.Good m → post i m n → Mono.Becomes (called (call i) m) n)
      → Becomes (listed (λ i. called (call i) (channel_at c i)) c.count) r
  unfolding channels_of
  called_listed all call is = record {
    good = all.good;
    is = ap (listed (channel_at r)) all.count ∙ listed_same (channel_at r) (λ i. called (call i) (channel_at c i)) c.count (λ i h. (is i _ _ (omega (arith, good.high)) (good.each i h) (all.each i h)).is);
  }

  -- the same call for each
  pub all_called : EachCalled post c r → (call : ChannelCall) → ((i : ℕ) (m n : MonoInputVolumeController) → i < max_channels → Mono.Good m → post i m n → Mono.Becomes (called call m) n) → Becomes (each_called call (channels_of c)) r
  unfolding channels_of
  all_called all call is =
      let b = called_listed all (λ _. call) is in
      record { good = b.good; is = b.is ∙ sym (map_listed (called call) (channel_at c) c.count) }

-- its own volume for each
given_listed : (levels : ℕ → ℕ) (f : ℕ → MonoInputVolumeController) (n : ℕ) → each_given (listed levels n) (listed f n) ≡ listed (λ i. called (StreamAnalogLevel (levels i)) (f i)) n
unfolding each_given listed
given_listed levels f zero = refl
given_listed levels f (suc n) = ap (λ (l : List MonoInputVolumeController). called (StreamAnalogLevel (levels 0)) (f 0) ∷ l) (given_listed (λ i. levels (suc i)) (λ i. f (suc i)) n)

pub all_given : (levels : List ℕ) {post : ℕ → MonoInputVolumeController → MonoInputVolumeController → Type 0} (c r : Channels) → Good c → EachCalled post c r
    → ((i : ℕ) (m n : MonoInputVolumeController) → i < max_channels → Mono.Good m → post i m n → Mono.Becomes (called (StreamAnalogLevel (level_at levels i)) m) n)
    → Becomes (each_given (levels_of levels c.count) (channels_of c)) r
unfolding channels_of levels_of
all_given levels c r good all is =
    let b = called_listed c r good all (λ i. StreamAnalogLevel (level_at levels i)) is in
    record { good = b.good; is = b.is ∙ sym (given_listed (level_at levels) (channel_at c) c.count) }

-- as many channels as before
pub length_given : (levels : List ℕ) (channels : List MonoInputVolumeController) → length (each_given levels channels) ≡ length channels
unfolding each_given
length_given levels [] = refl
length_given [] (m ∷ ms) = refl
length_given (l ∷ levels) (m ∷ ms) = ap suc (length_given levels ms)

-- ---- fresh channels

pub all_fresh : (count : ℕ) (m said : MonoInputVolumeController) → 1 ≤ count → count ≤ max_channels → Mono.Becomes said m → Becomes (replicate count said) (record { items = replicate max_channels m; count = count })
unfolding channels_of
all_fresh count m said low high b =
    let at : (i : ℕ) → i < count → get_or (replicate max_channels m) i no_channel ≡ m = λ i h. get_or-replicate max_channels i m no_channel (omega arith) in
    record {
      good = record { low = low; high = high; places = length-replicate max_channels m; each = λ i h. subst Mono.Good (sym (at i h)) b.good };
      is = listed_same _ (λ i. said) count (λ i h. at i h ∙ b.is) ∙ listed_constant said count;
    }

-- ---- the lowest volume

starts : (f : ℕ → MonoInputVolumeController) (n : ℕ) → 1 ≤ n → aggregate_from (record { volume = (f 0).volume; channel = 0 }) 1 (drop 1 (listed f n)) ≡ aggregate_of (listed f n)
unfolding listed aggregate_of
starts f zero h = absurd (not-suc-le-zero h)
starts f (suc n) h = refl

module _ (f : ℕ → MonoInputVolumeController) (n : ℕ) where
  pub aggregate_starts : 1 ≤ n → aggregate_from (record { volume = (f 0).volume; channel = 0 }) 1 (drop 1 (listed f n)) ≡ aggregate_of (listed f n)
  aggregate_starts h = starts f n h

  pub aggregate_goes_on : (a : Aggregate) (i : ℕ) → i < n → aggregate_from (lower_of a (f i).volume i) (i + 1) (drop (i + 1) (listed f n)) ≡ aggregate_from a i (drop i (listed f n))
  unfolding aggregate_from
  aggregate_goes_on a i h = sym (ap (aggregate_from a i) (drop_listed f n i h))

  pub aggregate_ends : (a : Aggregate) (i : ℕ) → n ≤ i → aggregate_from a i (drop i (listed f n)) ≡ a
  unfolding aggregate_from
  aggregate_ends a i h = ap (aggregate_from a i) (drop_past f n i h)

-- ---- whether some channel has other volumes

or_true : (a b : Bool) → true ≡ b → true ≡ (a || b)
or_true true b e = refl
or_true false b e = e

-- at one place, and so at all
pub differs_at : (f g : ℕ → MonoInputVolumeController) (n i : ℕ) → i < n → not (same_volumes (f i) (g i)) ≡ true → true ≡ other_volumes (listed f n) (listed g n)
unfolding other_volumes listed
differs_at f g zero i h e = absurd (not-suc-le-zero h)
differs_at f g (suc n) zero h e = ap (λ (b : Bool). b || other_volumes (listed (λ i. f (suc i)) n) (listed (λ i. g (suc i)) n)) (sym e)
differs_at f g (suc n) (suc i) h e = or_true _ _ (differs_at (λ j. f (suc j)) (λ j. g (suc j)) n i (le_of_suc-le-suc h) e)

pub differs_nowhere : (f g : ℕ → MonoInputVolumeController) (n : ℕ) → ((i : ℕ) → i < n → not (same_volumes (f i) (g i)) ≡ false) → false ≡ other_volumes (listed f n) (listed g n)
unfolding other_volumes listed
differs_nowhere f g zero h = refl
differs_nowhere f g (suc n) h =
    differs_nowhere (λ i. f (suc i)) (λ i. g (suc i)) n (λ i k. h (suc i) (omega arith)) ∙ ap (λ (b : Bool). b || other_volumes (listed (λ i. f (suc i)) n) (listed (λ i. g (suc i)) n)) (sym (h 0 (omega arith)))

-- what `any` answers over the places
pub any_differs : (f g : ℕ → MonoInputVolumeController) (n : ℕ) (r : Bool) →
    MatchBool r ((k : ℕ) × (k < length (range_with_len 0 n)) × HoldsAt (λ i. not (same_volumes (f i) (g i)) ≡ true) (range_with_len 0 n) k) (AllWithin (λ i. not (same_volumes (f i) (g i)) ≡ false) (range_with_len 0 n) 0 (length (range_with_len 0 n)))
    → r ≡ other_volumes (listed f n) (listed g n)
any_differs f g n true w =
    let here : w.0 < n = omega (arith, w.1, length-range_with_len 0 n) in
    differs_at f g n w.0 here (subst (λ (i : ℕ). not (same_volumes (f i) (g i)) ≡ true) (get_or-range_with_len 0 n w.0 0 here ∙ zero-add w.0) (w.2 0))
any_differs f g n false all =
    differs_nowhere f g n (λ i h. subst (λ (k : ℕ). not (same_volumes (f k) (g k)) ≡ false) (get_or-range_with_len 0 n i 0 h ∙ zero-add i) (all i 0 (omega arith) (omega (arith, h, length-range_with_len 0 n))))
