-- A frame that is written sample after sample, and channel after channel. Assumes nothing.
use mathlib.Core.Path.{◌≡◌, refl, sym, ap, subst, ◌∙◌}
use mathlib.Core.Bool.{Bool}
use mathlib.Core.List.{List, [], ◌∷◌, ◌++◌, map, append-nil, append_assoc}
use Prim.Native.Nat.{ℕ, zero, suc, ◌+◌, ◌*◌, ◌≤◌, ◌<◌}
use native.Mathlib.Nat.{not-suc-le-zero, le_of_suc-le-suc, zero-add, zero-mul, suc-mul, mul_comm, mul-le-mul_right, div-mul-le_self}
use native.Mathlib.Numerals.{add-one}
use native.Mathlib.Omega.{arith}
use lib.IntN.{ℤ, pos}
use lib.Ieee.{Float, binary32, of_int}
use lib.ListN.{length, get_or, set, take, drop, length-append, length-drop}
use lib.Seq.{paste, paste-zero, paste-suc, length-paste, length-take-le, take-length, drop-length, drop-drop, take_at, drop_at}
use borrow.Author.Tests.{le-leb, lt-leb}
use borrow.Rule.Slice.PartMut.{put_mid}
use Rattle.numbers.specs.Listed.{listed}
use Rattle.numbers.proofs.Listed.{length_listed, get_d_listed}
use Rattle.agc2.specs.Samples.{moments, channel_of, joined, interleaved_frame, laid_if, laid}

-- ---- a frame that is written as far as k

pub record Written (before frame after : List Float) (k : ℕ) : Type 0 where
  pub within : k ≤ length frame
  pub is : after ≡ paste before 0 frame k

module _ (before frame : List Float) where
  pub starts : Written before frame before 0
  starts = record { within = omega arith; is = paste-zero before 0 frame }

  pub goes_on : (after : List Float) (k : ℕ) (z x : Float) → Written before frame after k → length frame ≤ length before → k < length frame → x ≡ get_or frame k z
      → Written before frame (set after k x) (k + 1)
  goes_on after k z x w room below e = record {
    within = omega arith;
    is =
        (λ i. set (w.is i) (sym (zero-add k) i) (e i)) ∙ paste-suc before 0 frame k z (omega (arith, room)) below
        ∙ ap (paste before 0 frame) (sym (add-one k));
  }

  pub same_length : (after : List Float) (k : ℕ) → Written before frame after k → length frame ≤ length before → length after ≡ length before
  same_length after k w room = ap length w.is ∙ length-paste before 0 frame k (omega (arith, w.within, room)) w.within

-- all of it, where there is room
pasted : (before frame : List Float) → paste before 0 frame (length frame) ≡ frame ++ drop (length frame) before
pasted before frame = λ i. take-length frame i ++ drop (zero-add (length frame) i) before

pub laid_all : (before frame : List Float) → length frame ≤ length before → frame ++ drop (length frame) before ≡ laid frame before
laid_all before frame room = ap (λ (b : Bool). laid_if b frame before) (sym (le-leb (length frame) (length before) room))

pub written_all : (before frame after : List Float) (k : ℕ) → Written before frame after k → length frame ≤ k → length frame ≤ length before → after ≡ laid frame before
written_all before frame after k w all room =
    let e : k ≡ length frame = omega (arith, w.within) in
    w.is ∙ ap (paste before 0 frame) e ∙ pasted before frame ∙ laid_all before frame room

pub none_laid : (before frame : List Float) → frame ≡ [] → before ≡ laid frame before
none_laid before frame e = sym (ap (λ (l : List Float). l ++ drop (length l) before) e) ∙ laid_all before frame (subst (λ (l : List Float). length l ≤ length before) (sym e) (omega arith))

pub not_laid : (before frame : List Float) → length before < length frame → before ≡ laid frame before
not_laid before frame short = ap (λ (b : Bool). laid_if b frame before) (sym (lt-leb (length frame) (length before) short))

-- a sample of a list that is made sample by sample
pub get_d_map : (f : Float → Float) (xs : List Float) (k : ℕ) (d e : Float) → k < length xs → f (get_or xs k d) ≡ get_or (map f xs) k e
get_d_map f [] k d e h = absurd (not-suc-le-zero h)
get_d_map f (x ∷ xs) zero d e h = refl
get_d_map f (x ∷ xs) (suc k) d e h = get_d_map f xs k d e (le_of_suc-le-suc h)

-- ---- interleaved

pub length_channel : (channels n : ℕ) (samples : List ℤ) (channel : ℕ) → length (channel_of channels n samples channel) ≡ n
length_channel channels n samples channel = length_listed (λ (i : ℕ). of_int binary32 (get_or samples (i * channels + channel) (pos 0))) n

-- the sample at a moment
pub sample_at : (channels n : ℕ) (samples : List ℤ) (channel i : ℕ) (x : ℤ) (z : Float) → i < n → x ≡ get_or samples (i * channels + channel) (pos 0)
    → of_int binary32 x ≡ get_or (channel_of channels n samples channel) i z
sample_at channels n samples channel i x z below e =
    ap (of_int binary32) e ∙ sym (get_d_listed (λ (j : ℕ). of_int binary32 (get_or samples (j * channels + channel) (pos 0))) n i z below)

-- moment i of a channel is within the samples, and the moments before it are
pub place_within : (channels channel n i : ℕ) → channel < channels → i < n → i * channels + channel < n * channels
place_within channels channel n i h k = omega (arith, h, subst (λ (p : ℕ). p ≤ n * channels) (suc-mul i channels) (mul-le-mul_right channels k))

-- all of a part is written
pub whole_part : (before frame after : List Float) (k : ℕ) → Written before frame after k → length frame ≤ k → length frame ≡ length before → after ≡ frame
whole_part before frame after k w all h =
    let e : k ≡ length frame = omega (arith, w.within) in
    w.is ∙ ap (paste before 0 frame) e ∙ pasted before frame ∙ ap (λ (l : List Float). frame ++ l) (ap (λ (m : ℕ). drop m before) h ∙ drop-length before) ∙ append-nil frame

-- ---- channels one after another

module _ (f : ℕ → List Float) (n : ℕ) (each : (c : ℕ) → length (f c) ≡ n) where
  pub length_joined : (c : ℕ) → length (joined f c) ≡ c * n
  unfolding joined
  length_joined zero = sym (zero-mul n)
  length_joined (suc c) = length-append (joined f c) (f c) ∙ omega (arith, length_joined c, each c, suc-mul c n)

  pub joined_next : (before frame part : List Float) (c k : ℕ) → frame ≡ joined f c ++ drop (c * n) before → part ≡ f c → k ≡ n → put_mid (c * n) k frame part ≡ joined f (c + 1) ++ drop ((c + 1) * n) before
  unfolding joined
  joined_next before frame part c k e p same =
      let front : take (c * n) frame ≡ joined f c = ap (take (c * n)) e ∙ take_at (joined f c) (drop (c * n) before) (c * n) (length_joined c) in
      let behind : drop (c * n) frame ≡ drop (c * n) before = ap (drop (c * n)) e ∙ drop_at (joined f c) (drop (c * n) before) (c * n) (length_joined c) in
      let more : c * n + k ≡ suc c * n = omega (arith, same, suc-mul c n) in
      (λ i. front i ++ (p i ++ drop k (behind i))) ∙ ap (λ (l : List Float). joined f c ++ (f c ++ l)) (drop-drop k (c * n) before ∙ ap (λ (m : ℕ). drop m before) more)
      ∙ sym (append_assoc (joined f c) (f c) (drop (suc c * n) before)) ∙ ap (λ (m : ℕ). joined f m ++ drop (m * n) before) (sym (add-one c))

  -- what is behind is as long as it was
  pub kept_joined : (before : List Float) (c : ℕ) → c * n ≤ length before → length (joined f c ++ drop (c * n) before) ≡ length before
  kept_joined before c h = length-append (joined f c) (drop (c * n) before) ∙ omega (arith, length_joined c, length-drop (c * n) before)

-- a channel's part is within the frame
pub part_within : (channels n c : ℕ) → c < channels → c * n + n ≤ n * channels
part_within channels n c h = omega (arith, mul_comm n channels, suc-mul c n, mul-le-mul_right n h)

pub channels_within : (channels n c : ℕ) → c ≤ channels → c * n ≤ n * channels
channels_within channels n c h = omega (arith, mul_comm n channels, mul-le-mul_right n h)

-- as long as that part is, so many moments are within the samples
pub part_moments : (channels n from k total : ℕ) (frame : List Float) → k ≡ n → n * channels ≤ total → from + n ≤ length frame → (length (take k (drop from frame)) ≡ n) × (length (take k (drop from frame)) * channels ≤ total)
part_moments channels n from k total frame e h within =
    let long : length (take k (drop from frame)) ≡ n = length-take-le k (drop from frame) (omega (arith, e, length-drop from frame)) ∙ e in
    (long, subst (λ (m : ℕ). m * channels ≤ total) (sym long) h)

pub none_joined : (f : ℕ → List Float) (c : ℕ) → ((k : ℕ) → f k ≡ []) → joined f c ≡ []
unfolding joined
none_joined f zero h = refl
none_joined f (suc c) h = (λ i. none_joined f c h i ++ h c i)

-- ---- a whole frame

module _ (channels : ℕ) (samples : List ℤ) where
  pub length_interleaved : length (interleaved_frame channels samples) ≡ moments channels samples * channels
  length_interleaved = length_joined (channel_of channels (moments channels samples) samples) (moments channels samples) (length_channel channels (moments channels samples) samples) channels ∙ mul_comm channels (moments channels samples)

  -- without a channel there is no sample, and without a moment there is none
  pub no_channel : channels ≡ 0 → interleaved_frame channels samples ≡ []
  unfolding joined
  no_channel e = ap (joined (channel_of channels (moments channels samples) samples)) e

  pub no_moment : moments channels samples ≡ 0 → interleaved_frame channels samples ≡ []
  unfolding listed
  no_moment e = none_joined (channel_of channels (moments channels samples) samples) channels (λ k. ap (λ (n : ℕ). channel_of channels n samples k) e)

  -- what `separate` says, of as many channels by another name
  pub separated : (before after : List Float) (count : ℕ) → channels ≡ count → moments channels samples * channels ≤ length before
      → after ≡ joined (channel_of count (moments channels samples) samples) count ++ drop (moments channels samples * count) before → after ≡ laid (interleaved_frame channels samples) before
  separated before after count e room said =
      let n = moments channels samples in
      said ∙ (λ i. joined (channel_of (sym e i) n samples) (sym e i) ++ drop (n * sym e i) before) ∙ ap (λ (k : ℕ). interleaved_frame channels samples ++ drop k before) (sym length_interleaved)
      ∙ laid_all before (interleaved_frame channels samples) (omega (arith, length_interleaved))

  pub counted_within : (frame : List Float) (count : ℕ) → channels ≡ count → moments channels samples * channels ≤ length frame → (moments channels samples * count ≤ length samples) × (moments channels samples * count ≤ length frame)
  counted_within frame count e room =
      let same : moments channels samples * count ≡ moments channels samples * channels = ap (λ (k : ℕ). moments channels samples * k) (sym e) in
      (omega (arith, same, div-mul-le_self (length samples) channels), omega (arith, same))
