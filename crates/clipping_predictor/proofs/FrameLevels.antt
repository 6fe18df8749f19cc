-- The levels of a frame's channels: what measuring one or two of them answers, and the array that they are put into. Assumes nothing.
use mathlib.Core.Path.{◌≡◌, sym, ap, subst, ◌∙◌}
use mathlib.Core.Bool.{Bool, true}
use mathlib.Core.List.{List}
use Prim.Native.Nat.{ℕ, ◌+◌, ◌*◌, ◌≤◌, ◌<◌}
use native.Mathlib.Omega.{arith}
use native.Mathlib.Decide.{dec_lt}
use lib.Dec.{ltb}
use lib.Ieee.{Float}
use lib.ListN.{length, get_or, get_or-replicate, length-replicate, length-take, length-drop}
use borrow.Author.Tests.{le-leb, eq-eqb, lt-ltb, le-ltb}
use Rattle.std.specs.Prelude.{Result, Ok}
use Rattle.numbers.proofs.Listed.{get_d_listed, listed_of}
use Rattle.numbers.proofs.Arrays.{Replaced}
use Rattle.numbers.specs.declared.refusal.Refusal.{Refusal}
use Rattle.numbers.specs.Said.{said}
use Rattle.numbers.proofs.Said.{said_fixed}
use Rattle.clipping_predictor_level_buffer.specs.declared.level.Level.{Level}
use Rattle.clipping_predictor_level_buffer.specs.Level.{max_samples_per_channel, frame_record, measure_of, two_records, measure_two_of}
use Rattle.clipping_predictor_level_buffer.specs.Ring.{no_level}
use Rattle.clipping_predictor.specs.declared.ClippingPredictor.{ClippingPredictor}
use Rattle.clipping_predictor.specs.declared.measuring.Levels.{Levels}
use Rattle.clipping_predictor.specs.Predictor.{max_channels, view_of, Good, part_of, frame_fits, levels_in, with_levels, entered_if}
use Rattle.clipping_predictor.specs.FrameLevels.{silence, silent, level_if, levels_array, MeasuredAs, measuring_of, MeasuredOf}
use Rattle.clipping_predictor.proofs.Frames.{fits, part_ends, entered_frame}

-- ---- one channel and two

pub same_Ok : {A E : Type 0} (x y : A) → ◌≡◌ {A = Result A E} (Ok x) (Ok y) → x ≡ y
same_Ok x y e = cc

-- a channel that is measured, as a call of `measure` says it, has its record
pub is_measured : (samples : List Float) (r : Result Level Refusal) → 1 ≤ length samples → length samples ≤ max_samples_per_channel → said r ≡ said (measure_of samples)
    → r ≡ Ok (frame_record samples)
unfolding measure_of
is_measured samples r h k e = said_fixed r (measure_of samples) e ∙ rw (le-leb 1 (length samples) h, le-leb (length samples) max_samples_per_channel k)

-- and so have two
pub are_measured : (first second : List Float) (r : Result (Level × Level) Refusal) → 1 ≤ length first → length first ≤ max_samples_per_channel → length second ≡ length first
    → said r ≡ said (measure_two_of first second) → r ≡ Ok (two_records first second)
unfolding measure_two_of
are_measured first second r h k same e =
    said_fixed r (measure_two_of first second) e ∙ rw (le-leb 1 (length first) h, le-leb (length first) max_samples_per_channel k, eq-eqb (length first) (length second) (sym same))

-- ---- what a frame is answered

module _ (channels samples : ℕ) (frame : List Float) where
  -- the answer that the tests come to
  pub measured_as : (answer : Result (Unit {0}) Refusal) (r : Result Levels Refusal) → measuring_of channels samples frame ≡ answer → MeasuredAs answer (levels_array channels samples frame) r → MeasuredOf channels samples frame r
  measured_as answer r e m = subst (λ (o : Result (Unit {0}) Refusal). MeasuredAs o (levels_array channels samples frame) r) (sym e) m

-- ---- the array

-- a place of the array holds the record of its channel
abbrev pub MeasuredAt : ℕ → List Float → ℕ → Level → Level → Type 0
MeasuredAt samples frame c old new = new ≡ frame_record (part_of samples frame c)

module _ (channels samples : ℕ) (frame : List Float) where
  abbrev placed : ℕ → Level
  placed c = level_if (ltb c channels) (frame_record (part_of samples frame c))

  -- as many channels, counted otherwise
  pub so_many : (n m : ℕ) (items : List Level) → n ≡ m → Replaced no_level (MeasuredAt samples frame) n silent items → Replaced no_level (MeasuredAt samples frame) m silent items
  so_many n m items e done = subst (λ (k : ℕ). Replaced no_level (MeasuredAt samples frame) k silent items) e done

  -- the array from one of silence
  pub is_array : (items : List Level) → Replaced no_level (MeasuredAt samples frame) channels silent items → items ≡ levels_array channels samples frame
  unfolding levels_array
  is_array items done =
      let m : length items ≡ max_channels = done.same_length ∙ length-replicate max_channels silence in
      listed_of items no_level placed max_channels m (λ c h. elim (dec_lt c channels) [
        | yes k ↦ done.done c k ∙ sym (ap (λ (b : Bool). level_if b (frame_record (part_of samples frame c))) (lt-ltb c channels k))
        | no k ↦ done.rest c (omega (arith, k)) ∙ get_or-replicate max_channels c silence no_level h ∙ sym (ap (λ (b : Bool). level_if b (frame_record (part_of samples frame c))) (le-ltb c channels (omega (arith, k))))
      ])

  pub array_at : (c : ℕ) → channels ≤ max_channels → c < channels → get_or (levels_array channels samples frame) c no_level ≡ frame_record (part_of samples frame c)
  unfolding levels_array
  array_at c most h = get_d_listed placed max_channels c no_level (omega arith) ∙ ap (λ (b : Bool). level_if b (frame_record (part_of samples frame c))) (lt-ltb c channels h)

-- a frame enters the rings as the array of its levels does
pub array_entered : (p : ClippingPredictor) (samples : ℕ) (frame : List Float) → Good p → with_levels (levels_in (levels_array p.channels samples frame) p.channels) (view_of p) ≡ entered_if true samples frame (view_of p)
array_entered p samples frame good =
    entered_frame p (λ c. get_or (levels_array p.channels samples frame) c no_level) samples frame (λ c h. array_at p.channels samples frame c good.channels_high h)

-- ---- a channel's part of a frame that fits

pub record Part (channel samples : ℕ) (frame : List Float) : Type 0 where
  pub least : 1 ≤ samples
  pub most : samples ≤ max_samples_per_channel
  pub within : channel * samples + samples ≤ length frame
  pub short : length frame ≤ 3840
  pub long : length (part_of samples frame channel) ≡ samples

pub a_part : (channels samples : ℕ) (frame : List Float) (channel : ℕ) → channel < channels → channels ≤ max_channels → frame_fits channels samples frame ≡ true → Part channel samples frame
a_part channels samples frame channel h k e =
    let f = fits channels samples frame e in
    let n = part_ends channels samples channel h k f.most in
    record { least = f.least; most = f.most; within = omega (arith, n.within, f.all); short = omega (arith, n.short, f.all); long = simp (length-take, length-drop) (omega (arith, n.within, f.all)) }
