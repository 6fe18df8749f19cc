-- For all settings, every channel count, every entry that takes one sample for each channel and every predictor whose threshold silence does not pass there is a lead-in with exactly as many accepted frames as the
-- claim asks: frames of silence. Assumes nothing.
use mathlib.Core.Path.{◌≡◌, refl, sym, ap, ◌∙◌, subst}
use mathlib.Core.List.{List, [], ◌∷◌, ◌++◌, map}
use mathlib.Core.Bool.{Bool, true, false, not, cond, ◌&&◌, ◌||◌}
use Prim.Native.Nat.{ℕ, zero, suc, ◌-◌, ◌*◌, ◌≤◌, ◌<◌}
use native.Mathlib.Nat.{le_of_eq, not-suc-le-zero}
use native.Mathlib.Omega.{arith}
use lib.Dec.{T, leb, eqb, ltb, ltb→lt, le→leb}
use borrow.Author.Tests.{lt-leb}
use lib.IntN.{ℤ, pos, negsuc}
use lib.Signed.{lt_z, le_z}
use lib.Ieee.{Float, nan, inf, fin, up, down, le, lt, eq, of_int}
use lib.Ieee.Fits.{eq→eqb}
use lib.ListN.{length, length-map, take, drop, replicate, length-replicate}
use Rattle.std.specs.Prelude.{None}
use Rattle.numbers.proofs.Truths.{and_false}
use Rattle.numbers.specs.Natural.{within_of}
use Rattle.numbers.specs.Listed.{listed}
use Rattle.levels.specs.declared.decibels.Decibels.TheVariants.{Finite}
use Rattle.levels.specs.Decibels.{plus, at_most}
use Rattle.levels.specs.FloatParts.{magnitude_of}
use Rattle.levels.specs.Level as Decibel
use Rattle.levels.specs.Level.{min_level_dbfs, dbfs}
use Rattle.clipping_predictor_level_buffer.specs.Statistics.{plus_zero, largest}
use Rattle.clipping_predictor_level_buffer.specs.Level.{frame_record}
use Rattle.clipping_predictor.specs.declared.settings.Settings as Predictor
use Rattle.clipping_predictor.specs.Predictor.{part_of, levels_of, frame_fits}
use Rattle.clipping_predictor_level_buffer.specs.Clipped.{one_if}
use Rattle.input_volume_controller.specs.declared.limits.Limits.{Limits}
use Rattle.input_volume_controller.specs.Volumes.{Volumes, are_numbers, numbers_of}
use Rattle.input_volume_controller.specs.Limits.{is_within}
use Rattle.input_volume_controller.specs.Calls.{Call, frame}
use Rattle.input_volume_controller.proofs.SetNumbers.{equal_numbers}
use Rattle.claims.specs.Past.{is_accepted}
use Rattle.claims.specs.LeadIn.{all, accepted_by, accepted_in, is_quiet, quiet, is_sound, compared_in, is_low, quiet_for, is_calm, calls_of}
use Rattle.claims.specs.TwoPasts.{enough, enough_for}
use Rattle.claims.specs.Every.{Every}
use Rattle.claims.specs.Sharp.{Through, LeadInOf, TakesOneSample, silent, LeadInsExist}
use Rattle.claims.proofs.Lists.{and_both, all_listed, is_true, map_replicate}
use Rattle.claims.proofs.QuietSamples.{sound}

pub all_replicate : {A : Type 0} (f : A → Bool) (n : ℕ) (a : A) → T (f a) → T (all f (replicate n a))
unfolding all
all_replicate f zero a t = tt
all_replicate f (suc n) a t = and_both (f a) (all f (replicate n a)) t (all_replicate f n a t)

pub or_right : (a b : Bool) → T b → T (a || b)
or_right true b t = tt
or_right false b t = t

accepted_replicate : (channels n : ℕ) (call : Call) → accepted_by channels call ≡ 1 → accepted_in channels (replicate n call) ≡ n
unfolding accepted_in
accepted_replicate channels zero call e = refl
accepted_replicate channels (suc n) call e = let r = accepted_replicate channels n call e in omega (arith, e, r)

hundreds_numbers : (n : ℕ) → T (are_numbers (numbers_of (map pos (replicate n 100))))
unfolding within_of
hundreds_numbers n = subst (λ (s : Volumes). T (are_numbers s)) (sym (ap numbers_of (map_replicate pos n 100) ∙ equal_numbers (pos 100) 100 n refl)) tt

-- a value of a kind, repeated before others of the kind
every_before : {A : Type 0} (P : A → Type 0) (n : ℕ) (a : A) (rest : List A) → P a → Every P rest → Every P (replicate n a ++ rest)
every_before P zero a rest p h = h
every_before P (suc n) a rest p h = (p, every_before P n a rest p h)

-- frames of one sample of zero for each channel, each at the volume 100
abbrev silence : ℕ → List Float
silence channels = replicate channels plus_zero

abbrev hundreds : ℕ → List ℕ
hundreds channels = replicate channels 100

silence_fits : (channels : ℕ) → T (frame_fits channels 1 (silence channels))
unfolding frame_fits
silence_fits channels = eq→eqb (length-replicate channels plus_zero ∙ once channels)
  where
    once : (n : ℕ) → n ≡ n * 1
    once n = omega arith

-- through an entry that takes them
module _ (most : Limits) (channels : ℕ) (takes : TakesOneSample most channels) where
  abbrev silent_frame : Call
  silent_frame = frame most (map pos (hundreds channels)) 1 (silence channels)

  silence_within : T (is_within most channels 1)
  silence_within = and_both (leb channels most.channels) (leb 1 most.samples) (le→leb channels most.channels takes.0) (le→leb 1 most.samples takes.1)

  silence_accepted : T (is_accepted most channels (map pos (hundreds channels)) 1 (silence channels))
  unfolding is_accepted
  silence_accepted =
      and_both (eqb (length (map pos (hundreds channels))) channels) _ (eq→eqb (length-map (hundreds channels) pos ∙ length-replicate channels 100))
      (and_both (are_numbers (numbers_of (map pos (hundreds channels)))) _ (hundreds_numbers channels)
      (and_both (frame_fits channels 1 (silence channels)) (is_within most channels 1) (silence_fits channels) silence_within))

  one_accepted : accepted_by channels silent_frame ≡ 1
  unfolding accepted_by
  one_accepted = ap one_if (is_true (is_accepted most channels (map pos (hundreds channels)) 1 (silence channels)) silence_accepted)

  -- ---- for every test that silence passes

  module _ (is_still : ℕ → List Float → Bool) (passes : T (is_still 1 (silence channels))) where
    silence_calm : T (is_calm channels is_still silent_frame)
    unfolding is_calm
    silence_calm = or_right (not (is_accepted most channels (map pos (hundreds channels)) 1 (silence channels))) (is_still 1 (silence channels)) passes

    silent_lead : (frames : ℕ) → LeadInOf most channels is_still frames
    unfolding all calls_of
    silent_lead frames =
        let exactly : accepted_in channels (replicate frames silent_frame) ≡ frames = accepted_replicate channels frames silent_frame one_accepted in (
          record {
            body = replicate frames silent_frame;
            after_initialise = [];
            after_frame = [];
            after_recommendation = [];
            most = most;
            volumes = hundreds channels;
            samples = 1;
            lent = silence channels;
            probability = plus_zero;
            level = None;
            calm = all_replicate (is_calm channels is_still) frames silent_frame silence_calm;
            long = le_of_eq (sym exactly);
            accepted = silence_accepted;
            still = passes;
            positive = all_replicate (leb 1) channels 100 tt;
            refused = tt;
          },
          exactly,
          (tt, every_before (Through most) frames silent_frame _ refl (tt, (refl, (tt, tt)))),
        )

-- ---- silence

zero_quiet : T (is_quiet plus_zero)
unfolding is_quiet of_int le lt eq
zero_quiet = tt

silence_quiet : (channels : ℕ) → T (quiet 1 (silence channels))
unfolding quiet
silence_quiet channels = all_replicate is_quiet channels plus_zero zero_quiet

-- a channel's part of it is one zero; past the last channel it is empty
part_of_silence : (P : List Float → Type 0) (n k : ℕ) → P [] → P (plus_zero ∷ []) → P (take 1 (drop k (replicate n plus_zero)))
part_of_silence P zero zero none one = none
part_of_silence P zero (suc k) none one = none
part_of_silence P (suc n) zero none one = one
part_of_silence P (suc n) (suc k) none one = part_of_silence P n k none one

module _ (p : Predictor.Settings) where
  abbrev compared : ℤ
  compared = compared_in p.mode p.threshold

  low_without : T (le_z silent compared) → T (is_low p (frame_record []))
  unfolding is_low frame_record largest dbfs Decibel.level_of Decibel.thousandths Decibel.above_one at_most plus
  low_without h = h

  low_with_zero : T (le_z silent compared) → T (is_low p (frame_record (plus_zero ∷ [])))
  unfolding is_low frame_record largest magnitude_of dbfs Decibel.level_of Decibel.thousandths Decibel.above_one at_most plus lt
  low_with_zero h = h

  pub silence_low : (channels : ℕ) → T (le_z silent compared) → T (quiet_for p channels 1 (silence channels))
  unfolding quiet_for
  silence_low channels h =
      and_both (all is_sound (silence channels)) (all (is_low p) (levels_of channels 1 (silence channels))) (all_replicate is_sound channels plus_zero (sound plus_zero zero_quiet))
      (all_listed (is_low p) (λ c. frame_record (part_of 1 (silence channels) c)) channels
      (λ c. part_of_silence (λ xs. T (is_low p (frame_record xs))) channels (c * 1) (low_without h) (low_with_zero h)))

-- ---- where silence is too loud

-- no level is below that of silence
above_if : (below : Bool) (n k : ℕ) → 90309 < k → le_z (cond below (negsuc (90310 - suc n)) (pos (n - 90310))) (negsuc k) ≡ false
above_if true n k h = lt-leb k (90310 - suc n) (omega arith)
above_if false n k h = refl

above : (n : ℕ) (t : ℤ) → T (lt_z t silent) → at_most (plus (Finite (pos n)) min_level_dbfs) (Finite t) ≡ false
unfolding at_most plus
above n (pos k) h = absurd h
above n (negsuc k) h = above_if (ltb n 90310) n k (ltb→lt 90309 k h)

none_low : (v : Float) (t : ℤ) → T (lt_z t silent) → at_most (dbfs v) (Finite t) ≡ false
unfolding dbfs Decibel.level_of at_most plus
none_low nan t h = refl
none_low (inf true) t h = above 0 t h
none_low (inf false) t h = refl
none_low (fin true m e) t h = above 0 t h
none_low (fin false m e) t h = above (Decibel.thousandths 20000 (m * up e) (down e)) t h

none_quiet : (p : Predictor.Settings) (channels samples : ℕ) (lent : List Float) → 1 ≤ channels → T (lt_z (compared_in p.mode p.threshold) silent) → quiet_for p channels samples lent ≡ false
unfolding quiet_for all listed is_low
none_quiet p zero samples lent h t = absurd (not-suc-le-zero h)
none_quiet p (suc channels) samples lent h t =
    ap (λ (low : Bool). all is_sound lent && (low && all (is_low p) (listed (λ c. frame_record (part_of samples lent (suc c))) channels))) (none_low (frame_record (part_of samples lent 0)).max (compared_in p.mode p.threshold) t)
    ∙ and_false (all is_sound lent)

-- THE CLAIM
pub lead_ins_exist : LeadInsExist
lead_ins_exist = record {
  own = λ s most channels takes. silent_lead most channels takes quiet (silence_quiet channels) (enough s);
  in_every_mode = λ p s most channels takes h. silent_lead most channels takes (quiet_for p channels) (silence_low p channels h) (enough_for p s);
  none_below = none_quiet;
}
