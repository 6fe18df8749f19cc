-- The outcome of a frame's tests: the frame is accepted where all four pass, and what they then say. Assumes nothing.
use mathlib.Core.Path.{◌≡◌, refl, sym, ap, ◌∙◌, subst}
use mathlib.Core.Bool.{Bool, true, false, ◌&&◌}
use mathlib.Core.List.{List, map}
use Prim.Native.Nat.{ℕ, ◌≤◌}
use lib.Dec.{T, eqb, eqb→eq}
use lib.IntN.{ℤ, nat_abs}
use lib.Ieee.{Float}
use lib.ListN.{length}
use borrow.Author.Tests.{le-leb}
use Rattle.std.specs.Prelude.{Err, Ok, Result}
use Rattle.numbers.specs.declared.refusal.Refusal.{Refusal}
use Rattle.clipping_predictor_level_buffer.specs.Level.{max_samples_per_channel}
use Rattle.clipping_predictor.specs.Predictor.{max_channels, frame_fits}
use Rattle.clipping_predictor.proofs.Frames.{fits}
use Rattle.input_volume_controller.specs.declared.limits.Limits.{Limits}
use Rattle.input_volume_controller.specs.Volumes.{number_set, are_numbers, numbers_of, numbers_in}
use Rattle.input_volume_controller.specs.Limits.{plain_limits, is_within}
use Rattle.input_volume_controller.specs.Frame.{tested_as, frame_outcome}
use Rattle.input_volume_controller.proofs.SetNumbers.{numbers_are}
use Rattle.claims.specs.Past.{is_accepted}
use Rattle.claims.proofs.Lists.{and_l, and_r, is_true}

-- ---- the four tests

abbrev pub is_taken : Result (Unit {0}) Refusal → Bool
is_taken (Ok tt) = true
is_taken (Err cause) = false

taken_is : (counted inside fits within : Bool) → is_taken (tested_as counted inside fits within) ≡ (counted && (inside && (fits && within)))
taken_is false inside fits within = refl
taken_is true false fits within = refl
taken_is true true false within = refl
taken_is true true true false = refl
taken_is true true true true = refl

taken : (o : Result (Unit {0}) Refusal) → T (is_taken o) → o ≡ Ok tt
taken (Ok tt) t = refl
taken (Err cause) t = absurd t

-- what an accepted frame's tests say
pub record AcceptedAs (most : Limits) (n : ℕ) (volumes : List ℤ) (samples : ℕ) (lent : List Float) : Type 0 where
  pub count : length volumes ≡ n
  pub numbers : numbers_of volumes ≡ number_set (map nat_abs volumes)
  pub fits : frame_fits n samples lent ≡ true
  pub within : is_within most n samples ≡ true

-- ---- a frame

module _ (most : Limits) (volumes : List ℤ) (samples : ℕ) (lent : List Float) where
  -- of so many channels as the calls are read for
  pub accepted_is : {n k : ℕ} → n ≡ k → is_taken (frame_outcome most n volumes samples lent) ≡ is_accepted most k volumes samples lent
  unfolding is_accepted
  accepted_is {n} {k} e =
      ap (λ (x : ℕ). is_taken (frame_outcome most x volumes samples lent)) e
      ∙ taken_is (eqb (length volumes) k) (are_numbers (numbers_of volumes)) (frame_fits k samples lent) (is_within most k samples)

  pub outcome_is : {n k : ℕ} → n ≡ k → T (is_accepted most k volumes samples lent) → frame_outcome most n volumes samples lent ≡ Ok tt
  outcome_is {n} {k} e t = taken (frame_outcome most n volumes samples lent) (subst T (sym (accepted_is e)) t)

  pub told_accepted : (n : ℕ) → frame_outcome most n volumes samples lent ≡ Ok tt → T (is_accepted most n volumes samples lent)
  told_accepted n e = subst T (sym (ap is_taken e) ∙ accepted_is {n = n} refl) tt

  pub accepted_as : (n : ℕ) → T (is_accepted most n volumes samples lent) → AcceptedAs most n volumes samples lent
  unfolding is_accepted
  accepted_as n t =
      let counted = eqb (length volumes) n in
      let are = are_numbers (numbers_of volumes) in
      let fits = frame_fits n samples lent in
      let within = is_within most n samples in
      let rest : T (are && (fits && within)) = and_r counted (are && (fits && within)) t in
      let last : T (fits && within) = and_r are (fits && within) rest in
      record {
        count = eqb→eq (length volumes) n (and_l counted (are && (fits && within)) t);
        numbers = numbers_are volumes (and_l are (fits && within) rest);
        fits = is_true fits (and_l fits within last);
        within = is_true within (and_r fits within last);
      }

-- its set is that of the numbers in it
pub set_of : {most : Limits} {n : ℕ} {volumes : List ℤ} {samples : ℕ} {lent : List Float} → AcceptedAs most n volumes samples lent → numbers_of volumes ≡ number_set (numbers_in (numbers_of volumes))
set_of a = a.numbers ∙ ap (λ s. number_set (numbers_in s)) (sym a.numbers)

-- what fits up to 8 channels is within the plain entry's limits
pub plain_within : (n samples : ℕ) (lent : List Float) → n ≤ max_channels → frame_fits n samples lent ≡ true → is_within plain_limits n samples ≡ true
plain_within n samples lent h e = λ i. le-leb n max_channels h i && le-leb samples max_samples_per_channel (fits n samples lent e).most i
