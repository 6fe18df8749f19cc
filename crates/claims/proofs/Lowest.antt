-- `aggregate_channel_levels` takes the lowest of the channels' volumes, and the first channel that has it. Assumes nothing.
use mathlib.Core.Path.{◌≡◌, refl, sym, ap, ◌∙◌, subst}
use mathlib.Core.Bool.{Bool, true, false}
use mathlib.Core.List.{List, [], ◌∷◌}
use Prim.Native.Nat.{ℕ, zero, suc, ◌+◌, ◌≤◌, ◌<◌}
use native.Mathlib.Nat.{not-suc-le-zero, le_refl}
use native.Mathlib.Decide.{dec_le}
use native.Mathlib.Omega.{arith}
use lib.Dec.{ltb}
use lib.ListN.{length, get_or}
use borrow.Author.Tests.{ltb-true, ltb-false}
use Rattle.mono_input_volume_controller.specs.declared.mono.MonoInputVolumeController.{MonoInputVolumeController}
use Rattle.input_volume_controller.specs.declared.channels.Aggregate.{Aggregate}
use Rattle.input_volume_controller.specs.Channels.{no_channel, lower_if, lower_of, aggregate_from, aggregate_of}

-- of the volumes of the first n channels, an aggregate is the lowest and the first that holds it
pub record LowestTo (f : ℕ → ℕ) (n : ℕ) (a : Aggregate) : Type 0 where
  pub there : a.channel < n
  pub is : f a.channel ≡ a.volume
  pub least : (i : ℕ) → i < n → a.volume ≤ f i
  pub first : (i : ℕ) → i < a.channel → a.volume < f i

plus_none : (n : ℕ) → n ≡ n + 0
plus_none n = omega arith

module _ (f : ℕ → ℕ) where
  -- what is at most the first n, and the next one
  at_most_lem : (n low : ℕ) → ((i : ℕ) → i < n → low ≤ f i) → low ≤ f n → (i : ℕ) → i < n + 1 → low ≤ f i
  at_most_lem n low before here i k = elim (dec_le n i) [ yes l ↦ subst (λ (x : ℕ). low ≤ f x) (last n i l k) here | no l ↦ before i (omega (arith, l)) ]
    where
      last : (n i : ℕ) → n ≤ i → i < n + 1 → n ≡ i
      last n i l k = omega arith

  -- one channel more
  lowest_if : (t : Bool) (n v : ℕ) (a : Aggregate) → f n ≡ v → ltb v a.volume ≡ t → LowestTo f n a → LowestTo f (n + 1) (lower_if t v n a)
  lowest_if true n v a e t l =
      let h = ltb-true v a.volume t in
      record {
        there = omega arith;
        is = e;
        least = at_most_lem n v (λ i k. omega (arith, h, l.least i k)) (omega (arith, e));
        first = λ i k. omega (arith, h, l.least i k);
      }
  lowest_if false n v a e t l =
      let h = ltb-false v a.volume t in
      record { there = omega (arith, l.there); is = l.is; least = at_most_lem n a.volume l.least (omega (arith, e, h)); first = l.first }

  lowest_from_lem : (ms : List MonoInputVolumeController) (n : ℕ) (a : Aggregate) → ((i : ℕ) → i < length ms → (get_or ms i no_channel).volume ≡ f (n + i)) → LowestTo f n a
      → LowestTo f (n + length ms) (aggregate_from a n ms)
  unfolding aggregate_from lower_of
  lowest_from_lem [] n a e l = subst (λ (k : ℕ). LowestTo f k a) (plus_none n) l
  lowest_from_lem (m ∷ ms) n a e l =
      subst (λ (k : ℕ). LowestTo f k (aggregate_from (lower_of a m.volume n) (n + 1) ms)) (shift n (length ms))
      (lowest_from_lem ms (n + 1) (lower_of a m.volume n) (λ i k. e (suc i) (omega (arith, k)) ∙ ap f (next n i))
      (lowest_if (ltb m.volume a.volume) n m.volume a (ap f (plus_none n) ∙ sym (e 0 (omega arith))) refl l))
    where
      next : (n i : ℕ) → n + suc i ≡ n + 1 + i
      next n i = omega arith

      shift : (n k : ℕ) → n + 1 + k ≡ n + suc k
      shift n k = omega arith

abbrev pub volumes : List MonoInputVolumeController → ℕ → ℕ
volumes ms i = (get_or ms i no_channel).volume

pub lowest_of_lem : (ms : List MonoInputVolumeController) → 1 ≤ length ms → LowestTo (volumes ms) (length ms) (aggregate_of ms)
unfolding aggregate_of
lowest_of_lem [] h = absurd (not-suc-le-zero h)
lowest_of_lem (m ∷ ms) h =
    subst (λ (k : ℕ). LowestTo (volumes (m ∷ ms)) k (aggregate_of (m ∷ ms))) (one (length ms))
    (lowest_from_lem (volumes (m ∷ ms)) ms 1 (record { volume = m.volume; channel = 0 }) (λ i k. ap (volumes (m ∷ ms)) (after_one i))
    (record { there = omega arith; is = refl; least = λ i k. only i k; first = λ i k. absurd (not-suc-le-zero k) }))
  where
    one : (n : ℕ) → 1 + n ≡ suc n
    one n = omega arith

    after_one : (i : ℕ) → suc i ≡ 1 + i
    after_one i = omega arith

    only : (i : ℕ) → i < 1 → m.volume ≤ volumes (m ∷ ms) i
    only zero k = le_refl _
    only (suc i) k = absurd (omega (arith, k))
