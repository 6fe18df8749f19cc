-- The packed differences are those of the gain table: one computed test, carried to every volume; and how far a gain is above another. Assumes nothing.
use mathlib.Core.Path.{◌≡◌, refl, sym, ap, subst, subst⁻¹, ◌∙◌}
use mathlib.Core.List.{List, [], ◌∷◌}
use Prim.Native.Nat.{ℕ, zero, suc, ◌+◌, ◌-◌, ◌≤◌, ◌<◌}
use native.Mathlib.Nat.{not-suc-le-zero, le_of_suc-le-suc}
use native.Mathlib.Omega.{arith}
use lib.Dec.{T, leb, leb→le, leb-suc-suc}
use lib.IntN.{ℤ, pos, negsuc, neg_ℤ, nat_abs, ◌+ℤ◌, ◌-ℤ◌, +ℤ_idr, +ℤ_idl, +ℤ_assoc, +ℤ_comm, +ℤ_invr, +ℤ-neg_ℤ_cancel, neg_ℤ-+ℤ}
use lib.Signed.{le_z}
use lib.ListN.{length, get_or}
use borrow.Author.Tests.{le-leb, lt-leb}
use Rattle.numbers.specs.Listed.{listed}
use Rattle.numbers.proofs.Listed.{length_listed, get_d_listed}
use Rattle.numbers.proofs.Signs.{difference_abs}
use Rattle.numbers.proofs.Tables.{at_each}
use Rattle.gain_map.specs.GainMap.{gain_map, gain}
use Rattle.gain_map.specs.Differences.{packed, word_of, difference, sums, unpacked}
use Rattle.gain_map.proofs.GainTable.{gain_size}

-- THE TEST: unpacking gives the table
pub unpacks : unpacked ≡ gain_map
unfolding unpacked sums listed difference word_of packed gain_map
unpacks = refl

-- each sum is the one before it and its difference
first_sum : (g : ℤ) (l : List ℕ) → get_or (sums g l) 0 (pos 0) ≡ g
unfolding sums
first_sum g [] = refl
first_sum g (d ∷ l) = refl

next_sum : (g : ℤ) (l : List ℕ) (i : ℕ) → i < length l → get_or (sums g l) (suc i) (pos 0) ≡ get_or (sums g l) i (pos 0) +ℤ pos (get_or l i 0)
unfolding sums
next_sum g [] i h = absurd (not-suc-le-zero h)
next_sum g (d ∷ l) zero h = first_sum (g +ℤ pos d) l
next_sum g (d ∷ l) (suc i) h = next_sum (g +ℤ pos d) l i (le_of_suc-le-suc h)

-- the gain of high is that of low and n dB
pub record Apart (low high n : ℕ) : Type 0 where
  pub is : gain high ≡ gain low +ℤ pos n

within : (v : ℕ) → v < 255 → v < length (listed difference 255)
within v h = subst⁻¹ (λ (n : ℕ). v < n) (length_listed difference 255) h

-- CARRIED: from each volume to the next by its difference
pub neighbours : (v : ℕ) → v < 255 → Apart v (v + 1) (difference v)
unfolding gain unpacked
neighbours v h =
    let e : v + 1 ≡ suc v = omega arith in
    record {
      is =
          ap gain e ∙ ap (λ (l : List ℤ). get_or l (suc v) (pos 0)) (sym unpacks) ∙ next_sum (negsuc 55) (listed difference 255) v (within v h)
          ∙ (λ i. get_or (unpacks i) v (pos 0) +ℤ pos (get_d_listed difference 255 v 0 h i));
    }

-- "neighbouring entries never differ by more than 2"
pub at_most_two : (v : ℕ) → v < 255 → difference v ≤ 2
unfolding listed difference word_of packed
at_most_two v h =
    leb→le (difference v) 2 (subst (λ (d : ℕ). T (leb d 2)) (get_d_listed difference 255 v 0 h) (at_each 0 (λ d. leb d 2) (listed difference 255) tt v (within v h)))

-- ---- the running sum of a walk

-- before the first step
pub none : (v : ℕ) → Apart v v 0
none v = record { is = sym (+ℤ_idr (gain v)) }

joined : {a b c m n : ℕ} → Apart a b m → Apart b c n → Apart a c (m + n)
joined {a} {m = m} {n = n} p q = record { is = q.is ∙ ap (λ (g : ℤ). g +ℤ pos n) p.is ∙ +ℤ_assoc (gain a) (pos m) (pos n) }

-- a step up adds the difference of the volume that it leaves, a step down that of the volume that it comes to
pub one_up : {base v n d : ℕ} → Apart base v n → v < 255 → d ≡ difference v → Apart base (v + 1) (n + d)
one_up {v = v} p h e = joined p (subst⁻¹ (Apart v (v + 1)) e (neighbours v h))

pub one_down : {base v n d : ℕ} → Apart v base n → 0 < v → v < 256 → d ≡ difference (v - 1) → Apart (v - 1) base (n + d)
one_down {base} {v} {n} {d} p l h e =
    let below : Apart (v - 1) v d = subst (λ (u : ℕ). Apart (v - 1) u d) (omega arith) (subst⁻¹ (Apart (v - 1) (v - 1 + 1)) e (neighbours (v - 1) (omega arith))) in
    subst (Apart (v - 1) base) (omega arith) (joined below p)

-- the table difference up, and down
up_by : {a b n : ℕ} → Apart a b n → gain b -ℤ gain a ≡ pos n
up_by {a} {n = n} p = ap (λ (g : ℤ). g -ℤ gain a) (p.is ∙ +ℤ_comm (gain a) (pos n)) ∙ +ℤ-neg_ℤ_cancel (pos n) (gain a)

down_by : {a b n : ℕ} → Apart a b n → gain a -ℤ gain b ≡ neg_ℤ (pos n)
down_by {a} {n = n} p =
    ap (λ (g : ℤ). gain a -ℤ g) p.is ∙ ap (λ (g : ℤ). gain a +ℤ g) (neg_ℤ-+ℤ (gain a) (pos n)) ∙ sym (+ℤ_assoc (gain a) (neg_ℤ (gain a)) (neg_ℤ (pos n)))
    ∙ ap (λ (g : ℤ). g +ℤ neg_ℤ (pos n)) (+ℤ_invr (gain a)) ∙ +ℤ_idl (neg_ℤ (pos n))

-- no sum is more than 128 dB
pub small_sum : {a b n : ℕ} → Apart a b n → a < 256 → b < 256 → n ≤ 128
small_sum {a} {b} {n} p h k =
    let e : nat_abs (gain b -ℤ gain a) ≡ n = ap nat_abs (up_by p) in
    omega (arith, e, difference_abs (gain b) (gain a), gain_size a h, gain_size b k)

-- the table difference reaches what is wanted exactly if the sum does
pub risen_by : {base v n : ℕ} (wanted : ℕ) → Apart base v n → le_z (pos wanted) (gain v -ℤ gain base) ≡ leb wanted n
risen_by wanted p = ap (le_z (pos wanted)) (up_by p)

minus : (n wanted : ℕ) → le_z (neg_ℤ (pos n)) (neg_ℤ (pos wanted)) ≡ leb wanted n
minus zero zero = refl
minus zero (suc w) = sym (lt-leb (suc w) 0 (omega arith))
minus (suc n) zero = sym (le-leb 0 (suc n) (omega arith))
minus (suc n) (suc w) = sym (leb-suc-suc w n)

pub fallen_by : {base v n : ℕ} (wanted : ℕ) → Apart v base n → le_z (gain v -ℤ gain base) (neg_ℤ (pos wanted)) ≡ leb wanted n
fallen_by {n = n} wanted p = ap (λ (z : ℤ). le_z z (neg_ℤ (pos wanted))) (down_by p) ∙ minus n wanted
