-- What `number_of_four` makes of a word of four digits: two masks tell what each byte counts, and the bytes are joined two by two. Assumes nothing.
use mathlib.Core.Path.{◌≡◌, refl, sym, ap, ◌∙◌}
use mathlib.Core.Bool.{true}
use mathlib.Core.List.{List, [], ◌∷◌, map}
use Prim.Native.Nat.{ℕ, ◌+◌, ◌*◌, ◌/◌, ◌%◌, ◌≤◌, ◌<◌}
use native.Mathlib.Omega.{arith}
use lib.Bits.{bit_and, and_block, and_mask, and_high}
use Rattle.frame_lines.specs.Digits.{is_digit, digit, are_digits, number}
use Rattle.frame_lines.specs.Samples.{four}
use Rattle.frame_lines.specs.Words.{word_of}
use Rattle.frame_lines.proofs.Tests.{both}
use Rattle.frame_lines.proofs.Counted.{counts, four_counts, number_four}

-- m in each byte
abbrev each : ℕ → List ℕ → ℕ
each m t = word_of (map (λ (c : ℕ). m) t)

-- the masks tell which digits are letters, a 1 in the byte of each, and with 9 for those what all count
record Masked (t : List ℕ) : Type 0 where
  letters : ℕ
  high : bit_and (word_of t) (each 64 t) ≡ letters * 64
  sum : bit_and (word_of t) (each 15 t) + letters * 9 ≡ word_of (map digit t)

masked : (t : List ℕ) → are_digits t ≡ true → Masked t
unfolding are_digits word_of
masked [] e = record { letters = 0; high = refl; sum = refl }
masked (c ∷ t) e =
    let b = both (is_digit c) (are_digits t) e in
    let n = counts c b.first in
    let r = masked t b.second in
    record {
      letters = r.letters * 256 + c / 64;
      high = and_block 8 (word_of t) (each 64 t) c 64 (omega arith) (omega arith) ∙ omega (arith, r.high, and_high c 1 6);
      sum = omega (arith, and_block 8 (word_of t) (each 15 t) c 15 (omega arith) (omega arith), r.sum, and_mask c 4);
    }

-- ---- the bytes are joined

low_byte : (q r : ℕ) → r < 256 → (q * 256 + r) % 256 ≡ r
low_byte q r h = omega arith

third_byte : (p q r : ℕ) → q < 256 → r < 65536 → ((p * 256 + q) * 65536 + r) / 65536 % 256 ≡ q
third_byte p q r h k = let up : ((p * 256 + q) * 65536 + r) / 65536 ≡ p * 256 + q = omega arith in ap (λ (n : ℕ). n % 256) up ∙ low_byte p q h

-- four counts in the bytes of v: beside each stands the next, so that the first byte is the first two joined, and the third the others
joins : (a b c d v : ℕ) → a < 16 → b < 16 → c < 16 → d < 16 → v ≡ ((d * 256 + c) * 256 + b) * 256 + a
    → (v * 16 + v / 256) % 256 * 256 + (v * 16 + v / 256) / 65536 % 256 ≡ a * 4096 + b * 256 + c * 16 + d
joins a b c d v p q r s e =
    let high = d * 16 * 256 + (c * 16 + d) in
    let next : v / 256 ≡ (d * 256 + c) * 256 + b = omega arith in
    let pairs : v * 16 + v / 256 ≡ (high * 256 + (b * 16 + c)) * 256 + (a * 16 + b) = omega arith in
    let same : v * 16 + v / 256 ≡ high * 65536 + ((b * 16 + c) * 256 + (a * 16 + b)) = omega arith in
    let first = ap (λ (n : ℕ). n % 256) pairs ∙ low_byte (high * 256 + (b * 16 + c)) (a * 16 + b) (omega arith) in
    let third = ap (λ (n : ℕ). n / 65536 % 256) same ∙ third_byte (d * 16) (c * 16 + d) ((b * 16 + c) * 256 + (a * 16 + b)) (omega arith) (omega arith) in
    (λ i. first i * 256 + third i) ∙ omega arith

module _ {a b c d : ℕ} {t : List ℕ} (is : t ≡ four a b c d) (e : are_digits t ≡ true) (w : ℕ) (p : w ≡ word_of t) where
  abbrev values : ℕ
  values = bit_and w 0x0f0f0f0f + bit_and w 0x40404040 / 64 * 9

  values_are : values ≡ ((digit d * 256 + digit c) * 256 + digit b) * 256 + digit a
  unfolding word_of
  values_are =
      let m = masked (four a b c d) (ap are_digits (sym is) ∙ e) in
      ap (λ (k : ℕ). bit_and k 0x0f0f0f0f + bit_and k 0x40404040 / 64 * 9) (p ∙ ap word_of is) ∙ omega (arith, m.high, m.sum)

  pub values_most : values ≤ 0x0f0f0f0f
  values_most = omega (arith, values_are, four_counts is e)

  pub joined : (values * 16 + values / 256) % 256 * 256 + (values * 16 + values / 256) / 65536 % 256 ≡ number t
  joined =
      let n = four_counts is e in
      joins (digit a) (digit b) (digit c) (digit d) values n.0.0.small n.0.1.small n.1.0.small n.1.1.small values_are
      ∙ sym (number_four is e)
