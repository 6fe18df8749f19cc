-- A number up to another has a level of at most that one's, whether or not an f32 holds it; and so every number up to 29,000 has a level of at most -1,062. Assumes nothing.
use mathlib.Core.Path.{◌≡◌, refl, sym, ap, ◌∙◌, subst}
use mathlib.Core.Bool.{Bool, true, false, ◌||◌}
use Prim.Native.Nat.{ℕ, zero, suc, ◌+◌, ◌-◌, ◌*◌, ◌/◌, ◌^◌, ◌≤◌, ◌<◌, zero-le}
use native.Mathlib.Nat.{le_trans, le_of_eq, lt_of_not-le, not-le_of_lt, lt_of_lt_of_le, mul_comm, mul_assoc, mul-pos, mul-le-mul_left, le_of_mul-le-mul_right, pow-le-pow_left, pow-le-pow_right, pow-succ', one-le-pow, zero-lt-suc, div-mul-le_self, le-div_iff_mul-le, div-lt_iff_lt-mul}
use native.Mathlib.Omega.{arith}
use native.Mathlib.Decide.{dec_le}
use lib.Dec.{T, ltb, eqb, ltb→lt, eqb→eq, le→leb, lit≤, lit<}
use lib.IntN.{ℤ, pos, negsuc, sub_ℕ}
use lib.Signed.{le_z}
use lib.Pow.{pow_pos}
use lib.Ieee.{Float, nan, inf, fin, up, down, size, le, lt, eq}
use lib.Ieee.Digits.{size-lt, size_reaches}
use lib.Ieee.Fits.{down_pos, and_l}
use borrow.Author.Tests.{lt-ltb}
use Rattle.numbers.proofs.Powers.{mul_pow}
use Rattle.levels.specs.declared.decibels.Decibels.TheVariants.{Finite}
use Rattle.levels.specs.Decibels.{plus, at_most}
use Rattle.levels.specs.Level.{digits, logarithm, to_decimal, decimal, thousandths, level_of, dbfs, min_level_dbfs}
use Rattle.levels.proofs.Bounds.{log_below}
use Rattle.levels.proofs.Floats.{at_most_one, above_one_lem}

-- ---- the binary logarithm is not too large

size_some : (a : ℕ) → 1 ≤ a → size a - 1 < size a
size_some a h = go (size a) (size-lt a)
  where
    go : (z : ℕ) → a < 2 ^ z → z - 1 < z
    go zero l = absurd (omega arith)
    go (suc z) l = omega arith

module _ (n c : ℕ) (some : 0 < c) (above : c < n) where
  w : ℕ
  w = size (n / c) - 1

  u : ℕ
  u = c * 2 ^ w

  x : ℕ
  x = n * 2 ^ 31 / u

  u_some : 0 < u
  unfolding u
  u_some = mul-pos some (pow_pos w)

  quotient_some : 1 ≤ n / c
  quotient_some = (le-div_iff_mul-le some).1 (go above)
    where
      go : c < n → 1 * c ≤ n
      go h = omega arith

  from_below : u ≤ n
  unfolding u w
  from_below =
      le_trans (le_of_eq (mul_comm c (2 ^ w))) ((le-div_iff_mul-le some).0 (size_reaches (n / c) w (size_some (n / c) quotient_some)))

  from_above : n < 2 * u
  unfolding u w
  from_above = lt_of_lt_of_le ((div-lt_iff_lt-mul some).0 (size-lt (n / c))) (le_of_eq (go (size (n / c)) (size_some (n / c) quotient_some)))
    where
      go : (z : ℕ) → z - 1 < z → 2 ^ z * c ≡ 2 * (c * 2 ^ (z - 1))
      go zero h = absurd (omega arith)
      go (suc z) h = ap (λ (y : ℕ). y * c) (pow-succ' 2 z) ∙ mul_assoc 2 (2 ^ z) c ∙ ap (λ (y : ℕ). 2 * y) (mul_comm (2 ^ z) c) ∙ ap (λ (y : ℕ). 2 * (c * 2 ^ y)) (omega arith)

  least : 2 ^ 31 ≤ x
  unfolding x
  least = (le-div_iff_mul-le u_some).1 (go u from_below)
    where
      go : (u : ℕ) → u ≤ n → 2 ^ 31 * u ≤ n * 2 ^ 31
      go u h = omega arith

  most : x < 2 ^ 32
  unfolding x
  most = (div-lt_iff_lt-mul u_some).1 (go u from_above)
    where
      go : (u : ℕ) → n < 2 * u → n * 2 ^ 31 < 2 ^ 32 * u
      go u h = omega arith

  value : x * (c * 2 ^ w) ≤ n * 2 ^ 31
  unfolding x u
  value = div-mul-le_self (n * 2 ^ 31) u

  log_is : logarithm n c ≡ w * 2 ^ 13 + digits 13 x
  unfolding logarithm x u w
  log_is = refl

  -- of a number up to g
  log_under : (g : ℕ) → n ≤ g * c → 2 ^ logarithm n c ≤ g ^ (2 ^ 13)
  log_under g l =
      subst (λ (z : ℕ). 2 ^ z ≤ g ^ (2 ^ 13)) (sym log_is)
      (le_of_mul-le-mul_right (le_trans (log_below 13 n c x w least most value) (le_trans (pow-le-pow_left l (2 ^ 13)) (le_of_eq (mul_pow g c (2 ^ 13))))) (one-le-pow (2 ^ 13) c some))

-- ---- and so no level is

decimal_mono : (p a b : ℕ) → a ≤ b → decimal p a ≤ decimal p b
decimal_mono p a b h = go (p * a) (p * b) (mul-le-mul_left p h)
  where
    go : (y z : ℕ) → y ≤ z → to_decimal y ≤ to_decimal z
    go y z l = omega arith

-- THE LAW. If the binary logarithm of g lies below l + 1, in 8192ths, a number up to g has a level of at most what l gives.
pub at_most_lem : (p g l n c : ℕ) → 0 < c → g ^ (2 ^ 13) < 2 ^ suc l → n ≤ g * c → thousandths p n c ≤ decimal p l
at_most_lem p g l n c some room h =
    elim (dec_le n c) [
      | yes low ↦ subst (λ (d : ℕ). d ≤ decimal p l) (sym (at_most_one p n c low)) zero-le
      | no low ↦
          let above : c < n = omega (arith, low) in
          subst (λ (d : ℕ). d ≤ decimal p l) (sym (above_one_lem p n c above)) (decimal_mono p (logarithm n c) l (log_most (logarithm n c) (log_under n c some above g h)))
    ]
  where
    log_most : (m : ℕ) → 2 ^ m ≤ g ^ (2 ^ 13) → m ≤ l
    log_most m b = let h : m < suc l = lt_of_not-le (λ (z : suc l ≤ m). not-le_of_lt room (le_trans (pow-le-pow_right (zero-lt-suc 1) z) b)) in omega (arith, h)

-- ---- numbers up to 29,000

-- 29,000, as a float
abbrev pub loudest : Float
loudest = fin false 3625 (pos 3)

room : 29000 ^ (2 ^ 13) < 2 ^ suc 121436
room = lit< tt

-- its exact level is 89,247.96, and no whole number within one thousandth of that is above 89,248
most_of_loudest : decimal 20000 121436 ≤ 89248
most_of_loudest = lit≤ tt

-- with the offset
offset : (n t : ℕ) → n ≤ 89248 → t ≤ 1061 → T (at_most (plus (Finite (pos n)) min_level_dbfs) (Finite (negsuc t)))
unfolding at_most plus
offset n t h l = subst (λ (z : ℤ). T (le_z z (negsuc t))) (sym (less n (omega arith))) (le→leb t (90310 - suc n) (omega arith))
  where
    less : (n : ℕ) → n < 90310 → sub_ℕ n 90310 ≡ negsuc (90310 - suc n)
    less n l = rw (lt-ltb n 90310 l)

either : (a b : ℕ) (x y : Bool) → (T x → a * 1 < b) → (T y → a * 1 ≡ b) → T (x || y) → a ≤ b
either a b true y f g t = let h = f tt in omega arith
either a b false true f g t = let h = g tt in omega arith
either a b false false f g t = absurd t

-- every number up to 29,000 has a level of at most -1,062, and so of at most each threshold from there up; `negsuc 1061` is -1,062
pub low_level : (t : ℕ) → t ≤ 1061 → (v : Float) → T (le v loudest) → T (at_most (dbfs v) (Finite (negsuc t)))
unfolding le lt eq level_of dbfs
low_level t l nan h = absurd h
low_level t l (inf true) h = offset 0 t zero-le l
low_level t l (inf false) h = absurd h
low_level t l (fin true m e) h = offset 0 t zero-le l
low_level t l (fin false m e) h =
    offset (thousandths 20000 (m * up e) (down e)) t
    (le_trans
    (at_most_lem 20000 29000 121436 (m * up e) (down e) (down_pos e) room
    (either (m * up e) (29000 * down e) (ltb (m * up e * 1) (29000 * down e)) _ (ltb→lt (m * up e * 1) (29000 * down e))
    (λ z. eqb→eq (m * up e * 1) (29000 * down e) (and_l (eqb (m * up e * 1) (29000 * down e)) true z)) h))
    most_of_loudest)
    l
