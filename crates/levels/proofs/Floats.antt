-- `level_of` of an f32, from its value. Assumes nothing.
use mathlib.Core.Path.{◌≡◌, refl, sym, ap, ◌∙◌}
use Prim.Native.Nat.{ℕ, zero, suc, ◌+◌, ◌-◌, ◌*◌, ◌/◌, ◌^◌, ◌≤◌, ◌<◌}
use native.Mathlib.Nat.{le_trans, le_of_eq, le_antisymm, lt_of_lt_of_le, lt_of_not-le, not-le_of_lt, mul-zero, mul-one, mul_comm, mul_assoc, mul_left_comm, mul-pos, mul-le-mul_left, mul-le-mul_right, mul-lt-mul_of_pos_right, le_of_mul-le-mul_right, le-div_iff_mul-le, div-lt_iff_lt-mul, mul-div_cancel, pow-succ'}
use native.Mathlib.Omega.{arith}
use mathlib.Core.Bool.{Bool, true, false, cond}
use native.Mathlib.Decide.{dec_le}
use borrow.Author.Tests.{le-leb, lt-leb}
use lib.IntN.{pos}
use lib.Pow.{pow_mono, pow_pos}
use lib.Ieee.{Float, nan, inf, fin, up, down, size, is_nan}
use lib.Ieee.Digits.{size-lt, size-le}
use lib.Ieee.Fits.{down_pos}
use lib.Ieee.Exact.{HasValue}
use Rattle.levels.specs.declared.decibels.Decibels.TheVariants.{Finite, PlusInfinity}
use Rattle.levels.specs.Level.{digits, logarithm, to_decimal, decimal, above_one, thousandths, level_of}
use Rattle.numbers.proofs.Signs.{clash}
use Rattle.levels.proofs.Fields.{Signed, Small}

-- ---- the binary logarithm of x / 2 ^ 31 * 2 ^ w

size_is : (a w : ℕ) → 2 ^ w ≤ a → a < 2 ^ suc w → size a - 1 ≡ w
size_is a w lo hi =
    go (size a) (size-le a (suc w) hi) (lt_of_not-le (λ (g : size a ≤ w). not-le_of_lt (lt_of_lt_of_le (size-lt a) (pow_mono g)) lo))
  where
    go : (z : ℕ) → z ≤ suc w → w < z → z - 1 ≡ w
    go z h l = omega arith

module _ (n c x w : ℕ) (some : 0 < c) (lo : 2 ^ 31 ≤ x) (hi : x < 2 ^ 32) (value : n * 2 ^ 31 ≡ x * (c * 2 ^ w)) where
  unit : 0 < c * 2 ^ w
  unit = mul-pos some (pow_pos w)

  from_below : c * 2 ^ w ≤ n
  from_below = go (c * 2 ^ w) (x * (c * 2 ^ w)) (mul-le-mul_right (c * 2 ^ w) lo) value
    where
      go : (u z : ℕ) → 2 ^ 31 * u ≤ z → n * 2 ^ 31 ≡ z → u ≤ n
      go u z h e = omega arith

  from_above : n < 2 * (c * 2 ^ w)
  from_above = go (c * 2 ^ w) (x * (c * 2 ^ w)) (mul-lt-mul_of_pos_right hi unit) value
    where
      go : (u z : ℕ) → z < 2 ^ 32 * u → n * 2 ^ 31 ≡ z → n < 2 * u
      go u z h e = omega arith

  whole_part : size (n / c) - 1 ≡ w
  whole_part =
      size_is (n / c) w
      ((le-div_iff_mul-le some).1 (le_trans (le_of_eq (mul_comm (2 ^ w) c)) from_below))
      ((div-lt_iff_lt-mul some).1 (lt_of_lt_of_le from_above (le_of_eq (sym (ap (λ (z : ℕ). z * c) (pow-succ' 2 w) ∙ mul_assoc 2 (2 ^ w) c ∙ ap (λ (z : ℕ). 2 * z) (mul_comm (2 ^ w) c))))))

  pub log_is : logarithm n c ≡ w * 2 ^ 13 + digits 13 x
  unfolding logarithm
  log_is =
      ap (λ (z : ℕ). z * 2 ^ 13 + digits 13 (n * 2 ^ 31 / (c * 2 ^ z))) whole_part
      ∙ ap (λ (z : ℕ). w * 2 ^ 13 + digits 13 z) (ap (λ (z : ℕ). z / (c * 2 ^ w)) value ∙ mul-div_cancel x unit)

-- at 1 the rule gives 0 too
none : digits 13 (2 ^ 31) ≡ 0
unfolding digits
none = refl

decimal_zero : (p : ℕ) → decimal p 0 ≡ 0
decimal_zero p = ap to_decimal (mul-zero p)

at_one : (p n c x w : ℕ) → 0 < c → 2 ^ 31 ≤ x → x < 2 ^ 32 → n * 2 ^ 31 ≡ x * (c * 2 ^ w) → n ≤ c → decimal p (w * 2 ^ 13 + digits 13 x) ≡ 0
at_one p n c x zero some lo hi value h =
    ap (λ (z : ℕ). decimal p (0 * 2 ^ 13 + digits 13 z)) least ∙ ap (λ (z : ℕ). decimal p (0 + z)) none ∙ decimal_zero p
  where
    least : x ≡ 2 ^ 31
    least =
        le_antisymm
        (le_of_mul-le-mul_right {m = x} {n = 2 ^ 31} {k = c}
        (le_trans (le_of_eq (sym (value ∙ ap (λ (z : ℕ). x * z) (mul-one c)))) (le_trans (mul-le-mul_right (2 ^ 31) h) (le_of_eq (mul_comm c (2 ^ 31))))) some)
        lo
at_one p n c x (suc w) some lo hi value h =
    absurd (go (2 ^ w) (c * 2 ^ w) (c * 2 ^ suc w) n (mul-le-mul_left c (pow_pos w)) (ap (λ (z : ℕ). c * z) (pow-succ' 2 w) ∙ mul_left_comm c 2 (2 ^ w)) (from_below n c x (suc w) some lo hi value) h)
  where
    go : (k u v n : ℕ) → c * 1 ≤ u → v ≡ 2 * u → v ≤ n → n ≤ c → ⊥
    go k u v n a b d e = omega arith

-- ---- the level of a float

-- 0 at 1 or below
pub at_most_one : (p n c : ℕ) → n ≤ c → thousandths p n c ≡ 0
unfolding thousandths above_one
at_most_one p n c h = rw (le-leb n c h)

pub above_one_lem : (p n c : ℕ) → c < n → thousandths p n c ≡ decimal p (logarithm n c)
unfolding thousandths above_one
above_one_lem p n c h = rw (lt-leb n c h)

pub level_negative : (p : ℕ) (v : Float) → is_nan v ≡ false → Signed true v → level_of p v ≡ Finite (pos 0)
unfolding level_of is_nan
level_negative p nan t h = clash t
level_negative p (inf true) t h = refl
level_negative p (inf false) t h = clash (sym h)
level_negative p (fin true m e) t h = refl
level_negative p (fin false m e) t h = clash (sym h)

pub level_small : (p : ℕ) (v : Float) → Small false v → level_of p v ≡ Finite (pos 0)
unfolding level_of
level_small p nan h = absurd h
level_small p (inf s) h = absurd h
level_small p (fin true m e) h = refl
level_small p (fin false m e) h = ap (λ (z : ℕ). Finite (pos z)) (at_most_one p (m * up e) (down e) h.1)

pub level_special : (p : ℕ) (v : Float) (b : Bool) → is_nan v ≡ false → v ≡ cond b (inf false) nan → level_of p v ≡ PlusInfinity
unfolding level_of is_nan
level_special p v true t e = ap (level_of p) e
level_special p v false t e = clash (sym (ap is_nan e) ∙ t)

-- the value of a float whose fields are those of a normal number, as the fraction of its significand and its power of 2
pub cross : (n x w c : ℕ) → n * 2 ^ 31 ≡ x * 2 ^ w * c → n * 2 ^ 31 ≡ x * (c * 2 ^ w)
cross n x w c e = e ∙ mul_assoc x (2 ^ w) c ∙ ap (λ (z : ℕ). x * z) (mul_comm (2 ^ w) c)

normal_level : (p n c x w : ℕ) → 0 < c → 2 ^ 31 ≤ x → x < 2 ^ 32 → n * 2 ^ 31 ≡ x * (c * 2 ^ w) → thousandths p n c ≡ decimal p (w * 2 ^ 13 + digits 13 x)
normal_level p n c x w some lo hi value =
    elim (dec_le n c) [
      | yes h ↦ at_most_one p n c h ∙ sym (at_one p n c x w some lo hi value h)
      | no h ↦ above_one_lem p n c (omega (arith, h)) ∙ ap (decimal p) (log_is n c x w some lo hi value)
    ]

pub level_normal : (p : ℕ) (v : Float) (x w : ℕ) → 2 ^ 31 ≤ x → x < 2 ^ 32 → HasValue v false (x * 2 ^ w) (2 ^ 31)
    → level_of p v ≡ Finite (pos (decimal p (w * 2 ^ 13 + digits 13 x)))
unfolding level_of
level_normal p nan x w lo hi h = absurd h
level_normal p (inf s) x w lo hi h = absurd h
level_normal p (fin true m e) x w lo hi h = clash h.0
level_normal p (fin false m e) x w lo hi h =
    ap (λ (z : ℕ). Finite (pos z)) (normal_level p (m * up e) (down e) x w (down_pos e) lo hi (cross (m * up e) x w (down e) h.1))
