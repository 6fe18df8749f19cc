-- The law behind an unmarked estimate. A level that lies within e of the exact one, and sums of such levels, are close to the exact sums; two sides that lie further apart than they are
-- inexact compare as the exact ones do. No power is computed here. Assumes nothing.
use mathlib.Core.Path.{◌≡◌, refl, sym, ap, ap₂, ◌∙◌, subst}
use mathlib.Core.Bool.{true, false}
use mathlib.Core.Logic.{⊎_elim}
use Prim.Native.Nat.{ℕ, suc, ◌+◌, ◌-◌, ◌*◌, ◌^◌, ◌≤◌, ◌<◌, max}
use native.Mathlib.Nat.{le_trans, le_of_eq, le_of_lt, mul_comm, mul_assoc, one-mul, mul-mul-mul_comm, mul-le-mul, mul-le-mul_left, mul-le-mul_right, le_of_mul-le-mul_left, pow-le-pow_right, one-le-pow, mul-pos, zero-lt-suc, max-eq_left, max-eq_right, pow-suc}
use native.Mathlib.Omega.{arith}
use native.Mathlib.Decide.{dec_le}
use lib.Dec.{T}
use lib.Pow.{pow-add}
use lib.IntN.{ℤ, pos, negsuc, nat_abs, ◌+ℤ◌, ◌-ℤ◌}
use lib.Ieee.{Float, nan, inf, fin, binary32, up, down, fits}
use lib.Ieee.Fits.{down_pos}
use borrow.Author.Tests.{leb-false, lt-ltb, le-ltb, le-leb, lt-leb}
use Rattle.levels.specs.declared.decibels.Decibels.{Decibels}
use Rattle.levels.specs.declared.decibels.Decibels.TheVariants.{Finite, PlusInfinity, MinusInfinity, NotANumber}
use Rattle.levels.specs.Decibels.{plus, negated, minus, less, at_most, within}
use Rattle.levels.specs.Level as L
use Rattle.levels.specs.Within.{Within, Near, IsLevel}
use Rattle.levels.proofs.Accuracy.{level_right}
use Rattle.claims.specs.Exact as E
use Rattle.claims.specs.Exact.{Exact, ratio, plus_infinity, minus_infinity, not_aNumber}
use Rattle.claims.proofs.Differences.{Diff, diff_same, diff_neg, diff_sum, distance, less_yes, less_no, most_yes, most_no}

-- X is a fraction n / c, z is p - q, and 10 ^ (z - k) ≤ n / c ≤ 10 ^ (z + k), with all denominators multiplied out
pub record Around (k : ℕ) (z : ℤ) (X : Exact) : Type 0 where
  pub n : ℕ
  pub c : ℕ
  pub p : ℕ
  pub q : ℕ
  pub is : X ≡ ratio n c
  pub diff : Diff z p q
  pub some_n : 0 < n
  pub some_c : 0 < c
  pub low : 10 ^ p * c ≤ 10 ^ (q + k) * n
  pub high : 10 ^ q * n ≤ 10 ^ (p + k) * c

-- x is within k of X; infinite ones and those that are no number are the same
unfoldable pub Close : ℕ → Decibels → Exact → Type 0
Close k (Finite z) X = Around k z X
Close k PlusInfinity X = X ≡ plus_infinity
Close k MinusInfinity X = X ≡ minus_infinity
Close k NotANumber X = X ≡ not_aNumber

-- ---- products of bounds

-- 10 ^ a * x ≤ 10 ^ b * y, and so for a second such, give the product of the two
product : (a b x y a₂ b₂ x₂ y₂ : ℕ) → 10 ^ a * x ≤ 10 ^ b * y → 10 ^ a₂ * x₂ ≤ 10 ^ b₂ * y₂ → 10 ^ (a + a₂) * (x * x₂) ≤ 10 ^ (b + b₂) * (y * y₂)
product a b x y a₂ b₂ x₂ y₂ h k = le_trans (le_of_eq (parts a x a₂ x₂)) (le_trans (mul-le-mul h k) (le_of_eq (sym (parts b y b₂ y₂))))
  where
    parts : (a x a₂ x₂ : ℕ) → 10 ^ (a + a₂) * (x * x₂) ≡ 10 ^ a * x * (10 ^ a₂ * x₂)
    parts a x a₂ x₂ = ap (λ (z : ℕ). z * (x * x₂)) (pow-add 10 a a₂) ∙ mul-mul-mul_comm (10 ^ a) (10 ^ a₂) x x₂

some_ten : (a : ℕ) → 0 < 10 ^ a
some_ten a = one-le-pow a 10 (zero-lt-suc 9)

-- 10 ^ t u ≤ 10 ^ s v with s below t makes u the smaller
smaller : (s t u v : ℕ) → s < t → 0 < v → 10 ^ t * u ≤ 10 ^ s * v → u < v
smaller s t u v l some h = tenth u v some (le_of_mul-le-mul_left (le_trans (le_of_eq (carried s u)) (le_trans (mul-le-mul_right u (pow-le-pow_right (zero-lt-suc 9) l)) h)) (some_ten s))
  where
    tenth : (u v : ℕ) → 0 < v → 10 * u ≤ v → u < v
    tenth u v some h = omega arith

    carried : (s u : ℕ) → 10 ^ s * (10 * u) ≡ 10 ^ suc s * u
    carried s u = sym (mul_assoc (10 ^ s) 10 u) ∙ ap (λ (z : ℕ). z * u) (sym (pow-suc 10 s))

-- n / c is at most 10 ^ (p - q + j), m / b at least 10 ^ (r - s - k), and the first exponent is below the second
apart : (n c p q j m b r s k : ℕ) → 10 ^ q * n ≤ 10 ^ (p + j) * c → 10 ^ r * b ≤ 10 ^ (s + k) * m → 0 < m → 0 < c → p + s + (j + k) < q + r → n * b < m * c
apart n c p q j m b r s k h g some-m some_c l =
    smaller (p + j + (s + k)) (q + r) (n * b) (m * c) (omega arith) (mul-pos some-m some_c)
    (le_trans (product q (p + j) n c r (s + k) b m h g) (le_of_eq (ap (λ (z : ℕ). 10 ^ (p + j + (s + k)) * z) (mul_comm c m))))

-- ---- sums

pub around_sum : (j k : ℕ) (x y : ℤ) (X Y : Exact) → Around j x X → Around k y Y → Around (j + k) (x +ℤ y) (E.plus X Y)
unfolding E.plus
around_sum j k x y X Y f g = record {
  n = f.n * g.n;
  c = f.c * g.c;
  p = f.p + g.p;
  q = f.q + g.q;
  is = ap₂ E.plus f.is g.is;
  diff = diff_sum x y f.p f.q g.p g.q f.diff g.diff;
  some_n = mul-pos f.some_n g.some_n;
  some_c = mul-pos f.some_c g.some_c;
  low = subst (λ (z : ℕ). 10 ^ (f.p + g.p) * (f.c * g.c) ≤ 10 ^ z * (f.n * g.n)) (regroup f.q j g.q k) (product f.p (f.q + j) f.c f.n g.p (g.q + k) g.c g.n f.low g.low);
  high = subst (λ (z : ℕ). 10 ^ (f.q + g.q) * (f.n * g.n) ≤ 10 ^ z * (f.c * g.c)) (regroup f.p j g.p k) (product f.q (f.p + j) f.n f.c g.q (g.p + k) g.n g.c f.high g.high);
}
  where
    regroup : (a j b k : ℕ) → a + j + (b + k) ≡ a + b + (j + k)
    regroup a j b k = omega arith

pub close_plus : (j k : ℕ) (x y : Decibels) (X Y : Exact) → Close j x X → Close k y Y → Close (j + k) (plus x y) (E.plus X Y)
unfolding Close plus E.plus
close_plus j k (Finite x) (Finite y) X Y f g = around_sum j k x y X Y f g
close_plus j k (Finite x) PlusInfinity X Y f g = ap₂ E.plus f.is g
close_plus j k (Finite x) MinusInfinity X Y f g = ap₂ E.plus f.is g
close_plus j k (Finite x) NotANumber X Y f g = ap₂ E.plus f.is g
close_plus j k PlusInfinity (Finite y) X Y f g = ap₂ E.plus f g.is
close_plus j k PlusInfinity PlusInfinity X Y f g = ap₂ E.plus f g
close_plus j k PlusInfinity MinusInfinity X Y f g = ap₂ E.plus f g
close_plus j k PlusInfinity NotANumber X Y f g = ap₂ E.plus f g
close_plus j k MinusInfinity (Finite y) X Y f g = ap₂ E.plus f g.is
close_plus j k MinusInfinity PlusInfinity X Y f g = ap₂ E.plus f g
close_plus j k MinusInfinity MinusInfinity X Y f g = ap₂ E.plus f g
close_plus j k MinusInfinity NotANumber X Y f g = ap₂ E.plus f g
close_plus j k NotANumber y X Y f g = ap (λ (Z : Exact). E.plus Z Y) f

close_negated : (k : ℕ) (x : Decibels) (X : Exact) → Close k x X → Close k (negated x) (E.negated X)
unfolding Close E.negated
close_negated k (Finite z) X f = record {
  n = f.c;
  c = f.n;
  p = f.q;
  q = f.p;
  is = ap E.negated f.is;
  diff = diff_neg z f.p f.q f.diff;
  some_n = f.some_c;
  some_c = f.some_n;
  low = f.high;
  high = f.low;
}
close_negated k PlusInfinity X f = ap E.negated f
close_negated k MinusInfinity X f = ap E.negated f
close_negated k NotANumber X f = ap E.negated f

pub close_minus : (j k : ℕ) (x y : Decibels) (X Y : Exact) → Close j x X → Close k y Y → Close (j + k) (minus x y) (E.minus X Y)
unfolding minus
close_minus j k x y X Y f g = close_plus j k x (negated y) X (E.negated Y) f (close_negated k y Y g)

-- ---- THE LAW: sides further apart than the two are inexact

module _ (j k : ℕ) (x y : ℤ) (X Y : Exact) (f : Around j x X) (g : Around k y Y) where
  pub below : f.p + g.q + (j + k) < f.q + g.p → f.n * g.c < g.n * f.c
  below l = apart f.n f.c f.p f.q j g.n g.c g.p g.q k f.high g.low g.some_n f.some_c l

pub less_apart : (n j k : ℕ) → j + k ≤ n → (x y : Decibels) (X Y : Exact) → Close j x X → Close k y Y → within n x y ≡ false → less x y ≡ E.less X Y
unfolding Close less E.less within
less_apart n j k room (Finite x) (Finite y) X Y f g e =
    ⊎_elim
    (λ (l : f.p + g.q + n < f.q + g.p).
    less_yes x y f.p f.q g.p g.q f.diff g.diff (omega arith)
    ∙ sym (ap₂ E.less f.is g.is ∙ lt-ltb (f.n * g.c) (g.n * f.c) (below j k x y X Y f g (omega arith))))
    (λ (l : f.q + g.p + n < f.p + g.q).
    less_no x y f.p f.q g.p g.q f.diff g.diff (omega arith)
    ∙ sym (ap₂ E.less f.is g.is ∙ le-ltb (f.n * g.c) (g.n * f.c) (le_of_lt (below k j y x Y X g f (omega arith)))))
    (distance x y n f.p f.q g.p g.q f.diff g.diff (leb-false (nat_abs (x -ℤ y)) n e))
less_apart n j k room (Finite x) PlusInfinity X Y f g e = sym (ap₂ E.less f.is g)
less_apart n j k room (Finite x) MinusInfinity X Y f g e = sym (ap₂ E.less f.is g)
less_apart n j k room (Finite x) NotANumber X Y f g e = sym (ap₂ E.less f.is g)
less_apart n j k room MinusInfinity (Finite y) X Y f g e = sym (ap₂ E.less f g.is)
less_apart n j k room MinusInfinity PlusInfinity X Y f g e = sym (ap₂ E.less f g)
less_apart n j k room MinusInfinity MinusInfinity X Y f g e = sym (ap₂ E.less f g)
less_apart n j k room MinusInfinity NotANumber X Y f g e = sym (ap₂ E.less f g)
less_apart n j k room PlusInfinity y X Y f g e = sym (ap (λ (Z : Exact). E.less Z Y) f)
less_apart n j k room NotANumber y X Y f g e = sym (ap (λ (Z : Exact). E.less Z Y) f)

pub most_apart : (n j k : ℕ) → j + k ≤ n → (x y : Decibels) (X Y : Exact) → Close j x X → Close k y Y → within n x y ≡ false → at_most x y ≡ E.at_most X Y
unfolding Close at_most E.at_most within
most_apart n j k room (Finite x) (Finite y) X Y f g e =
    ⊎_elim
    (λ (l : f.p + g.q + n < f.q + g.p).
    most_yes x y f.p f.q g.p g.q f.diff g.diff (omega arith)
    ∙ sym (ap₂ E.at_most f.is g.is ∙ le-leb (f.n * g.c) (g.n * f.c) (le_of_lt (below j k x y X Y f g (omega arith)))))
    (λ (l : f.q + g.p + n < f.p + g.q).
    most_no x y f.p f.q g.p g.q f.diff g.diff (omega arith)
    ∙ sym (ap₂ E.at_most f.is g.is ∙ lt-leb (f.n * g.c) (g.n * f.c) (below k j y x Y X g f (omega arith))))
    (distance x y n f.p f.q g.p g.q f.diff g.diff (leb-false (nat_abs (x -ℤ y)) n e))
most_apart n j k room (Finite x) PlusInfinity X Y f g e = sym (ap₂ E.at_most f.is g)
most_apart n j k room (Finite x) MinusInfinity X Y f g e = sym (ap₂ E.at_most f.is g)
most_apart n j k room (Finite x) NotANumber X Y f g e = sym (ap₂ E.at_most f.is g)
most_apart n j k room MinusInfinity (Finite y) X Y f g e = sym (ap₂ E.at_most f g.is)
most_apart n j k room MinusInfinity PlusInfinity X Y f g e = sym (ap₂ E.at_most f g)
most_apart n j k room MinusInfinity MinusInfinity X Y f g e = sym (ap₂ E.at_most f g)
most_apart n j k room MinusInfinity NotANumber X Y f g e = sym (ap₂ E.at_most f g)
most_apart n j k room PlusInfinity (Finite y) X Y f g e = sym (ap₂ E.at_most f g.is)
most_apart n j k room PlusInfinity PlusInfinity X Y f g e = sym (ap₂ E.at_most f g)
most_apart n j k room PlusInfinity MinusInfinity X Y f g e = sym (ap₂ E.at_most f g)
most_apart n j k room PlusInfinity NotANumber X Y f g e = sym (ap₂ E.at_most f g)
most_apart n j k room NotANumber y X Y f g e = sym (ap (λ (Z : Exact). E.at_most Z Y) f)

-- the same by any way to write the two numbers as differences

pub far_yes : (j k : ℕ) (x y : ℤ) (X Y : Exact) (p q r s : ℕ) → Around j x X → Around k y Y → Diff x p q → Diff y r s → p + s + (j + k) < q + r → E.at_most X Y ≡ true
unfolding E.at_most
far_yes j k x y X Y p q r s f g h l room =
    let u = diff_same x p q f.p f.q h f.diff in
    let v = diff_same y r s g.p g.q l g.diff in
    ap₂ E.at_most f.is g.is ∙ le-leb (f.n * g.c) (g.n * f.c) (le_of_lt (below j k x y X Y f g (omega (arith, u, v))))

pub far_no : (j k : ℕ) (x y : ℤ) (X Y : Exact) (p q r s : ℕ) → Around j x X → Around k y Y → Diff x p q → Diff y r s → q + r + (j + k) < p + s → E.at_most X Y ≡ false
unfolding E.at_most
far_no j k x y X Y p q r s f g h l room =
    let u = diff_same x p q f.p f.q h f.diff in
    let v = diff_same y r s g.p g.q l g.diff in
    ap₂ E.at_most f.is g.is ∙ lt-leb (f.n * g.c) (g.n * f.c) (below k j y x Y X g f (omega (arith, u, v)))

-- ---- constants are exact, and levels within e

pub close_constant : (z : ℤ) → Close 0 (Finite z) (E.constant z)
unfolding Close E.constant Diff
close_constant (pos n) = record {
  n = 10 ^ n;
  c = 1;
  p = n;
  q = 0;
  is = refl;
  diff = omega arith;
  some_n = some_ten n;
  some_c = zero-lt-suc 0;
  low = le_of_eq (mul_comm (10 ^ n) 1);
  high = le_of_eq (mul_comm 1 (10 ^ n) ∙ ap (λ (z : ℕ). 10 ^ z * 1) (nil n));
}
  where
    nil : (n : ℕ) → n ≡ n + 0
    nil n = omega arith
close_constant (negsuc n) = record {
  n = 1;
  c = 10 ^ suc n;
  p = 0;
  q = suc n;
  is = refl;
  diff = omega arith;
  some_n = zero-lt-suc 0;
  some_c = some_ten (suc n);
  low = le_of_eq (mul_comm 1 (10 ^ suc n) ∙ ap (λ (z : ℕ). 10 ^ z * 1) (nil (suc n)));
  high = le_of_eq (mul_comm (10 ^ suc n) 1);
}
  where
    nil : (n : ℕ) → n ≡ n + 0
    nil n = omega arith

around_one : (k : ℕ) (c : ℕ) → 0 < c → (X : Exact) → X ≡ ratio c c → Around k (pos 0) X
unfolding Diff
around_one k c some X e = record {
  n = c;
  c = c;
  p = 0;
  q = 0;
  is = e;
  diff = refl;
  some_n = some;
  some_c = some;
  low = mul-le-mul_right c (pow-le-pow_right (zero-lt-suc 9) (from_zero k));
  high = mul-le-mul_right c (pow-le-pow_right (zero-lt-suc 9) (from_zero k));
}
  where
    from_zero : (k : ℕ) → 0 ≤ 0 + k
    from_zero k = omega arith

around_within : (k p n c d : ℕ) → c < n → 0 < c → Within k p n c d → Around k (pos d) (ratio (max n c ^ p) (c ^ p))
unfolding Diff
around_within k p n c d l some w = record {
  n = n ^ p;
  c = c ^ p;
  p = d;
  q = 0;
  is = ap (λ (z : ℕ). ratio (z ^ p) (c ^ p)) (max-eq_left (le_of_lt l));
  diff = omega arith;
  some_n = one-le-pow p n (omega arith);
  some_c = one-le-pow p c some;
  low =
      le_trans (mul-le-mul_right (c ^ p) (le_trans (pow-le-pow_right (zero-lt-suc 9) (split k d)) (le_of_eq (pow-add 10 (0 + k) (d - k)))))
      (le_trans (le_of_eq (mul_assoc (10 ^ (0 + k)) (10 ^ (d - k)) (c ^ p))) (mul-le-mul_left (10 ^ (0 + k)) w.above));
  high = le_trans (le_of_eq (one-mul (n ^ p))) w.below;
}
  where
    split : (k d : ℕ) → d ≤ 0 + k + (d - k)
    split k d = omega arith

around_near : (k p n c : ℕ) → 0 < c → (r : Decibels) → Near k p n c r → Close k r (ratio (max n c ^ p) (c ^ p))
unfolding Close
around_near k p n c some r w =
    subst (λ (r : Decibels). Close k r (ratio (max n c ^ p) (c ^ p))) (sym w.is)
    (elim (dec_le n c) [
      | yes l ↦
          subst (λ (d : ℕ). Around k (pos d) (ratio (max n c ^ p) (c ^ p))) (sym (w.low l))
          (around_one k (c ^ p) (one-le-pow p c some) (ratio (max n c ^ p) (c ^ p)) (ap (λ (z : ℕ). ratio (z ^ p) (c ^ p)) (max-eq_right l)))
      | no l ↦ around_within k p n c w.level (omega (arith, l)) some (w.high (omega (arith, l)))
    ])

-- what is the level of a float, within k, is close to the exact one
pub close_is : (k p : ℕ) (v : Float) (r : Decibels) → IsLevel k p v r → Close k r (E.exact_level p v)
unfolding E.exact_level Close
close_is k p nan r w = subst (λ (r : Decibels). Close k r not_aNumber) (sym w) refl
close_is k p (inf true) r w = subst (λ (r : Decibels). Close k r (ratio 1 1)) (sym w) (around_one k 1 (zero-lt-suc 0) (ratio 1 1) refl)
close_is k p (inf false) r w = subst (λ (r : Decibels). Close k r plus_infinity) (sym w) refl
close_is k p (fin true m e) r w = subst (λ (r : Decibels). Close k r (ratio 1 1)) (sym w) (around_one k 1 (zero-lt-suc 0) (ratio 1 1) refl)
close_is k p (fin false m e) r w = around_near k p (m * up e) (down e) (down_pos e) r w

-- every f32's is, for each tolerance from 1
pub close_level : (k p : ℕ) (v : Float) → 1 ≤ k → p ≤ 20000 → T (fits binary32 v) → Close k (L.level_of p v) (E.exact_level p v)
close_level k p v hk hp held = close_is k p v (L.level_of p v) (level_right k p v hk hp held)
