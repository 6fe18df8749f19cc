-- How exact a level is: for every f32, at both powers, within one thousandth and so within any larger tolerance. Assumes nothing.
use mathlib.Core.Path.{◌≡◌, refl, sym, ap, ◌∙◌, subst}
use Prim.Native.Nat.{ℕ, ◌+◌, ◌-◌, ◌*◌, ◌/◌, ◌%◌, ◌^◌, ◌≤◌, ◌<◌}
use native.Mathlib.Nat.{le_refl, le_trans, add-le-add, sub-le-sub_left, not-le_of_lt, zero-lt-suc, mul-le-mul_right, pow-le-pow_right}
use native.Mathlib.Omega.{arith}
use native.Mathlib.Decide.{dec_lt}
use mathlib.Core.Bool.{Bool, true, false, cond}
use lib.Dec.{T, eqb, lit≤}
use lib.IntN.{ℤ}
use lib.Ieee.{Float, nan, inf, fin, binary32, up, down, fits, is_nan, of_fields, to_bits}
use lib.Ieee.Scale.{finite}
use lib.Ieee.Fits.{down_pos}
use lib.Ieee.Exact.{HasValue}
use Rattle.numbers.proofs.Signs.{clash}
use Rattle.levels.specs.Level.{decimal, thousandths, level_of, d, h}
use Rattle.levels.specs.Within.{Within, IsLevel, tolerance}
use Rattle.levels.proofs.Pattern.{own_fields}
use Rattle.levels.proofs.Fields.{Signed, signed, special, Small, small, normal}
use Rattle.levels.proofs.Floats.{log_is, cross, at_most_one, above_one_lem}
use Rattle.levels.proofs.Bounds.{bounds}

-- n / c is x / 2 ^ 31 times 2 ^ w, for an x from 2 ^ 31 up and below 2 ^ 32
record Normal (n c : ℕ) : Type 0 where
  x : ℕ
  w : ℕ
  least : 2 ^ 31 ≤ x
  most : x < 2 ^ 32
  range : w ≤ 127
  value : n * 2 ^ 31 ≡ x * (c * 2 ^ w)

-- every f32 above 1 is so: its sign bit is clear, its exponent is 127 or more, and not that of the special values
module _ (m : ℕ) (e : ℤ) (above : down e < m * up e) where
  not_negative : (x t : ℕ) → of_fields binary32 true x t ≡ fin false m e → ⊥
  not_negative x t r = clash (sym (subst (Signed true) r (signed true x t)))

  not_small : (x t : ℕ) → x < 127 → t < 2 ^ 23 → of_fields binary32 false x t ≡ fin false m e → ⊥
  not_small x t hx ht r = not-le_of_lt above (subst (Small false) r (small false x t hx ht)).1

  not_special : (x t : ℕ) → x ≡ 255 → of_fields binary32 false x t ≡ fin false m e → ⊥
  not_special x t hx r = go (eqb t 0) (sym r ∙ special false x t hx)
    where
      go : (b : Bool) → fin false m e ≡ cond b (inf false) nan → ⊥
      go true h = subst (λ (v : Float). T (finite v)) h tt
      go false h = subst (λ (v : Float). T (finite v)) h tt

  is_normal : (x t : ℕ) → 127 ≤ x → x < 255 → t < 2 ^ 23 → of_fields binary32 false x t ≡ fin false m e → Normal (m * up e) (down e)
  is_normal x t lo hi ht r = record {
    x = (t + 2 ^ 23) * 2 ^ 8;
    w = x - 127;
    least = omega arith;
    most = omega arith;
    range = omega arith;
    value = cross (m * up e) ((t + 2 ^ 23) * 2 ^ 8) (x - 127) (down e) (subst (λ (v : Float). HasValue v false ((t + 2 ^ 23) * 2 ^ 8 * 2 ^ (x - 127)) (2 ^ 31)) r (normal false x t lo hi)).1;
  }

  of_fields_lem : (s : Bool) (x t : ℕ) → x < 256 → t < 2 ^ 23 → of_fields binary32 s x t ≡ fin false m e → Normal (m * up e) (down e)
  of_fields_lem true x t hx ht r = absurd (not_negative x t r)
  of_fields_lem false x t hx ht r =
      elim (dec_lt x 127) [
        | yes a ↦ absurd (not_small x t a ht r)
        | no a ↦ elim (dec_lt x 255) [ yes b ↦ is_normal x t (omega (arith, a)) b ht r | no b ↦ absurd (not_special x t (omega (arith, b)) r) ]
      ]

  of_float : T (fits binary32 (fin false m e)) → Normal (m * up e) (down e)
  unfolding is_nan
  of_float held =
      let f = own_fields (fin false m e) held refl in
      of_fields_lem (eqb (to_bits binary32 (fin false m e) / 2 ^ 31) 1) (to_bits binary32 (fin false m e) / 2 ^ 23 % 2 ^ 8) (to_bits binary32 (fin false m e) % 2 ^ 23) f.e_lt f.t_lt (sym f.is)

-- a wider tolerance
wider : (j k p n c d : ℕ) → j ≤ k → Within j p n c d → Within k p n c d
wider j k p n c d h w = record {
  above = le_trans (mul-le-mul_right (c ^ p) (pow-le-pow_right (zero-lt-suc 9) (sub-le-sub_left h d))) w.above;
  below = le_trans w.below (mul-le-mul_right (c ^ p) (pow-le-pow_right (zero-lt-suc 9) (add-le-add (le_refl d) h)));
}

-- THE BOUNDS. A finite f32 above 1, which is m * up e / down e, has a level d with 10 ^ (d - k) ≤ v ^ p ≤ 10 ^ (d + k), for each tolerance k from 1 and each power up to 20000.
pub level_bounds : (k p m : ℕ) (e : ℤ) → 1 ≤ k → p ≤ 20000 → T (fits binary32 (fin false m e)) → down e < m * up e
    → Within k p (m * up e) (down e) (thousandths p (m * up e) (down e))
level_bounds k p m e hk hp held above =
    let n = m * up e in
    let c = down e in
    let f = of_float m e above held in
    wider 1 k p n c (thousandths p n c) hk
    (subst (Within 1 p n c)
    (sym (above_one_lem p n c above ∙ ap (decimal p) (log_is n c f.x f.w (down_pos e) f.least f.most f.value)))
    (bounds p n c f.x f.w hp f.least f.most f.range f.value))

-- THE CLAIM, of every f32, at each tolerance from 1
pub level_right : (k p : ℕ) (v : Float) → 1 ≤ k → p ≤ 20000 → T (fits binary32 v) → IsLevel k p v (level_of p v)
unfolding level_of
level_right k p nan hk hp held = refl
level_right k p (inf true) hk hp held = refl
level_right k p (inf false) hk hp held = refl
level_right k p (fin true m e) hk hp held = refl
level_right k p (fin false m e) hk hp held = record {
  level = thousandths p (m * up e) (down e);
  is = refl;
  low = at_most_one p (m * up e) (down e);
  high = level_bounds k p m e hk hp held;
}

-- THE CLAIM at the tolerance that the documents ask for, of both levels
pub d_right : (v : Float) → T (fits binary32 v) → IsLevel tolerance 20000 v (d v)
d_right v held = level_right tolerance 20000 v (lit≤ tt) (lit≤ tt) held

pub h_right : (a : Float) → T (fits binary32 a) → IsLevel tolerance 10000 a (h a)
h_right a held = level_right tolerance 10000 a (lit≤ tt) (lit≤ tt) held
