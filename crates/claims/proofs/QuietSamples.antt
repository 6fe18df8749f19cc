-- A sample from -29,000 to 29,000 is a number, is not clipped, and has a magnitude up to 29,000. Assumes nothing.
use mathlib.Core.Path.{◌≡◌, refl, sym, subst}
use mathlib.Core.Logic.{◌⊎◌, inl, inr}
use mathlib.Core.Bool.{Bool, true, false, not, ◌&&◌, ◌||◌}
use Prim.Native.Nat.{ℕ, ◌*◌, ◌≤◌}
use native.Mathlib.Nat.{le_of_eq, le_of_lt, eq-or-lt_of_le}
use native.Mathlib.Omega.{arith}
use lib.Dec.{T, ltb, eqb, eqb→eq, eqb_refl, ltb→lt, lt→ltb, not_T}
use lib.IntN.{ℤ, pos}
use lib.Ieee.{Float, nan, inf, fin, up, down, lt, eq, le, is_nan, of_int}
use lib.Ieee.Fits.{down_pos}
use Rattle.levels.specs.FloatParts.{magnitude_of}
use Rattle.levels.proofs.Quiet.{loudest}
use Rattle.clipping_predictor_level_buffer.specs.Clipped.{is_clipped}
use Rattle.claims.specs.LeadIn.{is_quiet, is_sound}
use Rattle.claims.proofs.Lists.{and_l, and_r, and_both}

-- ---- comparisons of floats, as orders of numbers

or_split : (a b : Bool) → T (a || b) → T a ⊎ T b
or_split true b t = inl tt
or_split false b t = inr t

or_l : (a b : Bool) → T a → T (a || b)
or_l true b t = tt
or_l false b t = absurd t

or_r : (a b : Bool) → T b → T (a || b)
or_r true b t = tt
or_r false b t = t

up_to : (a b : ℕ) (c : Bool) → T (ltb a b || (eqb a b && c)) → a ≤ b
up_to a b c t = elim (or_split (ltb a b) (eqb a b && c) t) [ inl u ↦ le_of_lt (ltb→lt a b u) | inr u ↦ le_of_eq (eqb→eq a b (and_l (eqb a b) c u)) ]

down_to : (a b : ℕ) (c : Bool) → T (ltb b a || (eqb a b && c)) → b ≤ a
down_to a b c t = elim (or_split (ltb b a) (eqb a b && c) t) [ inl u ↦ le_of_lt (ltb→lt b a u) | inr u ↦ le_of_eq (sym (eqb→eq a b (and_l (eqb a b) c u))) ]

of_up_to : (a b : ℕ) → a ≤ b → T (ltb a b || (eqb a b && true))
of_up_to a b h = elim (eq-or-lt_of_le h) [
  | inl e ↦ or_r (ltb a b) (eqb a b && true) (and_both (eqb a b) true (subst (λ (x : ℕ). T (eqb a x)) e (eqb_refl a)) tt)
  | inr l ↦ or_l (ltb a b) (eqb a b && true) (lt→ltb a b l)
]

-- ---- the four bounds, as floats

abbrev quietest : Float
quietest = fin true 3625 (pos 3)

abbrev top : Float
top = fin false 32767 (pos 0)

abbrev bottom : Float
bottom = fin true 1 (pos 15)

abbrev between : Float → Bool
between x = le quietest x && le x loudest

quiet_is : (x : Float) → is_quiet x ≡ between x
unfolding is_quiet of_int
quiet_is x = refl

clipped_is : (x : Float) → is_clipped x ≡ (le top x || le x bottom)
unfolding is_clipped of_int
clipped_is x = refl

-- ---- a quiet sample, by its size and sign

-- 29,000 or less in size
size_up : (m : ℕ) (e : ℤ) → T (between (fin false m e)) → m * up e * 1 ≤ 29000 * down e
unfolding le lt eq
size_up m e t = up_to (m * up e * 1) (29000 * down e) true (and_r (le quietest (fin false m e)) (le (fin false m e) loudest) t)

size_down : (m : ℕ) (e : ℤ) → T (between (fin true m e)) → m * up e * 1 ≤ 29000 * down e
unfolding le lt eq
size_down m e t = down_to (29000 * down e) (m * up e * 1) true (and_l (le quietest (fin true m e)) (le (fin true m e) loudest) t)

not_top : (s : Bool) (m : ℕ) (e : ℤ) → m * up e * 1 ≤ 29000 * down e → T (le top (fin s m e)) → ⊥
unfolding le lt eq
not_top false m e h t = let l = up_to (32767 * down e) (m * up e * 1) true t in omega (arith, down_pos e)
not_top true m e h t =
    let l : 32767 * down e ≡ 0 = eqb→eq (32767 * down e) 0 (and_r (eqb (32767 * down e) (m * up e * 1)) (eqb (32767 * down e) 0) t) in
    omega (arith, down_pos e)

not_bottom : (s : Bool) (m : ℕ) (e : ℤ) → m * up e * 1 ≤ 29000 * down e → T (le (fin s m e) bottom) → ⊥
unfolding le lt eq
not_bottom true m e h t = let l = down_to (m * up e * 1) (32768 * down e) true t in omega (arith, down_pos e)
not_bottom false m e h t =
    let l : m * up e * 1 ≡ 32768 * down e = eqb→eq (m * up e * 1) (32768 * down e) (and_l (eqb (m * up e * 1) (32768 * down e)) (eqb (m * up e * 1) 0) t) in
    omega (arith, down_pos e)

not_clipped : (s : Bool) (m : ℕ) (e : ℤ) → m * up e * 1 ≤ 29000 * down e → T (not (is_clipped (fin s m e)))
not_clipped s m e h =
    let x = fin s m e in
    not_T (is_clipped x) (λ u. elim (or_split (le top x) (le x bottom) (subst T (clipped_is x) u)) [ inl a ↦ not_top s m e h a | inr b ↦ not_bottom s m e h b ])

sound_between : (x : Float) → T (between x) → T (is_sound x)
unfolding is_sound is_nan le lt eq
sound_between nan t = absurd t
sound_between (inf true) t = absurd t
sound_between (inf false) t = absurd t
sound_between (fin false m e) t = and_both (not (is_clipped (fin false m e))) true (not_clipped false m e (size_up m e t)) tt
sound_between (fin true m e) t = and_both (not (is_clipped (fin true m e))) true (not_clipped true m e (size_down m e t)) tt

magnitude_between : (x : Float) → T (between x) → T (le (magnitude_of x) loudest)
unfolding magnitude_of le lt eq
magnitude_between nan t = absurd t
magnitude_between (inf true) t = absurd t
magnitude_between (inf false) t = absurd t
magnitude_between (fin false m e) t = of_up_to (m * up e * 1) (29000 * down e) (size_up m e t)
magnitude_between (fin true m e) t = of_up_to (m * up e * 1) (29000 * down e) (size_down m e t)

-- THE LAWS
pub sound : (x : Float) → T (is_quiet x) → T (is_sound x)
sound x t = sound_between x (subst T (quiet_is x) t)

pub magnitude_low : (x : Float) → T (is_quiet x) → T (le (magnitude_of x) loudest)
magnitude_low x t = magnitude_between x (subst T (quiet_is x) t)
