-- The ring that a predictor is made with, and a making that is accepted or refused. Assumes nothing.
use mathlib.Core.Path.{◌≡◌, refl, ap, subst, ◌∙◌}
use Prim.Native.Nat.{ℕ, ◌+◌, ◌≤◌, ◌<◌}
use native.Mathlib.Omega.{arith}
use mathlib.Core.Bool.{Bool, true, false, ◌&&◌}
use lib.Dec.{leb, ltb}
use lib.IntN.{ℤ, pos, nat_abs}
use borrow.Author.Tests.{le-leb, leb-true, ltb-true}
use Rattle.std.specs.Prelude.{None, Ok, Option, Some}
use Rattle.numbers.specs.Natural.{at_least_of}
use Rattle.numbers.proofs.Ranges.{told_least}
use Rattle.clipping_predictor_level_buffer.specs.declared.Made.{Made}
use Rattle.clipping_predictor_level_buffer.specs.Ring.{max_capacity, Emptied}
use Rattle.clipping_predictor_level_buffer.specs.Making.{capacity_of, making_of, capacity_beside, MadeOf}
use Rattle.clipping_predictor.specs.declared.settings.ClippingPredictorConfig.{ClippingPredictorConfig}
use Rattle.clipping_predictor.specs.declared.settings.Settings.{Settings}
use Rattle.clipping_predictor.specs.Settings.{max_level, levels_in_range, checked_if, checked, settings_of, Good}

pub made_ring : (n : ℕ) (z : ℤ) (m : Made) → z ≡ pos n → 1 ≤ n → n ≤ max_capacity → MadeOf z m → Emptied n m.ring
unfolding capacity_of making_of
made_ring n z m e low high made =
    let cap : capacity_of z ≡ n = ap capacity_of e ∙ omega arith in
    let ok : making_of (capacity_of z) ≡ Ok tt = ap making_of cap ∙ rw (le-leb n max_capacity high) in
    subst (λ (k : ℕ). Emptied k m.ring) (λ i. capacity_beside (ok i) (cap i)) made.empty

-- ---- settings that the check takes are in good order

record Tests (window reference delay : ℕ) (threshold margin : ℤ) : Type 0 where
  above : window < delay + reference
  room : delay + reference ≤ max_capacity
  first : nat_abs threshold ≤ max_level
  second : nat_abs margin ≤ max_level

tests : (window reference delay : ℕ) (threshold margin : ℤ) (a b c d : Bool) → ltb window (delay + reference) ≡ a → leb (delay + reference) max_capacity ≡ b → leb (nat_abs threshold) max_level ≡ c → leb (nat_abs margin) max_level ≡ d
    → (s t : Settings) → checked_if a b (c && d) s ≡ Ok t → Tests window reference delay threshold margin × (s ≡ t)
tests window reference delay threshold margin true true true true p q r u s t e = (
  record { above = ltb-true window (delay + reference) p; room = leb-true (delay + reference) max_capacity q; first = leb-true (nat_abs threshold) max_level r; second = leb-true (nat_abs margin) max_level u },
  cc,
)
tests window reference delay threshold margin true true true false p q r u s t e = let z : ◌≡◌ {A = ℕ} 0 1 = cc in absurd (omega arith)
tests window reference delay threshold margin true true false d p q r u s t e = let z : ◌≡◌ {A = ℕ} 0 1 = cc in absurd (omega arith)
tests window reference delay threshold margin true false c d p q r u s t e = let z : ◌≡◌ {A = ℕ} 0 1 = cc in absurd (omega arith)
tests window reference delay threshold margin false b c d p q r u s t e = let z : ◌≡◌ {A = ℕ} 0 1 = cc in absurd (omega arith)

good' : (c : ClippingPredictorConfig) (w r d : Option ℕ) (t : Settings) → at_least_of 1 c.window_length ≡ w → at_least_of 1 c.reference_window_length ≡ r → checked w r d c ≡ Ok t → Good t
unfolding checked levels_in_range
good' c None r d t p q e = let z : ◌≡◌ {A = ℕ} 0 1 = cc in absurd (omega arith)
good' c (Some w) None d t p q e = let z : ◌≡◌ {A = ℕ} 0 1 = cc in absurd (omega arith)
good' c (Some w) (Some r) None t p q e = let z : ◌≡◌ {A = ℕ} 0 1 = cc in absurd (omega arith)
good' c (Some w) (Some r) (Some d) t p q e =
    let k = tests w r d c.clipping_threshold c.crest_factor_margin _ _ _ _ refl refl refl refl _ t e in
    subst Good k.1 (record {
      window_low = (told_least 1 c.window_length w p).least;
      reference_low = (told_least 1 c.reference_window_length r q).least;
      window_high = k.0.above;
      room = k.0.room;
      threshold_bound = k.0.first;
      margin_bound = k.0.second;
    })

pub good_settings : (c : ClippingPredictorConfig) (t : Settings) → settings_of c ≡ Ok t → Good t
unfolding settings_of
good_settings c t e = good' c _ _ _ t refl refl e
