-- After an accepted frame the lowest of its volumes is pending, and with capture off a recommendation repeats it. Assumes nothing.
use mathlib.Core.Path.{◌≡◌, refl, sym, ap, ◌∙◌, subst}
use mathlib.Core.Bool.{Bool, false}
use mathlib.Core.List.{List, [], ◌∷◌, map}
use Prim.Native.Nat.{ℕ, zero, suc, ◌≤◌, ◌<◌, min}
use native.Mathlib.Nat.{not-suc-le-zero, le_of_suc-le-suc}
use native.Mathlib.Decide.{dec_le}
use native.Mathlib.Omega.{arith}
use lib.IntN.{ℤ, pos, nat_abs}
use lib.Ieee.{Float}
use lib.ListN.{length, get_or, length-map, get_or-map}
use Rattle.std.specs.Prelude.{Option, Some}
use Rattle.input_volume_controller.specs.Volumes.{lowest_from, lowest_of}
use Rattle.input_volume_controller.specs.Control.{Control}
use Rattle.input_volume_controller.specs.ControlCalls.{aggregated, with_applied_input_volumes, lower_channels}
use Rattle.input_volume_controller.specs.Controller.{Controller}
use Rattle.input_volume_controller.specs.Reply.{volume, Stepped}
use Rattle.input_volume_controller.specs.Frame.{with_volumes_applied}
use Rattle.input_volume_controller.specs.Recommendation.{recommend_if, unless_none, recommend_input_volume}
use Rattle.input_volume_controller.specs.Calls.{frame, recommendation, step}
use Rattle.input_volume_controller.proofs.SetNumbers.{told_set}
use Rattle.claims.specs.LowestIsApplied.{LowestIsApplied}
use Rattle.claims.proofs.Walk.{Hears, if_used_lem}
use Rattle.claims.proofs.Outcomes.{accepted_as}
use Rattle.claims.proofs.Runs.{step_accepted}

-- ---- the lowest of a list

record IsLowest (numbers : List ℕ) (low : ℕ) : Type 0 where
  holder : ℕ
  inside : holder < length numbers
  holds : get_or numbers holder 0 ≡ low
  least : (i : ℕ) → i < length numbers → low ≤ get_or numbers i 0

-- of a first number and others: the lower of it and the next, and the rest
lowest_next : (v w low : ℕ) (ws : List ℕ) → IsLowest (min v w ∷ ws) low → IsLowest (v ∷ w ∷ ws) low
lowest_next v w low ws l = held l.holder l.inside l.holds
  where
    others : (i : ℕ) → i < length (v ∷ w ∷ ws) → low ≤ get_or (v ∷ w ∷ ws) i 0
    others zero h = omega (arith, l.least 0 (omega arith))
    others (suc zero) h = omega (arith, l.least 0 (omega arith))
    others (suc (suc i)) h = l.least (suc i) (le_of_suc-le-suc h)

    held : (i : ℕ) → i < length (min v w ∷ ws) → get_or (min v w ∷ ws) i 0 ≡ low → IsLowest (v ∷ w ∷ ws) low
    held zero k e = elim (dec_le v w) [
      | yes h ↦ record { holder = 0; inside = omega arith; holds = omega (arith, e, h); least = others }
      | no h ↦ record { holder = 1; inside = omega arith; holds = omega (arith, e, h); least = others }
    ]
    held (suc i) k e = record { holder = suc (suc i); inside = omega (arith, k); holds = e; least = others }

alone : (v i : ℕ) → i < 1 → v ≤ get_or (v ∷ []) i 0
alone v zero h = omega arith
alone v (suc i) h = absurd (omega (arith, h))

lowest_from_lem : (v : ℕ) (ws : List ℕ) → IsLowest (v ∷ ws) (lowest_from v ws)
unfolding lowest_from
lowest_from_lem v [] = record { holder = 0; inside = omega arith; holds = refl; least = λ i h. alone v i h }
lowest_from_lem v (w ∷ ws) = lowest_next v w (lowest_from (min v w) ws) ws (lowest_from_lem (min v w) ws)

lowest_of_lem : (numbers : List ℕ) → 1 ≤ length numbers → IsLowest numbers (lowest_of numbers)
unfolding lowest_of
lowest_of_lem [] h = absurd (not-suc-le-zero h)
lowest_of_lem (v ∷ vs) h = lowest_from_lem v vs

-- ---- the frame

abbrev Pending : ℕ → Control → Type 0
Pending low c = c.applied ≡ Some low

pending_on : (low : ℕ) → Hears (Pending low)
unfolding lower_channels aggregated
pending_on low = record { lowers = λ by c h. h; counts = λ c h. h }

repeated : (c : Controller) (low : ℕ) → c.control.applied ≡ Some low → c.control.used ≡ false → (probability : Float) (level : Option Float)
    → (step c (recommendation probability level)).reply ≡ volume (pos low)
unfolding recommend_input_volume
repeated c low e off probability level =
    ap (λ (a : Option ℕ). (unless_none a probability level c).reply) e ∙ ap (λ (used : Bool). (recommend_if used low probability level c).reply) off

-- THE CLAIM
pub lowest_is_applied : LowestIsApplied
unfolding with_applied_input_volumes aggregated
lowest_is_applied c most volumes samples lent some t =
    let n = length c.control.channels in
    let a = accepted_as most volumes samples lent n t in
    let numbers = map nat_abs volumes in
    let next = (step c (frame most volumes samples lent)).state in
    let count = length-map volumes nat_abs in
    let low = lowest_of numbers in
    let pending : Pending low next.control =
    subst (λ (s : Stepped). Pending low s.state.control) (sym (step_accepted n most volumes samples lent c refl t))
    (if_used_lem (Pending low) (pending_on low) c.control.used samples lent (with_volumes_applied numbers c) refl) in
    let l = lowest_of_lem numbers (omega (arith, some, count, a.count)) in
    record {
      lowest = low;
      pending = pending;
      holder = l.holder;
      inside = omega (arith, l.inside, count);
      holds = ap (λ (vs : List ℤ). get_or vs l.holder (pos 0)) (told_set volumes numbers a.numbers).is ∙ get_or-map pos numbers l.holder 0 ∙ ap pos l.holds;
      least = λ channel h. omega (arith, l.least channel (omega (arith, h, count)), get_or-map nat_abs volumes channel (pos 0));
      repeats = repeated next low pending;
    }
