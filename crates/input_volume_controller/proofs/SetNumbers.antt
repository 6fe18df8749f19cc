-- Sets of volumes: what the numbers of a set tell, and that their lowest is at most 255. Assumes nothing.
use mathlib.Core.Path.{◌≡◌, refl, sym, ap, ◌∙◌, subst}
use mathlib.Core.List.{List, [], ◌∷◌, map}
use Prim.Native.Nat.{ℕ, zero, suc, ◌≤◌, min, zero-le}
use native.Mathlib.Omega.{arith}
use lib.Dec.{T}
use lib.IntN.{ℤ, pos, nat_abs}
use lib.ListN.{length, length-map, replicate}
use Rattle.std.specs.Prelude.{None, Option, Some}
use Rattle.numbers.specs.Natural.{within_of}
use Rattle.numbers.proofs.Ranges.{told}
use Rattle.numbers.proofs.Signs.{clash}
use Rattle.mono_input_volume_controller.specs.MonoState.{max_input_volume}
use Rattle.input_volume_controller.specs.Volumes.{equal_volumes, Volumes, outside_set, number_set, and_volume, are_numbers, numbers_of, lowest_from, lowest_of}

-- ---- what the numbers of a set tell

-- no volume is above 255
abbrev pub AllMost : List ℕ → Type 0
AllMost [] = Unit {0}
AllMost (v ∷ vs) = (v ≤ max_input_volume) × AllMost vs

pub record ToldSet (volumes : List ℤ) (numbers : List ℕ) : Type 0 where
  pub is : volumes ≡ map pos numbers
  pub most : AllMost numbers

abbrev list_in : Volumes → List ℕ
list_in outside_set = []
list_in (number_set numbers) = numbers

-- a set is the set of the numbers in it
whole : (s : Volumes) (numbers : List ℕ) → s ≡ number_set numbers → T (are_numbers s)
whole outside_set numbers e = clash (sym (ap are_numbers e))
whole (number_set others) numbers e = tt

told_next : (volume : ℤ) (volumes : List ℤ) (v : Option ℕ) (s : Volumes) → within_of 0 max_input_volume volume ≡ v → (T (are_numbers s) → ToldSet volumes (list_in s)) → T (are_numbers (and_volume v s))
    → ToldSet (volume ∷ volumes) (list_in (and_volume v s))
told_next volume volumes None s e h t = absurd t
told_next volume volumes (Some n) outside_set e h t = absurd t
told_next volume volumes (Some n) (number_set numbers) e h t =
    let one = told 0 max_input_volume volume n e in
    let rest = h tt in
    record { is = λ i. one.is i ∷ rest.is i; most = (one.most, rest.most) }

told_by : (volumes : List ℤ) → T (are_numbers (numbers_of volumes)) → ToldSet volumes (list_in (numbers_of volumes))
unfolding numbers_of
told_by [] t = record { is = refl; most = tt }
told_by (volume ∷ volumes) t = told_next volume volumes (within_of 0 max_input_volume volume) (numbers_of volumes) refl (told_by volumes) t

pub told_set : (volumes : List ℤ) (numbers : List ℕ) → numbers_of volumes ≡ number_set numbers → ToldSet volumes numbers
told_set volumes numbers e =
    let t = told_by volumes (whole (numbers_of volumes) numbers e) in
    let same : list_in (numbers_of volumes) ≡ numbers = ap list_in e in
    record { is = t.is ∙ ap (map pos) same; most = subst AllMost same t.most }

pub numbers_back : (numbers : List ℕ) → map nat_abs (map pos numbers) ≡ numbers
numbers_back [] = refl
numbers_back (n ∷ ns) = ap (λ (l : List ℕ). n ∷ l) (numbers_back ns)

from_list : (s : Volumes) → T (are_numbers s) → s ≡ number_set (list_in s)
from_list outside_set t = absurd t
from_list (number_set numbers) t = refl

-- of a set that passes the test
pub numbers_are : (volumes : List ℤ) → T (are_numbers (numbers_of volumes)) → numbers_of volumes ≡ number_set (map nat_abs volumes)
numbers_are volumes t = from_list (numbers_of volumes) t ∙ ap number_set (sym (ap (map nat_abs) (told_by volumes t).is ∙ numbers_back (list_in (numbers_of volumes))))

pub length_told : (volumes : List ℤ) (numbers : List ℕ) → numbers_of volumes ≡ number_set numbers → length numbers ≡ length volumes
length_told volumes numbers e = sym (length-map numbers pos) ∙ ap length (sym (told_set volumes numbers e).is)

-- of equal volumes, each of them a number
pub equal_numbers : (volume : ℤ) (v n : ℕ) → within_of 0 max_input_volume volume ≡ Some v → numbers_of (equal_volumes volume n) ≡ number_set (replicate n v)
unfolding numbers_of
equal_numbers volume v zero e = refl
equal_numbers volume v (suc n) e = λ i. and_volume (e i) (equal_numbers volume v n e i)

-- ---- the lowest of a set

lowest_from_most : (v : ℕ) (vs : List ℕ) → v ≤ max_input_volume → lowest_from v vs ≤ max_input_volume
unfolding lowest_from
lowest_from_most v [] h = h
lowest_from_most v (w ∷ ws) h = lowest_from_most (min v w) ws (omega arith)

pub lowest_of_most : (vs : List ℕ) → AllMost vs → lowest_of vs ≤ max_input_volume
unfolding lowest_of
lowest_of_most [] h = zero-le
lowest_of_most (v ∷ vs) h = lowest_from_most v vs h.0
