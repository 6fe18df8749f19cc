-- Document 02 (xiv): "the volumes of all channels as one set .., taken whole or not at all". Definitions only.
use Rattle.std.specs.Prelude.{Bool, true, false, List, [], ◌∷◌, ℕ, min, ℤ, replicate, None, Option, Some}
use Rattle.numbers.specs.Natural.{within_of}
use Rattle.mono_input_volume_controller.specs.MonoState.{max_input_volume}

-- one volume for all channels is the set of equal volumes
abbrev pub equal_volumes : ℤ → ℕ → List ℤ
equal_volumes volume channels = replicate channels volume

-- ---- "any volume outside 0 to 255"

-- a set whose volumes all lie from 0 to 255, in numbers; or one of them does not
pub data Volumes : Type 0 where
  outside_set : Volumes
  number_set : List ℕ → Volumes

abbrev pub and_volume : Option ℕ → Volumes → Volumes
and_volume None others = outside_set
and_volume (Some volume) outside_set = outside_set
and_volume (Some volume) (number_set volumes) = number_set (volume ∷ volumes)

unfoldable pub numbers_of : List ℤ → Volumes
numbers_of [] = number_set []
numbers_of (volume ∷ volumes) = and_volume (within_of 0 max_input_volume volume) (numbers_of volumes)

abbrev pub are_numbers : Volumes → Bool
are_numbers outside_set = false
are_numbers (number_set volumes) = true

-- a set that is outside is refused, and none of its volumes is used
abbrev pub numbers_in : Volumes → List ℕ
numbers_in outside_set = []
numbers_in (number_set volumes) = volumes

-- ---- "The lowest"

unfoldable pub lowest_from : ℕ → List ℕ → ℕ
lowest_from volume [] = volume
lowest_from volume (other ∷ others) = lowest_from (min volume other) others

-- no set that is accepted is empty
unfoldable pub lowest_of : List ℕ → ℕ
unfolding lowest_from
lowest_of [] = 0
lowest_of (volume ∷ volumes) = lowest_from volume volumes
