-- A set of volumes that is taken apart: what its bytes stand for, by place. Definitions only.
use Rattle.std.specs.Prelude.{◌≡◌, Bool, true, false, List, [], ℕ, ◌≤◌, ℤ, length, get_or, Option, Some, None}
use Rattle.numbers.specs.Listed.{listed}
use Rattle.clipping_predictor.specs.Predictor.{max_channels}
use Rattle.input_volume_controller.specs.declared.volume_set.VolumeSet.{VolumeSet}
use Rattle.input_volume_controller.specs.Volumes.{Volumes, outside_set, number_set, numbers_of}

abbrev pub level_at : List ℕ → ℕ → ℕ
level_at levels channel = get_or levels channel 0

unfoldable pub levels_of : List ℕ → ℕ → List ℕ
levels_of levels channels = listed (level_at levels) channels

abbrev pub volumes_if : Bool → List ℕ → Volumes
volumes_if true volumes = number_set volumes
volumes_if false volumes = outside_set

-- the bytes of a set that is inside; outside it has none
abbrev pub bytes_in : Option (List ℕ) → List ℕ
bytes_in (Some levels) = levels
bytes_in None = []

-- "each from 0 to 255": whether there are bytes for all volumes of a set
abbrev pub is_inside : Option (List ℕ) → Bool
is_inside (Some levels) = true
is_inside None = false

unfoldable pub volumes_in : ℕ → Option (List ℕ) → Volumes
unfolding levels_of
volumes_in channels levels = volumes_if (is_inside levels) (levels_of (bytes_in levels) channels)

-- the bytes of these volumes. Left free are the bytes, and whether they are inside, of a set that is as long as the channels of no controller, not 1 to 8, and the bytes past the last: a frame reads none of them.
abbrev pub BytesOf : List ℤ → Option (List ℕ) → Type 0
BytesOf volumes levels = 1 ≤ length volumes → length volumes ≤ max_channels → volumes_in (length volumes) levels ≡ numbers_of volumes

-- the set of these volumes
pub record SetOf (volumes : List ℤ) (set : VolumeSet) : Type 0 where
  pub count : set.count ≡ length volumes
  pub numbers : BytesOf volumes set.levels
