-- Document 01, "Volume steps": "For a wanted change, walk volume by volume until the table difference reaches it or the end (minimum, or maximum) is met;
-- the walk yields the volume where it stopped." WebRTC's `ComputeVolumeUpdate`. Definitions only.
use Rattle.std.specs.Prelude.{ℕ, zero, suc, ◌+◌, ◌-◌, Bool, true, false, leb, ℤ, pos, negsuc, ◌-ℤ◌, Err, None, Ok, Option, Result, Some}
use Rattle.std.specs.Int.Signed.{le_z}
use Rattle.numbers.specs.declared.refusal.Refusal.{Refusal}
use Rattle.numbers.specs.declared.refusal.Refusal.TheVariants.{MinimumVolume, InputVolume, EstimateRange}
use Rattle.numbers.specs.Natural.{within_of}
use Rattle.numbers.specs.First.{first}
use Rattle.gain_map.specs.GainMap.{gain}

-- k volumes above the base, the table has risen by what is wanted
abbrev pub risen : ℤ → ℕ → ℕ → Bool
risen wanted base k = le_z wanted (gain (base + k) -ℤ gain base)

-- k volumes below the base, the table has fallen as far as is wanted
abbrev pub fallen : ℤ → ℕ → ℕ → Bool
fallen wanted base k = le_z (gain (base - k) -ℤ gain base) wanted

-- the walk up stops where it has risen enough, or at the maximum
unfoldable pub rise : ℤ → ℕ → ℕ → ℕ
rise wanted base max = base + first (risen wanted base) (max - base)

-- the walk down stops where it has fallen enough, or at the minimum
unfoldable pub fall : ℤ → ℕ → ℕ → ℕ
fall wanted base min = base - first (fallen wanted base) (base - min)

-- a wanted rise, a wanted fall, or neither
unfoldable pub walk : ℤ → ℕ → ℕ → ℕ → ℕ
unfolding rise fall
walk (pos zero) volume min max = volume
walk (pos (suc n)) volume min max = rise (pos (suc n)) volume max
walk (negsuc n) volume min max = fall (negsuc n) volume min

-- "The bare volume step tests 2 (its minimum), 8, 10 (its maximum not 0 to 255, or the volume above it; a minimum above the maximum is let through)."
abbrev pub reached : Bool → ℕ → Result ℤ Refusal
reached true volume = Ok (pos volume)
reached false volume = Err EstimateRange

unfoldable pub stepped : ℤ → Option ℕ → Option ℕ → Option ℕ → Result ℤ Refusal
unfolding walk
stepped wanted None volume max = Err MinimumVolume
stepped wanted (Some min) None max = Err InputVolume
stepped wanted (Some min) (Some volume) None = Err EstimateRange
stepped wanted (Some min) (Some volume) (Some max) = reached (leb volume max) (walk wanted volume min max)

unfoldable pub volume_update_of : ℤ → ℤ → ℤ → ℤ → Result ℤ Refusal
unfolding stepped
volume_update_of wanted volume min max = stepped wanted (within_of 0 255 min) (within_of 0 255 volume) (within_of 0 255 max)
