-- The gain table never falls. Document 01, "Volume steps": "The gain table has 256 whole dB values, from -56 at volume 0 to 64 at 255, never falling."
-- It reaches the code by the contracts of `walk_from` and `compute_volume_update` in the crate `gain_map`, whose walk reads its gains from `gain`. Definitions only.
use Rattle.std.specs.Prelude.{◌≡◌, ℕ, ◌≤◌, ◌<◌, pos, negsuc, length, ◌≤ℤ◌}
use Rattle.gain_map.specs.GainMap.{gain_map, gain}

-- THE CLAIM; `negsuc 55` is -56
pub record NeverFalls : Type 0 where
  pub values : length gain_map ≡ 256
  pub lowest : gain 0 ≡ negsuc 55
  pub highest : gain 255 ≡ pos 64
  pub order : (v w : ℕ) → v ≤ w → w < 256 → gain v ≤ℤ gain w
