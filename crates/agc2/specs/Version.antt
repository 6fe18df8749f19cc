-- The product's version as a number. Definitions only.
use Rattle.std.specs.Prelude.{ℕ, ◌+◌, ◌*◌}

-- two digits each for the second and the third number
abbrev pub version_of : ℕ → ℕ → ℕ → ℕ
version_of major minor patch = major * 10000 + minor * 100 + patch

-- 1.0.0
abbrev pub version : ℕ
version = version_of 1 0 0
