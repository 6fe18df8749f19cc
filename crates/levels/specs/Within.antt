-- Document 01, "Levels": "10^(d-2) ≤ v^20000 ≤ 10^(d+2), with v an exact fraction"; "At 1 or below, d = h = 0." Document 02 (x): "within one thousandth of the
-- exact value instead of two". What it is to be a level, over the tolerance k and the power p. Definitions only.
use Rattle.std.specs.Prelude.{ℕ, ◌+◌, ◌-◌, ◌*◌, ◌^◌, ◌≤◌, ◌<◌, ◌≡◌, true, false, pos, Float}
use Rattle.std.specs.Float.{nan, inf, fin}
use Rattle.std.specs.Float.Ieee.{up, down}
use Rattle.levels.specs.declared.decibels.Decibels.{Decibels}
use Rattle.levels.specs.declared.decibels.Decibels.TheVariants.{Finite, PlusInfinity, NotANumber}

-- 10 ^ (d - k) ≤ (n / c) ^ p ≤ 10 ^ (d + k), with the denominator multiplied out. Below k, d - k is 0, which asks for more than a negative power would.
pub record Within (k p n c d : ℕ) : Type 0 where
  pub above : 10 ^ (d - k) * c ^ p ≤ n ^ p
  pub below : n ^ p ≤ 10 ^ (d + k) * c ^ p

-- r is the level of n / c
pub record Near (k p n c : ℕ) (r : Decibels) : Type 0 where
  pub level : ℕ
  pub is : r ≡ Finite (pos level)
  pub low : n ≤ c → level ≡ 0
  pub high : c < n → Within k p n c level

-- r is the level of v. A finite v is m * up e / down e in size.
abbrev pub IsLevel : ℕ → ℕ → Float → Decibels → Type 0
IsLevel k p nan r = r ≡ NotANumber
IsLevel k p (inf true) r = r ≡ Finite (pos 0)
IsLevel k p (inf false) r = r ≡ PlusInfinity
IsLevel k p (fin true m e) r = r ≡ Finite (pos 0)
IsLevel k p (fin false m e) r = Near k p (m * up e) (down e) r

-- document 02 (x): "within one thousandth"
abbrev pub tolerance : ℕ
tolerance = 1
