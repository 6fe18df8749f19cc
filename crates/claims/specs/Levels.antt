-- Levels within one thousandth. Document 01, "Levels": "For finite v above 1 it is d(v) - 90,310, where 10^(d-2) ≤ v^20000 ≤ 10^(d+2), with v an exact fraction. For a mean square a above 1,
-- h(a) has 10^(h-2) ≤ a^10000 ≤ 10^(h+2). At 1 or below, d = h = 0. .. Plus infinity and not-a-number are their own d and h". Document 02 (x): "Levels are to lie within one thousandth of the
-- exact value instead of two, before the offset as in document 01". `IsLevel` of the crate `levels` says this of each kind of float.
-- It reaches the code by the contracts of `peak_level`, `mean_square_level` and `float_s16_to_dbfs` in the crate `levels`, which hand back `d`, `h` and `dbfs`, which is d less 90,310. Definitions only.
use Rattle.std.specs.Prelude.{◌≡◌, T, negsuc, Float}
use Rattle.std.specs.Float.{binary32}
use Rattle.std.specs.Float.Ieee.{fits}
use Rattle.levels.specs.declared.decibels.Decibels.TheVariants.{Finite}
use Rattle.levels.specs.Decibels.{plus}
use Rattle.levels.specs.Level.{d, h, dbfs}
use Rattle.levels.specs.Within.{IsLevel}

-- THE CLAIM, for every 32-bit float
pub record LevelsWithinOne : Type 0 where
  pub peak : (v : Float) → T (fits binary32 v) → IsLevel 1 20000 v (d v)
  -- `negsuc 90309` is -90,310
  pub offset : (v : Float) → dbfs v ≡ plus (d v) (Finite (negsuc 90309))
  pub mean_square : (a : Float) → T (fits binary32 a) → IsLevel 1 10000 a (h a)
