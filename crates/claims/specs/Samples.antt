-- Samples as devices give them become a frame's with nothing rounded. `HasValue x s a c` says that x is finite, has the sign s, and is a / c in size. Definitions only.
use Rattle.std.specs.Prelude.{Bool, true, false, ℕ, suc, ◌*◌, ◌^◌, ◌<◌, T, pos, negsuc, Float}
use Rattle.std.specs.Float.{binary32}
use Rattle.std.specs.Float.Ieee.{fits, of_int}
use Rattle.std.specs.Float.Ieee.Exact.{HasValue}
use Rattle.agc2.specs.Samples.{scaled}

pub record SamplesAreExact : Type 0 where
  -- 16 bits: 0 to 32,767, and -1 to -32,768
  pub above : (n : ℕ) → n < 2 ^ 15 → HasValue (of_int binary32 (pos n)) false n 1
  pub below : (n : ℕ) → n < 2 ^ 15 → HasValue (of_int binary32 (negsuc n)) true (suc n) 1
  -- any float, times 32,768, if that is below 2 ^ 128, where floats end
  pub unit : (x : Float) (s : Bool) (a c : ℕ) → T (fits binary32 x) → 0 < c → HasValue x s a c → a * 2 ^ 15 < 2 ^ 128 * c → HasValue (scaled x) s (a * 2 ^ 15) c
