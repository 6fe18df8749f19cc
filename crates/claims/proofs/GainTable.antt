-- The gain table never falls. Assumes nothing.
use mathlib.Core.Path.{refl}
use Rattle.gain_map.specs.GainMap.{gain_map}
use Rattle.gain_map.proofs.GainTable.{never_falls, ends}
use Rattle.claims.specs.GainTable.{NeverFalls}

pub never_falls_holds : NeverFalls
unfolding gain_map
never_falls_holds = record { values = refl; lowest = ends.0; highest = ends.1; order = never_falls }
