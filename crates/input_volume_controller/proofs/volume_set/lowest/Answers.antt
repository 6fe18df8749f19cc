-- `lowest` meets its contract: what is left leads to the same as all. Assumes nothing.
use mathlib.Core.Path.{sym, ap, ◌∙◌}
use Prim.Native.Nat.{ℕ, ◌+◌}
use native.Mathlib.Omega.{arith}
use lib.ListN.{drop}
use Rattle.input_volume_controller.specs.Volumes.{lowest_from}
use Rattle.input_volume_controller.specs.VolumeSet.{level_at, levels_of}
use Rattle.input_volume_controller.proofs.Sets.{lowest_starts, lowest_goes_on, lowest_ends}
use Rattle.input_volume_controller.proofs.volume_set.lowest.Goals as goal

pub bounds-levels-0 : goal.bounds-levels-0
bounds-levels-0 c = omega arith

pub loop-i-init : goal.loop-i-init
unfolding levels_of
loop-i-init c = (omega arith, c.requires.0, lowest_starts (level_at c.args.levels) c.args.channels c.requires.0)

pub loop-i-preserved : goal.loop-i-preserved
unfolding levels_of
loop-i-preserved c = (
  omega arith,
  omega arith,
  ap (λ (low : ℕ). lowest_from low (drop (c.loop-i.i + 1) (levels_of c.args.levels c.args.channels))) c.min-low.ensures
      ∙ lowest_goes_on (level_at c.args.levels) c.args.channels c.loop-i.low c.loop-i.i (omega arith)
      ∙ c.loop-i.invariant.2,
)

pub returns : goal.returns
unfolding levels_of
returns c =
    sym (lowest_ends (level_at c.args.levels) c.args.channels c.loop-i.low c.loop-i.i c.loop-i-test.false) ∙ c.loop-i.invariant.2
