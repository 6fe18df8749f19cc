-- `clipping_predictor::fresh` meets its contract: every ring is the one empty ring of capacity delay + reference. Assumes nothing.
use Prim.Native.Nat.{◌+◌}
use mir.Syntax.{w32}
use mir.ValLaws.{to_z_pos}
use native.Mathlib.Omega.{arith}
use Rattle.clipping_predictor.proofs.Frames.{made_fresh}
use Rattle.clipping_predictor.proofs.Rings.{made_ring}
use Rattle.clipping_predictor.proofs.fresh.Goals as goal

pub returns : goal.returns
returns c =
    let n = c.args.settings.delay + c.args.settings.reference in
    made_fresh c.args.channels c.args.settings c.new-made.result.ring c.requires.0 c.requires.1 c.requires.2
    (made_ring n _ c.new-made.result (to_z_pos w32 n (omega arith)) (omega arith) c.requires.0.room c.new-made.ensures)
