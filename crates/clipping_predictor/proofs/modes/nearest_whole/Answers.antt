-- `clipping_predictor::modes::nearest_whole` meets its contract, by the sign. Assumes nothing.
use mathlib.Core.Path.{◌≡◌, ap, ◌∙◌}
use native.Mathlib.Omega.{arith}
use Prim.Native.Nat.{ℕ, ◌+◌, ◌/◌}
use lib.IntN.{nat_abs}
use mir.Syntax.{w32}
use mir.ValLaws.{to_z-of_z}
use Rattle.clipping_predictor.specs.Estimate.{nearest_whole}
use Rattle.clipping_predictor.proofs.Signed.{whole_below, whole_above, size_fits}
use Rattle.clipping_predictor.proofs.modes.nearest_whole.Goals as goal
use Rattle.clipping_predictor.proofs.modes.nearest_whole.Goals.{Start}

-- z, as the machine reads it back
back : (c : Start) → mir.Val.to_z w32 (mir.Val.of_z w32 c.args.z) ≡ c.args.z
back c = to_z-of_z w32 c.args.z c.ranges.z

pub returns-then-z-lt0 : goal.returns-then-z-lt0
returns-then-z-lt0 c = whole_below (mir.Val.to_z w32 (mir.Val.of_z w32 c.args.z)) c.if-z-lt0.true ∙ ap nearest_whole (back c.before)

pub overflow_add-result : goal.overflow_add-result
overflow_add-result c = omega (arith, c.unsigned_abs.ensures.value, size_fits c.args.z c.ranges.z.sfits, ap nat_abs (back c.before.before))

pub returns : goal.returns
returns c =
    ap (λ (n : ℕ). (n + 500) / 1000) c.unsigned_abs.ensures.value
    ∙ whole_above (mir.Val.to_z w32 (mir.Val.of_z w32 c.args.z)) c.if-z-lt0.false ∙ ap nearest_whole (back c.before.before)
