-- `clipping_predictor::modes::adaptive_drop` meets its contract: the calls, one inside the other. Assumes nothing.
use mathlib.Core.Path.{◌≡◌, ap, ◌∙◌}
use Prim.Native.Nat.{ℕ, ◌-◌, ◌^◌, min, max}
use mathlib.Core.Bool.{true}
use native.Mathlib.Omega.{arith}
use lib.IntN.{ℤ, pos, neg_ℤ}
use mir.Syntax.{w32}
use mir.ValLaws.{to_z-of_z}
use Rattle.numbers.specs.Sign.{signed}
use Rattle.gain_map.specs.VolumeUpdate.{walk}
use Rattle.clipping_predictor.specs.Estimate.{drop_by, max_gain_change, adaptive_drop}
use Rattle.clipping_predictor.proofs.modes.adaptive_drop.Goals as goal
use Rattle.clipping_predictor.proofs.modes.adaptive_drop.Goals.{After-with_sign-change}

-- the change that is asked for
change : (w : After-with_sign-change) → mir.Val.to_z w32 (mir.Val.of_z w32 w.with_sign-change.result) ≡ neg_ℤ (pos (min w.args.k max_gain_change))
unfolding signed
change w =
    let e : min (min w.args.k max_gain_change) (2 ^ 31) ≡ min w.args.k max_gain_change = omega arith in
    to_z-of_z w32 w.with_sign-change.result (record { sfits = w.with_sign-change.type_inv }) ∙ w.with_sign-change.ensures ∙ ap (signed true) w.min-size.ensures ∙ ap (λ (n : ℕ). neg_ℤ (pos n)) e

pub returns : goal.returns
unfolding adaptive_drop
returns c =
    c.drop_by.ensures
    ∙ ap (drop_by c.args.a)
    (c.max.ensures
    ∙ ap (λ (n : ℕ). max n c.args.a.step)
    (c.saturating_sub.ensures ∙ ap (λ (n : ℕ). c.args.a.level - n) (c.walk_from-to.ensures ∙ ap (λ (z : ℤ). walk z c.args.a.level c.args.a.least c.args.a.most) (change c.before.before.before.before))))
