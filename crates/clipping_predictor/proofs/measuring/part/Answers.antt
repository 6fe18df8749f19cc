-- `clipping_predictor::measuring::part` meets its contract. Assumes nothing.
use mathlib.Core.Path.{◌≡◌, ap}
use Prim.Native.Nat.{ℕ, ◌+◌, ◌*◌, ◌-◌}
use native.Mathlib.Omega.{arith}
use lib.ListN.{take, drop}
use Rattle.clipping_predictor.proofs.measuring.part.Goals as goal

pub returns : goal.returns
returns c =
    let start = c.args.channel * c.args.samples in
    let size : start + c.args.samples - start ≡ c.args.samples = omega arith in
    ap (λ (n : ℕ). take n (drop start c.args.frame.now)) size
