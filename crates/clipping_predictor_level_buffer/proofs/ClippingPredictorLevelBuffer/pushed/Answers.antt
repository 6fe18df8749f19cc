-- `clipping_predictor_level_buffer::ClippingPredictorLevelBuffer::pushed` meets its contract. Assumes nothing.
use mathlib.Core.Path.{◌≡◌, ◌∙◌}
use Prim.Native.Nat.{ℕ, ◌+◌, min}
use native.Mathlib.Omega.{arith}
use Rattle.clipping_predictor_level_buffer.proofs.Places.{after_within}
use Rattle.clipping_predictor_level_buffer.proofs.Records.{pushed}
use Rattle.clipping_predictor_level_buffer.proofs.ClippingPredictorLevelBuffer.pushed.Goals as goal

min_comm : (a b : ℕ) → min a b ≡ min b a
min_comm a b = omega arith

pub offset_bounds-r-at : goal.offset_bounds-r-at
offset_bounds-r-at c = omega (arith, after_within c.args.self.capacity c.args.self.tail c.requires.0.within)

pub bounds-r-at : goal.bounds-r-at
bounds-r-at c = omega (arith, after_within c.args.self.capacity c.args.self.tail c.requires.0.within)

pub returns : goal.returns
returns c =
    let size : c.min-size.result ≡ min c.args.self.capacity (c.args.self.size + 1) = c.min-size.ensures ∙ min_comm (c.args.self.size + 1) c.args.self.capacity in
    rw (c.next-at.ensures, size) (pushed c.args.self c.args.level c.requires.0 c.requires.1)
