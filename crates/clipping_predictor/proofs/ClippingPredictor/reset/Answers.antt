-- `ClippingPredictor::reset` meets its contract: ring by ring. Assumes nothing.
use mathlib.Core.Path.{◌≡◌, refl, subst}
use Prim.Native.Nat.{ℕ, ◌<◌}
use native.Mathlib.Omega.{arith}
use lib.ListN.{get_or}
use Rattle.numbers.proofs.Arrays.{Replaced, replaced_none, replaced_more}
use Rattle.clipping_predictor_level_buffer.specs.Ring.{Good}
use Rattle.clipping_predictor.specs.Predictor.{no_ring}
use Rattle.clipping_predictor.proofs.Frames.{EmptiedAt, all_emptied}
use Rattle.clipping_predictor.proofs.ClippingPredictor.reset.Goals as goal
use Rattle.clipping_predictor.proofs.ClippingPredictor.reset.Goals.{In-loop-c}

-- the channel's ring is still the one that was handed in, and it is in good order
below : (c : In-loop-c) → c.loop-c.c < 8
below c = omega (arith, c.requires.channels_high)

unchanged : (c : In-loop-c) → get_or c.loop-c.p.rings c.loop-c.c no_ring ≡ get_or c.args.self.rings c.loop-c.c no_ring
unchanged c = c.loop-c.invariant.2.rest c.loop-c.c (omega arith)

good_ring : (c : In-loop-c) → Good (get_or c.args.self.rings c.loop-c.c no_ring)
good_ring c = (c.requires.each c.loop-c.c (omega arith)).ring

pub loop-c-init : goal.loop-c-init
loop-c-init c = (omega arith, record { settings = refl; channels = refl }, replaced_none no_ring EmptiedAt c.args.self.rings)

pub offset_bounds-p-c : goal.offset_bounds-p-c
offset_bounds-p-c c = omega (arith, below c)

pub bounds-p-c : goal.bounds-p-c
bounds-p-c c = below c

pub reset-requires : goal.reset-requires
reset-requires c = rw (unchanged c.before) (good_ring c.before)

pub offset_bounds-p-c-in-loop-c : goal.offset_bounds-p-c-in-loop-c
offset_bounds-p-c-in-loop-c c = omega (arith, below c.before.before)

pub bounds-p-c-in-loop-c : goal.bounds-p-c-in-loop-c
bounds-p-c-in-loop-c c = below c.before.before

pub loop-c-preserved : goal.loop-c-preserved
loop-c-preserved c = (
  omega arith,
  record { settings = c.loop-c.invariant.1.settings; channels = c.loop-c.invariant.1.channels },
  replaced_more no_ring EmptiedAt c.args.self.rings c.loop-c.c c.loop-c.p.rings c.reset.result c.loop-c.invariant.2 (omega (arith, below c.before.before, c.requires.places)) c.reset.ensures,
)

pub returns : goal.returns
returns c =
    all_emptied c.args.self c.loop-c.p c.requires c.loop-c.invariant.1 (subst (λ (n : ℕ). Replaced no_ring EmptiedAt n c.args.self.rings c.loop-c.p.rings) (omega arith) c.loop-c.invariant.2)
