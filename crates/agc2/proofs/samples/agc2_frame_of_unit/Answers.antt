-- `agc2::samples::agc2_frame_of_unit` meets its contract: each turn writes one sample more. Assumes nothing.
use mathlib.Core.Path.{◌≡◌}
use mathlib.Core.List.{List}
use Prim.Native.Nat.{◌≤◌}
use native.Mathlib.Omega.{arith}
use lib.Ieee.{Float, nan, of_bits, of_int}
use lib.ListN.{length, length-map}
use Rattle.agc2.specs.Samples.{scaled, unit_frame}
use Rattle.agc2.proofs.Interleaved.{starts, goes_on, same_length as kept-length, written_all, not_laid, get_d_map}
use Rattle.agc2.proofs.samples.agc2_frame_of_unit.Goals as goal

count : (samples : List Float) → length (unit_frame samples) ≡ length samples
count samples = length-map samples scaled

pub returns-then-frame-count : goal.returns-then-frame-count
returns-then-frame-count c =
    not_laid c.args.frame.now (unit_frame c.args.samples.now) (omega (arith, count c.args.samples.now))

-- the frame has room

pub loop-k-init : goal.loop-k-init
loop-k-init c = starts _ _

pub bounds-frame-k : goal.bounds-frame-k
bounds-frame-k c =
    let whole : length (unit_frame c.args.samples.now) ≤ length c.args.frame.now = omega (arith, count c.args.samples.now) in
    let frame-length : length c.loop-k.frame ≡ length c.args.frame.now = kept-length _ _ _ _ c.loop-k.invariant (whole) in
    omega (arith, frame-length)

pub loop-k-preserved : goal.loop-k-preserved
unfolding of_bits of_int
loop-k-preserved c =
    let whole : length (unit_frame c.args.samples.now) ≤ length c.args.frame.now = omega (arith, count c.args.samples.now) in
    goes_on _ _ _ _ nan _ c.loop-k.invariant (whole) (omega (arith, count c.args.samples.now)) (get_d_map scaled c.args.samples.now c.loop-k.k nan nan (omega arith))

pub shape_of-frame : goal.shape_of-frame
shape_of-frame c =
    let whole : length (unit_frame c.args.samples.now) ≤ length c.args.frame.now = omega (arith, count c.args.samples.now) in
    let frame-length : length c.loop-k.frame ≡ length c.args.frame.now = kept-length _ _ _ _ c.loop-k.invariant (whole) in
    frame-length

pub returns : goal.returns
returns c =
    let whole : length (unit_frame c.args.samples.now) ≤ length c.args.frame.now = omega (arith, count c.args.samples.now) in
    written_all c.args.frame.now (unit_frame c.args.samples.now) _ _ c.loop-k.invariant (omega (arith, count c.args.samples.now)) (whole)
