-- `agc2::samples::take_channel` meets its contract: each turn writes the sample of one moment more. Assumes nothing.
use mathlib.Core.Path.{◌≡◌}
use Prim.Native.Nat.{◌+◌, ◌*◌, ◌<◌}
use native.Mathlib.Omega.{arith}
use lib.Ieee.{nan}
use lib.ListN.{length}
use Rattle.agc2.specs.Samples.{channel_of}
use Rattle.agc2.proofs.Interleaved.{starts, goes_on, same_length as kept-length, length_channel, sample_at, place_within, whole_part}
use borrow.Author.Rules.{rules}
use Rattle.agc2.proofs.samples.take_channel.Goals as goal

-- the moment is one of the part's, and so within the samples

pub loop-i-init : goal.loop-i-init
loop-i-init c = starts _ _

pub overflow_mul-part : goal.overflow_mul-part
overflow_mul-part c =
    let at-below : c.loop-i.i * c.args.channels + c.args.channel < length c.args.samples.now = omega (arith, place_within c.args.channels c.args.channel (length c.args.part.now) c.loop-i.i c.requires.0 (omega arith), c.requires.1) in
    let h = at-below in search rules

pub overflow_add-part : goal.overflow_add-part
overflow_add-part c =
    let at-below : c.loop-i.i * c.args.channels + c.args.channel < length c.args.samples.now = omega (arith, place_within c.args.channels c.args.channel (length c.args.part.now) c.loop-i.i c.requires.0 (omega arith), c.requires.1) in
    let h = at-below in search rules

pub offset_bounds-samples-i : goal.offset_bounds-samples-i
offset_bounds-samples-i c =
    let at-below : c.loop-i.i * c.args.channels + c.args.channel < length c.args.samples.now = omega (arith, place_within c.args.channels c.args.channel (length c.args.part.now) c.loop-i.i c.requires.0 (omega arith), c.requires.1) in
    let h = at-below in search rules

pub bounds-samples-i : goal.bounds-samples-i
bounds-samples-i c =
    let at-below : c.loop-i.i * c.args.channels + c.args.channel < length c.args.samples.now = omega (arith, place_within c.args.channels c.args.channel (length c.args.part.now) c.loop-i.i c.requires.0 (omega arith), c.requires.1) in
    at-below

pub bounds-part-i : goal.bounds-part-i
bounds-part-i c =
    let count : length (channel_of c.args.channels (length c.args.part.now) c.args.samples.now c.args.channel) ≡ length c.args.part.now = length_channel c.args.channels (length c.args.part.now) c.args.samples.now c.args.channel in
    let part_length : length c.loop-i.part ≡ length c.args.part.now = kept-length _ _ _ _ c.loop-i.invariant (omega (arith, count)) in
    omega (arith, part_length)

pub loop-i-preserved : goal.loop-i-preserved
loop-i-preserved c =
    let count : length (channel_of c.args.channels (length c.args.part.now) c.args.samples.now c.args.channel) ≡ length c.args.part.now = length_channel c.args.channels (length c.args.part.now) c.args.samples.now c.args.channel in
    goes_on _ _ _ _ nan _ c.loop-i.invariant (omega (arith, count)) (omega (arith, count))
    (sample_at c.args.channels (length c.args.part.now) c.args.samples.now c.args.channel c.loop-i.i _ nan (omega arith) (search rules))

pub shape_of-part : goal.shape_of-part
shape_of-part c =
    let count : length (channel_of c.args.channels (length c.args.part.now) c.args.samples.now c.args.channel) ≡ length c.args.part.now = length_channel c.args.channels (length c.args.part.now) c.args.samples.now c.args.channel in
    let part_length : length c.loop-i.part ≡ length c.args.part.now = kept-length _ _ _ _ c.loop-i.invariant (omega (arith, count)) in
    part_length

pub returns : goal.returns
returns c =
    let count : length (channel_of c.args.channels (length c.args.part.now) c.args.samples.now c.args.channel) ≡ length c.args.part.now = length_channel c.args.channels (length c.args.part.now) c.args.samples.now c.args.channel in
    whole_part _ _ _ _ c.loop-i.invariant (omega (arith, count)) (count)
