-- `agc2::samples::separate` meets its contract: each turn writes one channel more. Assumes nothing.
use mathlib.Core.Path.{◌≡◌, sym, ap, ◌∙◌}
use mathlib.Core.List.{◌++◌}
use Prim.Native.Nat.{ℕ, ◌+◌, ◌-◌, ◌*◌, ◌≤◌}
use native.Mathlib.Nat.{mul_comm, zero-mul}
use native.Mathlib.Omega.{arith}
use lib.ListN.{length, take, drop}
use Rattle.agc2.specs.Samples.{channel_of, joined}
use Rattle.agc2.proofs.Interleaved.{length_channel, joined_next, kept_joined, part_within, channels_within, part_moments}
use borrow.Author.Rules.{rules}
use Rattle.agc2.proofs.samples.separate.Goals as goal

-- a part is within the frame and, as many moments, within the samples

pub loop-channel-init : goal.loop-channel-init
unfolding joined
loop-channel-init c = (omega arith, ap (λ (k : ℕ). drop k c.args.frame.now) (sym (zero-mul c.args.moments)))

pub overflow_mul-from : goal.overflow_mul-from
overflow_mul-from c =
    let into : c.loop-channel.channel * c.args.moments + c.args.moments ≤ c.args.moments * c.args.channels = part_within _ _ _ (omega arith) in
    let of_samples : c.loop-channel.channel * c.args.moments + c.args.moments ≤ length c.args.samples.now = omega (arith, into, c.requires.0) in
    let h = of_samples in search rules

pub overflow_add-to : goal.overflow_add-to
overflow_add-to c =
    let into : c.loop-channel.channel * c.args.moments + c.args.moments ≤ c.args.moments * c.args.channels = part_within _ _ _ (omega arith) in
    let of_samples : c.loop-channel.channel * c.args.moments + c.args.moments ≤ length c.args.samples.now = omega (arith, into, c.requires.0) in
    let h = of_samples in search rules

pub offset_bounds-frame-from : goal.offset_bounds-frame-from
offset_bounds-frame-from c =
    let into : c.loop-channel.channel * c.args.moments + c.args.moments ≤ c.args.moments * c.args.channels = part_within _ _ _ (omega arith) in
    let of_samples : c.loop-channel.channel * c.args.moments + c.args.moments ≤ length c.args.samples.now = omega (arith, into, c.requires.0) in
    let h = of_samples in search rules

pub slice_bounds-take_channel-end : goal.slice_bounds-take_channel-end
slice_bounds-take_channel-end c =
    let into : c.loop-channel.channel * c.args.moments + c.args.moments ≤ c.args.moments * c.args.channels = part_within _ _ _ (omega arith) in
    let frame-length : length c.loop-channel.frame ≡ length c.args.frame.now = ap length c.loop-channel.invariant.1
    ∙ kept_joined (channel_of c.args.channels c.args.moments c.args.samples.now) c.args.moments (length_channel c.args.channels c.args.moments c.args.samples.now) c.args.frame.now c.loop-channel.channel
    (omega (arith, channels_within c.args.channels c.args.moments c.loop-channel.channel c.loop-channel.invariant.0, c.requires.1)) in
    let of_part : c.loop-channel.channel * c.args.moments + c.args.moments ≤ length c.loop-channel.frame = omega (arith, into, frame-length, c.requires.1) in
    of_part

-- the part that is lent

pub take_channel-requires : goal.take_channel-requires
take_channel-requires c =
    let into : c.loop-channel.channel * c.args.moments + c.args.moments ≤ c.args.moments * c.args.channels = part_within _ _ _ (omega arith) in
    let frame-length : length c.loop-channel.frame ≡ length c.args.frame.now = ap length c.loop-channel.invariant.1
    ∙ kept_joined (channel_of c.args.channels c.args.moments c.args.samples.now) c.args.moments (length_channel c.args.channels c.args.moments c.args.samples.now) c.args.frame.now c.loop-channel.channel
    (omega (arith, channels_within c.args.channels c.args.moments c.loop-channel.channel c.loop-channel.invariant.0, c.requires.1)) in
    let of_part : c.loop-channel.channel * c.args.moments + c.args.moments ≤ length c.loop-channel.frame = omega (arith, into, frame-length, c.requires.1) in
    let lent : let from = c.loop-channel.channel * c.args.moments in let part = take (from + c.args.moments - from) (drop from c.loop-channel.frame) in (length part ≡ c.args.moments) × (length part * c.args.channels ≤ length c.args.samples.now) = let from = c.loop-channel.channel * c.args.moments in
    part_moments c.args.channels c.args.moments from (from + c.args.moments - from) (length c.args.samples.now) c.loop-channel.frame (omega arith) c.requires.0 (of_part) in
    (omega arith, lent.1)

pub loop-channel-preserved : goal.loop-channel-preserved
loop-channel-preserved c =
    let into : c.loop-channel.channel * c.args.moments + c.args.moments ≤ c.args.moments * c.args.channels = part_within _ _ _ (omega arith) in
    let frame-length : length c.loop-channel.frame ≡ length c.args.frame.now = ap length c.loop-channel.invariant.1
    ∙ kept_joined (channel_of c.args.channels c.args.moments c.args.samples.now) c.args.moments (length_channel c.args.channels c.args.moments c.args.samples.now) c.args.frame.now c.loop-channel.channel
    (omega (arith, channels_within c.args.channels c.args.moments c.loop-channel.channel c.loop-channel.invariant.0, c.requires.1)) in
    let of_part : c.loop-channel.channel * c.args.moments + c.args.moments ≤ length c.loop-channel.frame = omega (arith, into, frame-length, c.requires.1) in
    let lent : let from = c.loop-channel.channel * c.args.moments in let part = take (from + c.args.moments - from) (drop from c.loop-channel.frame) in (length part ≡ c.args.moments) × (length part * c.args.channels ≤ length c.args.samples.now) = let from = c.loop-channel.channel * c.args.moments in
    part_moments c.args.channels c.args.moments from (from + c.args.moments - from) (length c.args.samples.now) c.loop-channel.frame (omega arith) c.requires.0 (of_part) in
    let f = channel_of c.args.channels c.args.moments c.args.samples.now in
    let from = c.loop-channel.channel * c.args.moments in (
      omega arith,
      joined_next f c.args.moments (length_channel c.args.channels c.args.moments c.args.samples.now) c.args.frame.now c.loop-channel.frame _ c.loop-channel.channel (from + c.args.moments - from) c.loop-channel.invariant.1
          (c.take_channel.ensures ∙ ap (λ (n : ℕ). channel_of c.args.channels n c.args.samples.now c.loop-channel.channel) lent.0) (omega arith),
    )

pub shape_of-frame : goal.shape_of-frame
shape_of-frame c =
    let frame-length : length c.loop-channel.frame ≡ length c.args.frame.now = ap length c.loop-channel.invariant.1
    ∙ kept_joined (channel_of c.args.channels c.args.moments c.args.samples.now) c.args.moments (length_channel c.args.channels c.args.moments c.args.samples.now) c.args.frame.now c.loop-channel.channel
    (omega (arith, channels_within c.args.channels c.args.moments c.loop-channel.channel c.loop-channel.invariant.0, c.requires.1)) in
    frame-length

pub returns : goal.returns
returns c =
    let all : c.loop-channel.channel ≡ c.args.channels = omega (arith, c.loop-channel.invariant.0) in
    c.loop-channel.invariant.1 ∙ ap (λ (k : ℕ). joined (channel_of c.args.channels c.args.moments c.args.samples.now) k ++ drop (k * c.args.moments) c.args.frame.now) all
    ∙ ap (λ (k : ℕ). joined (channel_of c.args.channels c.args.moments c.args.samples.now) c.args.channels ++ drop k c.args.frame.now) (mul_comm c.args.channels c.args.moments)
