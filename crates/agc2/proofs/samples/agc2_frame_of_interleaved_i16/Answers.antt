-- `agc2::samples::agc2_frame_of_interleaved_i16` meets its contract. Assumes nothing.
use mathlib.Core.Path.{refl}
use native.Mathlib.Nat.{div-mul-le_self}
use native.Mathlib.Omega.{arith}
use lib.ListN.{length}
use Rattle.agc2.specs.Samples.{interleaved_frame}
use Rattle.agc2.proofs.Interleaved.{none_laid, not_laid, length_interleaved, no_channel, no_moment, separated, counted_within}
use borrow.Author.Rules.{rules}
use Rattle.agc2.proofs.samples.agc2_frame_of_interleaved_i16.Goals as goal

pub returns-then-channels-eq0 : goal.returns-then-channels-eq0
returns-then-channels-eq0 c =
    none_laid c.args.frame.now (interleaved_frame c.args.channels c.args.samples.now) (no_channel c.args.channels c.args.samples.now c.if-channels-eq0.true)

pub returns-then-moments-eq0 : goal.returns-then-moments-eq0
returns-then-moments-eq0 c =
    none_laid c.args.frame.now (interleaved_frame c.args.channels c.args.samples.now) (no_moment c.args.channels c.args.samples.now c.if-moments-eq0.true)

pub overflow_mul-moments : goal.overflow_mul-moments
overflow_mul-moments c =
    let within = div-mul-le_self (length c.args.samples.now) c.args.channels in
    search rules

pub returns-then-frame-moments : goal.returns-then-frame-moments
returns-then-frame-moments c =
    not_laid c.args.frame.now (interleaved_frame c.args.channels c.args.samples.now) (omega (arith, length_interleaved c.args.channels c.args.samples.now))

pub separate-requires : goal.separate-requires
separate-requires c =
    counted_within c.args.channels c.args.samples.now c.args.frame.now 1 c.in-1.is (omega arith)

pub separate-requires-in-2 : goal.separate-requires-in-2
separate-requires-in-2 c =
    counted_within c.args.channels c.args.samples.now c.args.frame.now 2 c.in-2.is (omega arith)

pub separate-requires-in_default : goal.separate-requires-in_default
separate-requires-in_default c =
    counted_within c.args.channels c.args.samples.now c.args.frame.now c.args.channels refl (omega arith)

pub returns-in-1 : goal.returns-in-1
returns-in-1 c =
    separated c.args.channels c.args.samples.now c.args.frame.now _ 1 c.in-1.is (omega arith) c.separate.ensures

pub returns-in-2 : goal.returns-in-2
returns-in-2 c =
    separated c.args.channels c.args.samples.now c.args.frame.now _ 2 c.in-2.is (omega arith) c.separate-in-2.ensures

pub returns-in_default : goal.returns-in_default
returns-in_default c =
    separated c.args.channels c.args.samples.now c.args.frame.now _ c.args.channels refl (omega arith) c.separate-in_default.ensures
