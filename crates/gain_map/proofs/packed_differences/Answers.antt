-- `gain_map::packed_differences` meets its contract: each arm has the word of its block. Assumes nothing.
use mathlib.Core.Path.{◌≡◌, sym, ap}
use Prim.Native.Nat.{ℕ, suc, ◌≤◌, zero-le}
use native.Mathlib.Omega.{arith}
use lib.ListN.{get_or-eq_default}
use Rattle.gain_map.specs.Differences.{packed, word_of}
use Rattle.gain_map.proofs.packed_differences.Goals as goal

pub returns-in-0 : goal.returns-in-0
unfolding word_of packed
returns-in-0 c = ap word_of (sym c.in-0.is)

pub returns-in-1 : goal.returns-in-1
unfolding word_of packed
returns-in-1 c = ap word_of (sym c.in-1.is)

pub returns-in-2 : goal.returns-in-2
unfolding word_of packed
returns-in-2 c = ap word_of (sym c.in-2.is)

pub returns-in-3 : goal.returns-in-3
unfolding word_of packed
returns-in-3 c = ap word_of (sym c.in-3.is)

pub returns-in-4 : goal.returns-in-4
unfolding word_of packed
returns-in-4 c = ap word_of (sym c.in-4.is)

pub returns-in-5 : goal.returns-in-5
unfolding word_of packed
returns-in-5 c = ap word_of (sym c.in-5.is)

pub returns-in-6 : goal.returns-in-6
unfolding word_of packed
returns-in-6 c = ap word_of (sym c.in-6.is)

pub returns-in-7 : goal.returns-in-7
unfolding word_of packed
returns-in-7 c = ap word_of (sym c.in-7.is)

-- a number that is none of the eight is past the words
after : {n b : ℕ} → (b ≡ n → ⊥) → n ≤ b → suc n ≤ b
after k h = omega arith

pub returns-in_default : goal.returns-in_default
unfolding word_of packed
returns-in_default c =
    let ((((((((_, n0), n1), n2), n3), n4), n5), n6), n7) = c.in_default.in_default-own.rest in
    sym (get_or-eq_default packed 0 {n = c.args.block} (after n7 (after n6 (after n5 (after n4 (after n3 (after n2 (after n1 (after n0 zero-le)))))))))
