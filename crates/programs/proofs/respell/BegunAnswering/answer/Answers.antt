-- `answer` of `respell` meets its contract: each turn uses some of the piece, and keeps what that has begun. Assumes nothing.
use mathlib.Core.Path.{◌≡◌}
use Prim.Native.Nat.{◌-◌, ◌<◌}
use native.Mathlib.Omega.{arith}
use lib.ListN.{length, take, drop}
use borrow.Author.Rules.{rules}
use Rattle.programs.proofs.Reached.{whole, feeds}
use Rattle.programs.proofs.respell.BegunAnswering.answer.Goals as goal

pub loop-rest-smaller-then-out-written-lt-LONGEST_RESPELLING : goal.loop-rest-smaller-then-out-written-lt-LONGEST_RESPELLING
loop-rest-smaller-then-out-written-lt-LONGEST_RESPELLING g c =
    let more : 0 < length c.loop-rest.rest.now = search rules in
    let same : length c.feed-fed.new.out ≡ length (take (length c.loop-rest.out - c.loop-rest.written) (drop c.loop-rest.written c.loop-rest.out)) = search rules in
    let fed = feeds _ _ _ _ _ _ _ c.loop-rest.invariant more _ _ same c.feed-fed.ensures in
    search (rules, fed.shorter)

pub loop-rest-preserved-then-out-written-lt-LONGEST_RESPELLING : goal.loop-rest-preserved-then-out-written-lt-LONGEST_RESPELLING
loop-rest-preserved-then-out-written-lt-LONGEST_RESPELLING g c =
    let more : 0 < length c.loop-rest.rest.now = search rules in
    let same : length c.feed-fed.new.out ≡ length (take (length c.loop-rest.out - c.loop-rest.written) (drop c.loop-rest.written c.loop-rest.out)) = search rules in
    let fed = feeds _ _ _ _ _ _ _ c.loop-rest.invariant more _ _ same c.feed-fed.ensures in
    fed.goes_on 0 fed.fits

pub loop-rest-smaller : goal.loop-rest-smaller
loop-rest-smaller g c =
    let more : 0 < length c.loop-rest.rest.now = search rules in
    let same : length c.feed-fed.new.out ≡ length (take (length c.loop-rest.out - c.loop-rest.written) (drop c.loop-rest.written c.loop-rest.out)) = search rules in
    let fed = feeds _ _ _ _ _ _ _ c.loop-rest.invariant more _ _ same c.feed-fed.ensures in
    search (rules, fed.shorter)

pub loop-rest-preserved : goal.loop-rest-preserved
loop-rest-preserved g c =
    let more : 0 < length c.loop-rest.rest.now = search rules in
    let same : length c.feed-fed.new.out ≡ length (take (length c.loop-rest.out - c.loop-rest.written) (drop c.loop-rest.written c.loop-rest.out)) = search rules in
    let fed = feeds _ _ _ _ _ _ _ c.loop-rest.invariant more _ _ same c.feed-fed.ensures in
    fed.goes_on _ (omega arith)

pub returns-clause-goes_on : goal.returns-clause-goes_on
returns-clause-goes_on g c = λ e. whole _ _ _ _ _ _ _ c.loop-rest.invariant (search rules)
