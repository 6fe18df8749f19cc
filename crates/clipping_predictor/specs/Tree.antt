-- A decision as a small tree of tests. Each test has its outcome, and whether it was near (document 01's word: its sides lay 10 apart or less, and
-- since document 02 (x) 6 or less); a leaf is what the outcomes lead to. What near tests lead to if they go the other way is in Turned.antt. Definitions only.
use Rattle.std.specs.Prelude.{Bool, true, false}
use Rattle.levels.specs.declared.decibels.Decibels.{Decibels}
use Rattle.levels.specs.Decibels.{less, at_most, near}

pub data Tree (A : Type 0) : Type 0 where
  leaf : A → Tree A
  -- the outcome, whether it was near, and what follows where it holds and where it does not
  test : Bool → Bool → Tree A → Tree A → Tree A

-- what the outcomes lead to
unfoldable pub reached : {A : Type 0} → Tree A → A
reached (leaf a) = a
reached (test true n held failed) = reached held
reached (test false n held failed) = reached failed

-- the two comparisons of thousandths
abbrev pub if_at_most : {A : Type 0} → Decibels → Decibels → Tree A → Tree A → Tree A
if_at_most a b held failed = test (at_most a b) (near a b) held failed

abbrev pub if_less : {A : Type 0} → Decibels → Decibels → Tree A → Tree A → Tree A
if_less a b held failed = test (less a b) (near a b) held failed
