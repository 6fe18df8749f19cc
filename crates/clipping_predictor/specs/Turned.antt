-- Document 02 (iii): what an estimate can come to where near comparisons and ceilings are put "on [the] other side, one or several at once"; those "reached only after such a turn count too".
-- Definitions only.
use Rattle.std.specs.Prelude.{◌≡◌, ◌⊎◌, Bool, true, false, List, [], ◌∷◌, ℕ, min, max, ltb}
use Rattle.clipping_predictor.specs.declared.modes.Estimated.{Estimated}
use Rattle.clipping_predictor.specs.Tree.{Tree, leaf, test}

-- a is what the tests lead to if each near one may go either way and every other one goes its own
unfoldable pub Turned : {A : Type 0} → Tree A → A → Type 0
Turned (leaf b) a = b ≡ a
Turned (test true false held failed) a = Turned held a
Turned (test false false held failed) a = Turned failed a
Turned (test true true held failed) a = Turned held a ⊎ Turned failed a
Turned (test false true held failed) a = Turned failed a ⊎ Turned held a

-- one for each, in order: a choice in every channel
unfoldable pub Each : {A B : Type 0} → (A → B → Type 0) → List A → List B → Type 0
Each R [] [] = Unit {0}
Each R [] (y ∷ ys) = ⊥
Each R (x ∷ xs) [] = ⊥
Each R (x ∷ xs) (y ∷ ys) = R x y × Each R xs ys

-- ---- as the code keeps it: the drop that the tests lead to, and the least and the largest that turns of near tests can lead to. That these are the ends of `Turned` is proved (proofs/Turns.antt).

abbrev pub only : ℕ → Estimated
only n = record { drop = n; low = n; high = n }

-- after a near test: where its outcome leads, and where its turn does
abbrev pub beside : Estimated → Estimated → Estimated
beside a b = record { drop = a.drop; low = min a.low b.low; high = max a.high b.high }

-- what a test leads to, by its outcome and whether it was near
abbrev pub tested : Bool → Bool → Estimated → Estimated → Estimated
tested true false held failed = held
tested false false held failed = failed
tested true true held failed = beside held failed
tested false true held failed = beside failed held

-- what all tests of a tree lead to
unfoldable pub estimated : Tree ℕ → Estimated
estimated (leaf n) = only n
estimated (test outcome near held failed) = tested outcome near (estimated held) (estimated failed)

-- "A single estimate is marked by the same rule over its drop or none": a turn leads to another drop
abbrev pub is_near : Estimated → Bool
is_near e = ltb e.low e.high
