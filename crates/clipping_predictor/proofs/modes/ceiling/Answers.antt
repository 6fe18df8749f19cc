-- `modes::ceiling` meets its contract, by its test. Assumes nothing.
use mathlib.Core.Path.{◌≡◌, sym, ap, ◌∙◌}
use mathlib.Core.Bool.{Bool, ◌&&◌}
use Prim.Native.Nat.{ℕ, ◌+◌, ◌*◌, ◌≤◌}
use native.Mathlib.Omega.{arith}
use lib.Dec.{ltb}
use lib.IntN.{ℤ, pos}
use lib.Signed.{le_z}
use mir.Syntax.{w32}
use mir.ValLaws.{to_z-of_z, to_z_pos}
use Rattle.levels.specs.declared.decibels.Decibels.TheVariants.{Finite}
use Rattle.levels.specs.Decibels.{near}
use Rattle.clipping_predictor.specs.Turned.{only, tested, estimated}
use Rattle.clipping_predictor.specs.Estimate.{max_gain_change, nearest_whole, adaptive_drop}
use Rattle.clipping_predictor.proofs.Paths.{held_sure, failed_sure}
use Rattle.clipping_predictor.proofs.Signed.{whole_room}
use Rattle.clipping_predictor.proofs.modes.ceiling.Goals as goal
use Rattle.clipping_predictor.proofs.modes.ceiling.Goals.{After-near_whole-near, After-nearest_whole-k, Start}

-- z as the machine reads it back, its nearest whole dB, and that in thousandths
back : (c : Start) → mir.Val.to_z w32 (mir.Val.of_z w32 c.args.z) ≡ c.args.z
back c = to_z-of_z w32 c.args.z c.ranges.z

nearest : (c : After-nearest_whole-k) → c.nearest_whole-k.result ≡ nearest_whole c.args.z
nearest c = c.nearest_whole-k.ensures ∙ ap nearest_whole (back c.before)

room : (c : After-nearest_whole-k) → c.nearest_whole-k.result ≤ 3000
room c = omega (arith, whole_room c.args.z c.requires, nearest c)

whole : (c : After-nearest_whole-k) → mir.Val.to_z w32 (c.nearest_whole-k.result * 1000) ≡ pos (nearest_whole c.args.z * 1000)
whole c = to_z_pos w32 (c.nearest_whole-k.result * 1000) (omega (arith, room c)) ∙ ap (λ (k : ℕ). pos (k * 1000)) (nearest c)

abbrev mark : ℤ → Bool
mark z = ltb (nearest_whole z) max_gain_change && near (Finite z) (Finite (pos (nearest_whole z * 1000)))

nearness : (n : After-near_whole-near) → n.near_whole-near.result ≡ mark n.args.z
nearness n =
    n.near_whole-near.ensures
    ∙ (λ i. ltb (nearest n.before i) max_gain_change && near (Finite (back n.before.before i)) (Finite (whole n.before i)))

test-is : (n : After-near_whole-near)
    → le_z (mir.Val.to_z w32 (mir.Val.of_z w32 n.args.z)) (mir.Val.to_z w32 (n.nearest_whole-k.result * 1000)) ≡ le_z n.args.z (pos (nearest_whole n.args.z * 1000))
test-is n = λ i. le_z (back n.before.before i) (whole n.before i)

pub overflow_mul-whole : goal.overflow_mul-whole
overflow_mul-whole c = omega (arith, room c)

pub overflow_cast-whole : goal.overflow_cast-whole
overflow_cast-whole c = record { sfits = omega (arith, room c) }

pub overflow_add-k : goal.overflow_add-k
overflow_add-k c = omega (arith, room c.before.before.before.before)

pub returns-then-near : goal.returns-then-near
unfolding estimated
returns-then-near c =
    let k = nearest c.before.before.before.before.before.before.before in
    c.after_test.ensures
    ∙ (λ i. tested (test-is c.before.before.before.before.before.before i) ((sym c.if-near.true ∙ nearness c.before.before.before.before.before.before) i) ((c.sure-held.ensures ∙ ap only (c.adaptive_drop.ensures ∙ ap (adaptive_drop c.args.a) k)) i) ((c.sure-failed.ensures ∙ ap only (c.adaptive_drop-then-near.ensures ∙ ap (λ (m : ℕ). adaptive_drop c.args.a (m + 1)) k)) i))

pub returns-then-z-whole : goal.returns-then-z-whole
unfolding estimated
returns-then-z-whole c =
    let k = nearest c.before.before.before.before.before in
    c.sure.ensures ∙ ap only (c.adaptive_drop-then-z-whole.ensures ∙ ap (adaptive_drop c.args.a) k)
    ∙ held_sure _ (mark c.args.z) (only (adaptive_drop c.args.a (nearest_whole c.args.z))) (only (adaptive_drop c.args.a (nearest_whole c.args.z + 1))) (sym (nearness c.before.before.before.before) ∙ c.if-near.false) (sym (test-is c.before.before.before.before) ∙ c.if-z-whole.true)

pub overflow_add-k-2 : goal.overflow_add-k-2
overflow_add-k-2 c = omega (arith, room c.before.before.before)

pub returns : goal.returns
unfolding estimated
returns c =
    let k = nearest c.before.before.before.before.before in
    c.sure-2.ensures ∙ ap only (c.adaptive_drop-2.ensures ∙ ap (λ (m : ℕ). adaptive_drop c.args.a (m + 1)) k)
    ∙ failed_sure _ (mark c.args.z) (only (adaptive_drop c.args.a (nearest_whole c.args.z))) (only (adaptive_drop c.args.a (nearest_whole c.args.z + 1))) (sym (nearness c.before.before.before.before) ∙ c.if-near.false) (sym (test-is c.before.before.before.before) ∙ c.if-z-whole.false)
