-- `frame_lines::digits::digits_before` meets its contract: the first character that is no digit, or the end. Assumes nothing.
use mathlib.Core.Path.{◌≡◌, refl, sym, ◌∙◌}
use mathlib.Core.Bool.{Bool, true, false, cond}
use Prim.Native.Nat.{ℕ, ◌≤◌}
use native.Mathlib.Omega.{arith}
use lib.Dec.{ltb}
use Rattle.std.proofs.Common.{Some, None, rules, tests}
use Rattle.std.specs.List.{position}
use Rattle.std.proofs.lemmas.List.Sums.{prefix_len-le-length}
use borrow.Author.Tests.{ltb-false}
use Rattle.std.proofs.lemmas.Iterator.{YieldsList-from_slice}
use Rattle.std.proofs.lemmas.Iterator.Search.{position_from_yields_List}
use Rattle.frame_lines.proofs.SampleTexts.{other}
use Rattle.frame_lines.proofs.digits.digits_before.Goals as goal

found_if : (t : Bool) (m n : ℕ) → cond t (Some m) None ≡ Some n → n ≡ m
found_if true m n e = cc
found_if false m n e = let z : ◌≡◌ {A = ℕ} 0 1 = cc in absurd (omega arith)

lost_if : (m n : ℕ) (t : Bool) → ltb m n ≡ t → m ≤ n → cond t (Some m) None ≡ None → n ≡ m
lost_if m n true h k e = let z : ◌≡◌ {A = ℕ} 0 1 = cc in absurd (omega arith)
lost_if m n false h k e = omega (arith, ltb-false m n h)

pub returns-in-Some : goal.returns-in-Some
returns-in-Some c =
    let is : c.position.result ≡ position other c.args.text.now = position_from_yields_List other _ _ _ c.position.ensures.ran (YieldsList-from_slice c.args.text.now cc) (λ x b q k. search (rules, tests)) in
    found_if _ _ _ (sym is ∙ c.in-Some.is)

pub returns-in-None : goal.returns-in-None
returns-in-None c =
    let is : c.position.result ≡ position other c.args.text.now = position_from_yields_List other _ _ _ c.position.ensures.ran (YieldsList-from_slice c.args.text.now cc) (λ x b q k. search (rules, tests)) in
    lost_if _ _ _ refl (prefix_len-le-length _ c.args.text.now) (sym is ∙ c.in-None.is)
