-- `frame_lines::spelling::put_small` meets its contract: each turn puts one character more. Assumes nothing.
use mathlib.Core.Path.{◌∙◌}
use mathlib.Core.List.{map}
use Prim.Native.Nat.{◌+◌}
use native.Mathlib.Omega.{arith}
use lib.ListN.{set, length-map}
use Rattle.std.proofs.lemmas.List.Edits.{paste_more}
use Rattle.frame_lines.specs.Forgiven.{lowered}
use Rattle.frame_lines.proofs.Walking.{small_at}
use Rattle.frame_lines.proofs.spelling.put_small.Goals as goal

pub loop-i-preserved : goal.loop-i-preserved
loop-i-preserved c =
    (λ j. set (c.loop-i.invariant j) (c.args.at + c.loop-i.i) ((c.to_ascii_lowercase.ensures.value ∙ small_at c.args.text.now c.loop-i.i) j))
    ∙ paste_more c.args.out.now c.args.at (map lowered c.args.text.now) c.loop-i.i 0 (omega (arith, c.requires)) (omega (arith, length-map c.args.text.now lowered))
