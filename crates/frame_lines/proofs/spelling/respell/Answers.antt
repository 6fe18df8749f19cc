-- `frame_lines::spelling::respell` meets its contract, way by way. Assumes nothing.
use mathlib.Core.Path.{sym, ◌∙◌}
use Prim.Native.Nat.{◌≤◌, ◌<◌}
use native.Mathlib.Omega.{arith}
use lib.ListN.{length}
use Rattle.frame_lines.proofs.Tried.{taken, refused}
use Rattle.frame_lines.proofs.spelling.respell.Goals as goal

pub returns-then-is_well_formed : goal.returns-then-is_well_formed
returns-then-is_well_formed c =
    let tests : (length c.args.line.now ≤ 2000) × (length c.args.line.now < length c.args.out.now) = (omega arith, omega arith) in
    let t = tests in
    taken _ _ _ _ c.put_fields-walked.ensures _ c.forgiven_length-n.ensures t.0 t.1 (sym c.is_well_formed.ensures ∙ c.if-is_well_formed.true)

pub returns : goal.returns
returns c =
    let tests : (length c.args.line.now ≤ 2000) × (length c.args.line.now < length c.args.out.now) = (omega arith, omega arith) in
    let t = tests in
    refused _ _ _ _ c.put_fields-walked.ensures _ c.forgiven_length-n.ensures t.0 t.1 (sym c.is_well_formed.ensures ∙ c.if-is_well_formed.false)
